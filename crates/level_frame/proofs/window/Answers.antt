-- The corners are those of the definition, and each clause follows from where the centres lie.
use Rattle.std.proofs.Common.{◌≡◌, ℕ, ◌^◌, ◌≤◌, ℤ, pos, neg_ℤ, ◌+ℤ◌, ◌-ℤ◌, ◌≤ℤ◌, ap, sym, ◌∙◌, subst, arith}
use Rattle.std.proofs.lemmas.Int.{ints}
use mathlib.Core.Path.{ap₂}
use mir.Syntax.{w32}
use mir.Val.{of_z, to_z}
use Rattle.clip_regions.specs.Regions.{HasEvenCorners}
use Rattle.plan_model.specs.Window.{window, center, half_width, IsInReach}
use Rattle.level_frame.proofs.Numbers.{power_least}
use Rattle.level_frame.proofs.Corners.{window_even, some_cell, IsCentered, centered_at, window_in_reach}
use Rattle.level_frame.proofs.window.Goals as goal
use Rattle.clip_regions.proofs.Numbers.{read_back}
use Rattle.clip_regions.proofs.Cells.{same_corners}

half_below : (h : ℤ) (n : ℕ) → h ≡ pos n → h ≤ℤ pos 127 → n ≤ 127
half_below h n e most = omega (arith, ints)

column : (c : goal.After-center-row) → c.center-column.result ≡ center c.args.level c.args.x
column c = c.center-column.ensures.value ∙ ap (center c.args.level) (read_back c.args.x c.ranges.x)

row : (c : goal.After-center-row) → c.center-row.result ≡ center c.args.level c.args.y
row c = c.center-row.ensures.value ∙ ap (center c.args.level) (read_back c.args.y c.ranges.y)

-- a corner of the code, without conversions
record IsNear (z h : ℤ) : Type 0 where
  low : neg_ℤ (pos 8388609) ≤ℤ z
  high : z ≤ℤ pos 8388609
  least : pos 7 ≤ℤ h
  most : h ≤ℤ pos 127

before : (z h : ℤ) → IsNear z h → to_z w32 (of_z w32 (to_z w32 (of_z w32 z) -ℤ to_z w32 (of_z w32 h))) ≡ z -ℤ h
before z h near = omega (arith, ints)

after : (z h : ℤ) → IsNear z h → to_z w32 (of_z w32 (to_z w32 (of_z w32 z) +ℤ to_z w32 (of_z w32 h))) ≡ z +ℤ h
after z h near = omega (arith, ints)

near_column : (c : goal.After-center-row) → IsNear c.center-column.result c.half_width-half.result
near_column c = record { low = c.center-column.ensures.low; high = c.center-column.ensures.high; least = c.half_width-half.ensures.low; most = c.half_width-half.ensures.high }

near_row : (c : goal.After-center-row) → IsNear c.center-row.result c.half_width-half.result
near_row c = record { low = c.center-row.ensures.low; high = c.center-row.ensures.high; least = c.half_width-half.ensures.low; most = c.half_width-half.ensures.high }

pub returns-clause-value : goal.returns-clause-value
unfolding window
returns-clause-value c =
    same_corners _ (window c.args.k c.args.level c.args.x c.args.y) (before c.center-column.result c.half_width-half.result (near_column c) ∙ ap₂ (λ (a b : ℤ). a -ℤ b) (column c) c.half_width-half.ensures.value) (before c.center-row.result c.half_width-half.result (near_row c) ∙ ap₂ (λ (a b : ℤ). a -ℤ b) (row c) c.half_width-half.ensures.value) (after c.center-column.result c.half_width-half.result (near_column c) ∙ ap₂ (λ (a b : ℤ). a +ℤ b) (column c) c.half_width-half.ensures.value) (after c.center-row.result c.half_width-half.result (near_row c) ∙ ap₂ (λ (a b : ℤ). a +ℤ b) (row c) c.half_width-half.ensures.value)

pub returns-clause-placed : goal.returns-clause-placed
returns-clause-placed c = record {
  x0_low = omega (arith, ints);
  x0_high = omega (arith, ints);
  y0_low = omega (arith, ints);
  y0_high = omega (arith, ints);
  x1_low = omega (arith, ints);
  x1_high = omega (arith, ints);
  y1_low = omega (arith, ints);
  y1_high = omega (arith, ints);
}

pub returns-clause-even : goal.returns-clause-even
returns-clause-even c = subst HasEvenCorners (sym (returns-clause-value c)) (window_even c.args.k c.args.level c.args.x c.args.y (omega arith))

pub returns-clause-not_empty : goal.returns-clause-not_empty
returns-clause-not_empty c = some_cell _ (omega (arith, ints)) (omega (arith, ints))

pub returns-clause-columns : goal.returns-clause-columns
returns-clause-columns c = omega (arith, ints)

pub returns-clause-rows : goal.returns-clause-rows
returns-clause-rows c = omega (arith, ints)

pub returns-clause-in_reach : goal.returns-clause-in_reach
returns-clause-in_reach c =
    let half : half_width c.args.k ≤ 127 = half_below c.half_width-half.result (half_width c.args.k) c.half_width-half.ensures.value c.half_width-half.ensures.high in
    let spacing : 2 ^ c.args.level ≤ 2048 = power_least c.args.level 11 c.requires.level in
    let across : IsCentered (center c.args.level c.args.x) c.args.x (2 ^ c.args.level) = centered_at (center c.args.level c.args.x) c.center-column.result c.args.x (to_z w32 (of_z w32 c.args.x)) (2 ^ c.args.level) (column c) (read_back c.args.x c.ranges.x) (record { west = c.center-column.ensures.west; east = c.center-column.ensures.east }) in
    let along : IsCentered (center c.args.level c.args.y) c.args.y (2 ^ c.args.level) = centered_at (center c.args.level c.args.y) c.center-row.result c.args.y (to_z w32 (of_z w32 c.args.y)) (2 ^ c.args.level) (row c) (read_back c.args.y c.ranges.y) (record { west = c.center-row.ensures.west; east = c.center-row.ensures.east }) in
    subst (IsInReach c.args.level) (sym (returns-clause-value c)) (window_in_reach c.args.k c.args.level c.args.x c.args.y half spacing c.requires.x c.requires.y across along)
