-- How many blocks lie between two, the corners of a region that has a cell, and its rows of pieces.
use Rattle.std.proofs.Common.{◌≡◌, ℕ, Bool, true, false, ◌||◌, ℤ, pos, ◌+ℤ◌, ◌-ℤ◌, ◌*ℤ◌, ◌≤ℤ◌, ◌<ℤ◌, [], refl, arith}
use Rattle.std.specs.Int.{int_gap}
use Rattle.std.proofs.lemmas.Int.{ints}
use Rattle.std.proofs.lemmas.Bool.{true≢false}
use lib.Signed.{lt_z}
use Rattle.clip_regions.specs.declared.region.Region.{Region}
use Rattle.clip_regions.specs.FloorDivision.{floor_div}
use Rattle.clip_regions.specs.Regions.{is_empty}
use Rattle.plan_model.specs.Strips.{block_columns, block_rows, pieces}
use Rattle.plan_laws.specs.Pieces.{blocks_between}
use Rattle.strip_planner.specs.Left.{row_from, rows_from}
use Rattle.strip_planner.proofs.Numbers.{gap_from}

-- q is the quotient of v by 8, rounded down
pub record Eighth (v q : ℤ) : Type 0 where
  pub below : (pos 8 *ℤ q) ≤ℤ v
  pub above : v <ℤ (pos 8 *ℤ q +ℤ pos 8)

pub ascending : (x0 x1 q0 q1 : ℤ) → Eighth x0 q0 → Eighth x1 q1 → x0 ≤ℤ x1 → q0 ≤ℤ (q1 +ℤ pos 1)
ascending x0 x1 q0 q1 d e h = omega (arith, ints)

pub count_is : (x0 x1 q0 q1 : ℤ) (n : ℕ) → Eighth x0 q0 → Eighth x1 q1 → x0 ≤ℤ x1 → pos n ≡ q1 +ℤ pos 1 -ℤ q0 → n ≡ int_gap q0 (q1 +ℤ pos 1)
count_is x0 x1 q0 q1 n d e h p =
    gap_from q0 (q1 +ℤ pos 1) n (ascending x0 x1 q0 q1 d e h) p

at_most : (a b : ℤ) → lt_z a b ≡ false → b ≤ℤ a
at_most a b h = grind (arith, ints)

neither : (a b : Bool) → (a || b) ≡ false → (a ≡ false) × (b ≡ false)
neither true b h = (h, absurd (true≢false h))
neither false b h = (refl, h)

pub pieces_none : (r : Region) → is_empty r ≡ true → pieces r ≡ []
unfolding pieces
pieces_none r h = rw h

-- the pieces are the whole rows of the blocks that the region meets
pub pieces_are : (r : Region) → is_empty r ≡ false → pieces r ≡ rows_from r (floor_div r.x0 8) (blocks_between r.x0 r.x1) (floor_div r.y0 8) (blocks_between r.y0 r.y1)
unfolding pieces block_columns block_rows rows_from row_from blocks_between
pieces_are r h = rw h
