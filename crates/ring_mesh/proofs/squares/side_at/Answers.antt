-- Both ends of the side lie in the ring's region.
use Rattle.std.proofs.Common.{◌≡◌, ℕ, ◌<◌, ◌≤◌, ◌^◌, ℤ, ◌≤ℤ◌, pos, neg_ℤ, ◌+ℤ◌, sym, ◌∙◌, subst, w32, arith}
use Rattle.std.proofs.lemmas.Int.{ints}
use Rattle.clip_regions.specs.declared.region.Region.{Region}
use Rattle.clip_regions.specs.Regions.{columns, rows}
use Rattle.mesh_laws.specs.Conditions.{IsCell}
use Rattle.mesh_laws.specs.Rings.{corner_of}
use Rattle.ring_mesh.specs.Squares.{HasSquares}
use Rattle.clip_regions.proofs.Gaps.{gap_ends, gap_holds}
use Rattle.ring_mesh.proofs.squares.side_at.Goals as goal
use mir.Val.{to_z, of_z}

read : (a : ℤ) (u : ℕ) → neg_ℤ (pos (2 ^ 25)) ≤ℤ a → a ≤ℤ pos (2 ^ 25) → u < 2 ^ 28 → to_z w32 (of_z w32 (to_z w32 (of_z w32 a) +ℤ to_z w32 u)) ≡ a +ℤ pos u
read a u low high few = omega (arith, ints, low, high, few)

read_next : (a : ℤ) (u : ℕ) → neg_ℤ (pos (2 ^ 25)) ≤ℤ a → a ≤ℤ pos (2 ^ 25) → u < 2 ^ 28 → to_z w32 (of_z w32 (to_z w32 (of_z w32 (to_z w32 (of_z w32 a) +ℤ to_z w32 u)) +ℤ pos 1)) ≡ (a +ℤ pos u) +ℤ pos 1
read_next a u low high few = omega (arith, ints, low, high, few)

-- the cell at the northern end
northern : (r squares : Region) (u v : ℕ) → HasSquares r squares → 0 < columns squares → u ≤ columns squares → v < rows squares → IsCell r (squares.x0 +ℤ pos u) (squares.y0 +ℤ pos v)
unfolding columns rows
northern r squares u v has some column row =
    let east = gap_ends squares.x0 (squares.x1 +ℤ pos 1) u some column in
    let south = gap_holds squares.y0 (squares.y1 +ℤ pos 1) v row in
    let w = has.west in
    let e = has.east in
    let n = has.north in
    let s = has.south in
    record { west = omega (arith, ints, w); east = omega (arith, ints, e, east); north = omega (arith, ints, n); south = omega (arith, ints, s, south) }

southern : (r squares : Region) (u v : ℕ) → HasSquares r squares → 0 < columns squares → u ≤ columns squares → v < rows squares → IsCell r (squares.x0 +ℤ pos u) ((squares.y0 +ℤ pos v) +ℤ pos 1)
unfolding columns rows
southern r squares u v has some column row =
    let east = gap_ends squares.x0 (squares.x1 +ℤ pos 1) u some column in
    let south = gap_holds squares.y0 (squares.y1 +ℤ pos 1) v row in
    let w = has.west in
    let e = has.east in
    let n = has.north in
    let s = has.south in
    record { west = omega (arith, ints, w); east = omega (arith, ints, e, east); north = omega (arith, ints, n); south = omega (arith, ints, s, south) }

pub corner-requires-clause-cell : goal.corner-requires-clause-cell
corner-requires-clause-cell c =
    let squares = c.args.squares.now in
    let placed = c.requires.squares.placed in
    let r = c.args.ring.now.active in
    let few : c.args.u < 2 ^ 28 = omega (arith, c.requires.few_columns) in
    subst (λ (i : ℤ). IsCell r i (to_z w32 (of_z w32 (to_z w32 (of_z w32 squares.y0) +ℤ to_z w32 c.args.v)))) (sym (read squares.x0 c.args.u placed.x0_low placed.x0_high few))
    (subst (λ (j : ℤ). IsCell r (squares.x0 +ℤ pos c.args.u) j) (sym (read squares.y0 c.args.v placed.y0_low placed.y0_high c.requires.few_rows))
    (northern r squares c.args.u c.args.v c.requires.squares c.requires.some c.requires.column c.requires.row))

pub corner-requires-2-clause-cell : goal.corner-requires-2-clause-cell
corner-requires-2-clause-cell c =
    let squares = c.args.squares.now in
    let placed = c.requires.squares.placed in
    let r = c.args.ring.now.active in
    let few : c.args.u < 2 ^ 28 = omega (arith, c.requires.few_columns) in
    subst (λ (i : ℤ). IsCell r i (to_z w32 (of_z w32 (to_z w32 (of_z w32 (to_z w32 (of_z w32 squares.y0) +ℤ to_z w32 c.args.v)) +ℤ pos 1)))) (sym (read squares.x0 c.args.u placed.x0_low placed.x0_high few))
    (subst (λ (j : ℤ). IsCell r (squares.x0 +ℤ pos c.args.u) j) (sym (read_next squares.y0 c.args.v placed.y0_low placed.y0_high c.requires.few_rows))
    (southern r squares c.args.u c.args.v c.requires.squares c.requires.some c.requires.column c.requires.row))

pub returns-clause-north : goal.returns-clause-north
returns-clause-north c =
    let squares = c.args.squares.now in
    let placed = c.requires.squares.placed in
    let few : c.args.u < 2 ^ 28 = omega (arith, c.requires.few_columns) in
    c.corner.ensures.value
    ∙ (λ t. corner_of c.args.finer.now c.args.ring.now (read squares.x0 c.args.u placed.x0_low placed.x0_high few t) (read squares.y0 c.args.v placed.y0_low placed.y0_high c.requires.few_rows t))

pub returns-clause-south : goal.returns-clause-south
returns-clause-south c =
    let squares = c.args.squares.now in
    let placed = c.requires.squares.placed in
    let few : c.args.u < 2 ^ 28 = omega (arith, c.requires.few_columns) in
    c.corner-2.ensures.value
    ∙ (λ t. corner_of c.args.finer.now c.args.ring.now (read squares.x0 c.args.u placed.x0_low placed.x0_high few t) (read_next squares.y0 c.args.v placed.y0_low placed.y0_high c.requires.few_rows t))
