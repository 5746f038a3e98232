-- A cell of the hole is the finer cell with twice its column and row.
use Rattle.std.proofs.Common.{◌≡◌, ℤ, Bool, true, pos, ◌*ℤ◌, ◌^◌, ◌≤ℤ◌, neg_ℤ, sym, ◌∙◌, subst, w32, arith}
use Rattle.std.proofs.lemmas.Int.{ints, to_z-of_z}
use Rattle.clip_regions.specs.declared.region.Region.{Region}
use Rattle.clip_regions.specs.Regions.{contains, IsWithin}
use Rattle.mesh_laws.specs.declared.ring.Ring.{Ring}
use Rattle.mesh_laws.specs.Conditions.{IsCell, AreLinked}
use Rattle.mesh_laws.specs.Laws.{HoleCells}
use Rattle.mesh_laws.specs.Rings.{corner_of, place_in}
use Rattle.ring_mesh.proofs.places.corner.Goals as goal
use mir.Val.{SFits, to_z, of_z}

-- twice a coordinate near the mosaic's corner
doubled : (i a b : ℤ) → neg_ℤ (pos (2 ^ 24)) ≤ℤ a → a ≤ℤ i → i ≤ℤ b → b ≤ℤ pos (2 ^ 24) → to_z w32 (of_z w32 (pos 2 *ℤ to_z w32 (of_z w32 i))) ≡ pos 2 *ℤ i
doubled i a b la ai ib bh = omega (arith, ints, la, ai, ib, bh)

column : (r : Region) (i j : ℤ) → IsWithin (2 ^ 24) r → IsCell r i j → to_z w32 (of_z w32 (pos 2 *ℤ to_z w32 (of_z w32 i))) ≡ pos 2 *ℤ i
column r i j near cell = doubled i r.x0 r.x1 near.x0_low cell.west cell.east near.x1_high

row : (r : Region) (i j : ℤ) → IsWithin (2 ^ 24) r → IsCell r i j → to_z w32 (of_z w32 (pos 2 *ℤ to_z w32 (of_z w32 j))) ≡ pos 2 *ℤ j
row r i j near cell = doubled j r.y0 r.y1 near.y0_low cell.north cell.south near.y1_high

-- the tested cell lies in the hole of the finer region
inside : (gap : Region) (i j : ℤ) (test : Bool) → SFits w32 i → SFits w32 j → test ≡ contains gap (to_z w32 (of_z w32 i)) (to_z w32 (of_z w32 j)) → test ≡ true → contains gap i j ≡ true
inside gap i j test fi fj e true' = (λ t. contains gap (sym (to_z-of_z w32 i fi) t) (sym (to_z-of_z w32 j fj) t)) ∙ sym e ∙ true'

finer_cell : (finer ring : Ring) (i j : ℤ) → AreLinked finer ring → HoleCells → contains ring.hole i j ≡ true → IsCell finer.active (pos 2 *ℤ i) (pos 2 *ℤ j)
finer_cell finer ring i j linked cells there =
    cells finer.active i j linked.even (subst (λ (gap : Region). contains gap i j ≡ true) linked.gap there)

pub place_in-requires-clause-cell : goal.place_in-requires-clause-cell
place_in-requires-clause-cell c =
    let i = c.args.i in
    let j = c.args.j in
    let ring = c.args.ring.now in
    let finer = c.args.finer.now in
    let near = c.requires.linked.own.small.near in
    let there = inside ring.hole i j c.contains.result c.ranges.i c.ranges.j c.contains.ensures c.if-contains.true in
    subst (λ (x : ℤ). IsCell finer.active x (to_z w32 (of_z w32 (pos 2 *ℤ to_z w32 (of_z w32 j))))) (sym (column ring.active i j near c.requires.cell))
    (subst (λ (z : ℤ). IsCell finer.active (pos 2 *ℤ i) z) (sym (row ring.active i j near c.requires.cell))
    (finer_cell finer ring i j c.requires.linked c.holes_are_in_regions.ensures.finer there))

pub returns-then-contains-clause-value : goal.returns-then-contains-clause-value
unfolding corner_of
returns-then-contains-clause-value c =
    let i = c.args.i in
    let j = c.args.j in
    let ring = c.args.ring.now in
    let near = c.requires.linked.own.small.near in
    let there = inside ring.hole i j c.contains.result c.ranges.i c.ranges.j c.contains.ensures c.if-contains.true in
    rw there (c.place_in.ensures.value ∙ (λ t. place_in c.args.finer.now (column ring.active i j near c.requires.cell t) (row ring.active i j near c.requires.cell t)))
