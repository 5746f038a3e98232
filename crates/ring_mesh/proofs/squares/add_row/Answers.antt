-- One square more, whose western side is the eastern one of the square before.
use Rattle.std.proofs.Common.{◌≡◌, ℕ, ◌+◌, ℤ, [], ◌∷◌, ◌++◌, pos, ◌+ℤ◌, ◌∙◌, ap, arith}
use Rattle.std.proofs.lemmas.Int.{ints}
use Rattle.mesh_laws.specs.declared.ring.Ring.{Ring}
use Rattle.mesh_laws.specs.Rings.{corner_of, ring_square}
use Rattle.ring_mesh.proofs.Lists.{flat_map_more}
use Rattle.ring_mesh.proofs.squares.add_row.Goals as goal

next_column : (a : ℤ) (u : ℕ) → a +ℤ pos (u + 1) ≡ (a +ℤ pos u) +ℤ pos 1
next_column a u = omega (arith, ints)

-- the square between two sides
between : (finer ring : Ring) (a j : ℤ) (u nw sw se ne : ℕ) →
    nw ≡ corner_of finer ring (a +ℤ pos u) j → sw ≡ corner_of finer ring (a +ℤ pos u) (j +ℤ pos 1) →
    se ≡ corner_of finer ring (a +ℤ pos (u + 1)) (j +ℤ pos 1) → ne ≡ corner_of finer ring (a +ℤ pos (u + 1)) j →
    (nw ∷ sw ∷ se ∷ []) ∷ (nw ∷ se ∷ ne ∷ []) ∷ [] ≡ ring_square finer ring (a +ℤ pos u) j
unfolding ring_square
between finer ring a j u nw sw se ne enw esw ese ene =
    let south_east : se ≡ corner_of finer ring ((a +ℤ pos u) +ℤ pos 1) (j +ℤ pos 1) = ese ∙ (λ t. corner_of finer ring (next_column a u t) (j +ℤ pos 1)) in
    let north_east : ne ≡ corner_of finer ring ((a +ℤ pos u) +ℤ pos 1) j = ene ∙ (λ t. corner_of finer ring (next_column a u t) j) in
    λ t. (enw t ∷ esw t ∷ south_east t ∷ []) ∷ (enw t ∷ south_east t ∷ north_east t ∷ []) ∷ []

pub loop-u-preserved : goal.loop-u-preserved
loop-u-preserved c =
    let squares = c.args.squares.now in
    let row = squares.y0 +ℤ pos c.args.v in
    let west = c.loop-u.west in
    let east = c.side_at-east.result in
    let square = between c.args.finer.now c.args.ring.now squares.x0 row c.loop-u.u west.north west.south east.south east.north c.loop-u.invariant.north c.loop-u.invariant.south c.side_at-east.ensures.south c.side_at-east.ensures.north in
    record {
      north = c.side_at-east.ensures.north;
      south = c.side_at-east.ensures.south;
      triangles = flat_map_more (λ u. ring_square c.args.finer.now c.args.ring.now (squares.x0 +ℤ pos u) row) c.args.triangles.now.items c.loop-u.triangles.items c.add_square.new.triangles.items c.loop-u.u c.loop-u.invariant.triangles (c.in_ok-add_square.ensures ∙ ap (λ two. c.loop-u.triangles.items ++ two) square);
    }
