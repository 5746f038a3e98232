use Rattle.std.proofs.Common.{◌≡◌, ◌++◌, pos, ◌+ℤ◌}
use Rattle.std.specs.List.{flat_map, range_with_len}
use Rattle.mesh_laws.specs.Rings.{corner_of, ring_square}
use Rattle.ring_mesh.proofs.squares.add_row.Given as goal

abbrev pub invariant-loop-u : goal.invariant-loop-u
invariant-loop-u l = record {
  north : l.west.north ≡ corner_of l.finer l.ring (l.squares.x0 +ℤ pos l.u) (l.squares.y0 +ℤ pos l.v);
  south : l.west.south ≡ corner_of l.finer l.ring (l.squares.x0 +ℤ pos l.u) ((l.squares.y0 +ℤ pos l.v) +ℤ pos 1);
  triangles : l.triangles.items ≡ l.fn.triangles.items ++ flat_map (λ u. ring_square l.finer l.ring (l.squares.x0 +ℤ pos u) (l.squares.y0 +ℤ pos l.v)) (range_with_len 0 l.u);
}
