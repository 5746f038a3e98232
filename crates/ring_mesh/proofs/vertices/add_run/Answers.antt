-- One vertex more.
use Rattle.std.proofs.Common.{◌≡◌, ◌++◌, List, map, ℕ, ℤ, pos, ◌+ℤ◌, ap, sym, ◌∙◌, arith}
use Rattle.std.specs.List.{range_with_len}
use Rattle.clip_regions.specs.declared.region.Region.{Region}
use Rattle.terrain_model.specs.Terrain.{Terrain}
use Rattle.mesh_model.specs.declared.shapes.Vertex.{Vertex}
use Rattle.mesh_model.specs.Vertices.{vertex_at}
use Rattle.mesh_laws.specs.Rings.{run}
use Rattle.ring_mesh.specs.Listed.{vertices_at}
use Rattle.ring_mesh.proofs.Lists.{map_more}
use Rattle.ring_mesh.proofs.vertices.add_run.Goals as goal
use Rattle.mesh_model.proofs.Ranges.{map_of_map}

abbrev of_run : Terrain → ℕ → List Region → ℕ → ℤ → ℤ → ℕ → Vertex
of_run terrain k actives level i j u = vertex_at terrain k actives (record { level = level; i = i +ℤ pos u; j = j })

pub loop-u-preserved : goal.loop-u-preserved
loop-u-preserved g c =
    map_more (of_run (g.G.Heights.terrain c.args.heights.now) c.args.k c.args.actives.now c.args.level c.args.run.now.i c.args.run.now.j)
    c.args.vertices.now.items c.loop-u.vertices.items c.push.new.self.items c.loop-u.u c.vertex_of_run.result c.loop-u.invariant c.in_ok-push.ensures.items c.vertex_of_run.ensures

whole : (terrain : Terrain) (k : ℕ) (actives : List Region) (level : ℕ) (i j : ℤ) (n : ℕ) → map (of_run terrain k actives level i j) (range_with_len 0 n) ≡ vertices_at terrain k actives level (run i j n)
unfolding vertices_at run
whole terrain k actives level i j n =
    sym (map_of_map (λ cell. vertex_at terrain k actives (record { level = level; i = cell.0; j = cell.1 })) (λ u. (i +ℤ pos u, j)) (range_with_len 0 n))

pub returns : goal.returns
returns g c =
    let terrain = g.G.Heights.terrain c.args.heights.now in
    let run = c.args.run.now in
    let all : c.loop-u.u ≡ run.count = omega arith in
    c.loop-u.invariant
    ∙ ap (λ n. c.args.vertices.now.items ++ map (of_run terrain c.args.k c.args.actives.now c.args.level run.i run.j) (range_with_len 0 n)) all
    ∙ ap (λ xs. c.args.vertices.now.items ++ xs) (whole terrain c.args.k c.args.actives.now c.args.level run.i run.j run.count)
