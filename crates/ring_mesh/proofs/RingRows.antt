-- The vertices of the rows of a ring, and of the rings one after another.
use Rattle.std.proofs.Common.{◌≡◌, ℕ, suc, ◌+◌, ◌<◌, ◌≤◌, List, [], ◌∷◌, ◌++◌, ℤ, pos, ◌+ℤ◌, map, length, get_or, drop, ap, sym, ◌∙◌, append_assoc, append-nil, arith}
use Rattle.std.specs.List.{flat_map, range_with_len}
use Rattle.std.proofs.lemmas.List.{map-append, drop_all}
use Rattle.std.proofs.Math.Seq.{drop-cons}
use Rattle.clip_regions.specs.declared.region.Region.{Region}
use Rattle.clip_regions.specs.Regions.{empty_region, rows}
use Rattle.terrain_model.specs.Terrain.{Terrain}
use Rattle.mesh_model.specs.declared.shapes.Vertex.{Vertex}
use Rattle.mesh_model.specs.Height.{active_at}
use Rattle.mesh_model.specs.Vertices.{LevelCell, cells_outside, listed_from, vertex_at, mesh_vertices}
use Rattle.mesh_laws.specs.declared.ring.Ring.{Ring}
use Rattle.mesh_laws.specs.Rings.{finer_of, next_ring, ring_row}
use Rattle.mesh_laws.specs.Conditions.{IsBefore}
use Rattle.mesh_laws.specs.Laws.{RingRows}
use Rattle.ring_mesh.specs.Listed.{vertices_at, ring_cells, vertices_left, IsListed}
use Rattle.ring_mesh.proofs.Lists.{map_of_rows}
use Rattle.mesh_model.proofs.Ranges.{map_of_map}

pub two_runs : (terrain : Terrain) (k : ℕ) (actives : List Region) (level : ℕ) (xs ys : List (ℤ × ℤ)) →
    vertices_at terrain k actives level (xs ++ ys) ≡ vertices_at terrain k actives level xs ++ vertices_at terrain k actives level ys
unfolding vertices_at
two_runs terrain k actives level xs ys = map-append (λ cell. vertex_at terrain k actives (record { level = level; i = cell.0; j = cell.1 })) xs ys

-- row by row
pub by_rows : (terrain : Terrain) (k : ℕ) (actives : List Region) (level : ℕ) (ring : Ring) →
    vertices_at terrain k actives level (ring_cells ring)
    ≡ flat_map (λ v. vertices_at terrain k actives level (ring_row ring.hole ring.active (ring.active.y0 +ℤ pos v))) (range_with_len 0 (rows ring.active))
unfolding vertices_at ring_cells
by_rows terrain k actives level ring =
    map_of_rows (λ cell. vertex_at terrain k actives (record { level = level; i = cell.0; j = cell.1 })) (ring_row ring.hole ring.active) ring.active.y0 (rows ring.active)

pub first_listed : (terrain : Terrain) (k : ℕ) (actives : List Region) (from : ℕ) (finer : Ring) → IsBefore actives from finer → IsListed terrain k actives from from finer []
first_listed terrain k actives from finer before =
    record { before = before; left = ap (λ (r : Region). map (vertex_at terrain k actives) (listed_from from r (drop from actives))) before.region }

-- the vertices of a ring are those of the cells outside its hole
ring_listed : (terrain : Terrain) (k : ℕ) (actives : List Region) (level : ℕ) (finer : Ring) (active : Region) → RingRows →
    vertices_at terrain k actives level (ring_cells (next_ring finer active))
    ≡ map (vertex_at terrain k actives) (map (λ cell. record { level = level; i = cell.0; j = cell.1 }) (cells_outside finer.active active))
unfolding vertices_at ring_cells next_ring
ring_listed terrain k actives level finer active law =
    ap (λ xs. map (λ cell. vertex_at terrain k actives (record { level = level; i = cell.0; j = cell.1 })) xs) (sym (law finer.active active))
    ∙ sym (map_of_map (vertex_at terrain k actives) (λ (cell : ℤ × ℤ). record { level = level; i = cell.0; j = cell.1 }) (cells_outside finer.active active))

-- this level's ring, and then the others
split : (terrain : Terrain) (k : ℕ) (actives : List Region) (level : ℕ) (finer : Ring) → level < length actives → RingRows →
    map (vertex_at terrain k actives) (listed_from level finer.active (drop level actives))
    ≡ vertices_at terrain k actives level (ring_cells (next_ring finer (active_at actives level)))
    ++ map (vertex_at terrain k actives) (listed_from (level + 1) (active_at actives level) (drop (level + 1) actives))
unfolding active_at
split terrain k actives level finer low law =
    let next : suc level ≡ level + 1 = omega arith in
    let active = get_or actives level empty_region in
    let cons : drop level actives ≡ active ∷ drop (level + 1) actives = drop-cons actives level empty_region low ∙ (λ t. active ∷ drop (next t) actives) in
    let own : List LevelCell = map (λ cell. record { level = level; i = cell.0; j = cell.1 }) (cells_outside finer.active active) in
    ap (λ rs. map (vertex_at terrain k actives) (listed_from level finer.active rs)) cons
    ∙ map-append (vertex_at terrain k actives) own (listed_from (level + 1) active (drop (level + 1) actives))
    ∙ ap (λ xs. xs ++ map (vertex_at terrain k actives) (listed_from (level + 1) active (drop (level + 1) actives))) (sym (ring_listed terrain k actives level finer active law))

pub next_listed : (terrain : Terrain) (k : ℕ) (actives : List Region) (from level : ℕ) (finer : Ring) (now next : List Vertex) → level < length actives → RingRows →
    IsListed terrain k actives from level finer now → next ≡ now ++ vertices_at terrain k actives level (ring_cells (next_ring finer (active_at actives level))) →
    IsBefore actives (level + 1) (next_ring finer (active_at actives level)) → IsListed terrain k actives from (level + 1) (next_ring finer (active_at actives level)) next
unfolding next_ring
next_listed terrain k actives from level finer now next low law listed added before =
    let own = vertices_at terrain k actives level (ring_cells (next_ring finer (active_at actives level))) in
    let rest = map (vertex_at terrain k actives) (listed_from (level + 1) (active_at actives level) (drop (level + 1) actives)) in
    record {
      before = before;
      left = ap (λ xs. xs ++ rest) added ∙ append_assoc now own rest ∙ ap (λ xs. now ++ xs) (sym (split terrain k actives level finer low law)) ∙ listed.left;
    }

-- those of the levels before this one are listed
pub listed_before : (terrain : Terrain) (k : ℕ) (actives : List Region) (from level : ℕ) (finer : Ring) (now : List Vertex) →
    IsListed terrain k actives from level finer now → now ++ vertices_left terrain k actives level ≡ vertices_left terrain k actives from
listed_before terrain k actives from level finer now listed =
    ap (λ (r : Region). now ++ map (vertex_at terrain k actives) (listed_from level r (drop level actives))) (sym listed.before.region) ∙ listed.left

-- nothing is left after the coarsest level
pub all_listed : (terrain : Terrain) (k : ℕ) (actives : List Region) (n : ℕ) (now : List Vertex) → length actives ≤ n →
    now ++ vertices_left terrain k actives n ≡ vertices_left terrain k actives 0 → now ≡ mesh_vertices terrain k actives
unfolding mesh_vertices
all_listed terrain k actives n now high left =
    sym (append-nil now) ∙ ap (λ rs. now ++ map (vertex_at terrain k actives) (listed_from n (finer_of actives n) rs)) (sym (drop_all n actives high)) ∙ left
