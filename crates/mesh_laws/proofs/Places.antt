-- The place of each vertex of a mesh of nested regions, ring by ring: the rings stand one after another.
use Rattle.std.proofs.Common.{◌≡◌, ℕ, ◌+◌, ◌-◌, false, List, [], ◌∷◌, ◌++◌, ℤ, length, map, refl, ap, sym, subst, ◌∙◌, append_assoc, length-append}
use Rattle.std.specs.List.{AllPairs}
use Rattle.std.proofs.lemmas.List.{length-map}
use Rattle.clip_regions.specs.declared.region.Region.{Region}
use Rattle.clip_regions.specs.Regions.{contains, empty_region, area, columns, rows}
use Rattle.plan_model.specs.Laws.{AreNested}
use Rattle.terrain_model.specs.Terrain.{Terrain}
use Rattle.mesh_model.specs.declared.shapes.Vertex.{Vertex}
use Rattle.mesh_model.specs.Nested.{StandApart}
use Rattle.mesh_model.specs.Vertices.{LevelCell, hole, cells_outside, listed_from, listed_vertices, vertex_at, mesh_vertices, place_of}
use Rattle.mesh_model.specs.Parts.{corner_place}
use Rattle.mesh_model.specs.Laws.{VerticesApart, OwnPlaces}
use Rattle.mesh_laws.specs.declared.ring.Ring.{Ring}
use Rattle.mesh_laws.specs.Rings.{no_ring, ring_size, next_ring, listed_before, place_in}
use Rattle.mesh_laws.proofs.Lists.{IsAt, at_left, at_right, at_map}
use Rattle.mesh_laws.proofs.Listed.{cell_listed, count_listed}
use Rattle.clip_regions.proofs.Cells.{Lies, has_cell, empty_is_empty}
use Rattle.mesh_model.proofs.Rectangles.{IsInner, none_in}

-- the vertex of each cell that a ring lists has its place
pub record IsPlaced (vertices : List Vertex) (level : ℕ) (ring : Ring) : Type 0 where
  pub at : (i j : ℤ) → Lies ring.active i j → contains ring.hole i j ≡ false → corner_place vertices level i j ≡ place_in ring i j

-- and so for the rings of all regions from this level on
abbrev pub ArePlaced : List Vertex → ℕ → Ring → List Region → Type 0
ArePlaced vertices level finer [] = Unit {0}
ArePlaced vertices level finer (active ∷ coarser) =
    IsPlaced vertices level (next_ring finer active) × ArePlaced vertices (level + 1) (next_ring finer active) coarser

-- the vertex of a cell that is listed has the place at which it is listed
record HasPlaces (vertices : List Vertex) (all : List LevelCell) : Type 0 where
  at : (cell : LevelCell) (k : ℕ) → IsAt all k cell → corner_place vertices cell.level cell.i cell.j ≡ k

-- a cell of a level, by its column and row
named : ℕ → ℤ × ℤ → LevelCell
named level cell = record { level = level; i = cell.0; j = cell.1 }

-- a ring's cells stand in the list after those of the finer rings
ring_placed : (vertices : List Vertex) (all done rest : List LevelCell) (level e : ℕ) (finer : Ring) (active : Region) → HasPlaces vertices all →
    done ++ (map (named level) (cells_outside finer.active active) ++ rest) ≡ all → length done ≡ finer.first + ring_size finer → IsInner e finer.active active →
    IsPlaced vertices level (next_ring finer active)
unfolding place_in next_ring named
ring_placed vertices all done rest level e finer active places whole count inner = record {
  at = λ i j l out.
      let own = map (named level) (cells_outside finer.active active) in
      let before = listed_before (hole finer.active) active i j in
      let here : IsAt own before (named level (i, j)) = at_map (named level) (cells_outside finer.active active) before (i, j) (cell_listed e finer.active active i j inner l out) in
      let there : IsAt (done ++ (own ++ rest)) (length done + before) (named level (i, j)) = at_right done (own ++ rest) before (named level (i, j)) (at_left own rest before (named level (i, j)) here) in
      let listed : IsAt all (length done + before) (named level (i, j)) = subst (λ (xs : List LevelCell). IsAt xs (length done + before) (named level (i, j))) whole there in
      places.at (named level (i, j)) (length done + before) listed ∙ ap (λ n. n + before) count;
}

rings_placed : (vertices : List Vertex) (all done : List LevelCell) (level e : ℕ) (finer : Ring) (actives : List Region) → HasPlaces vertices all →
    done ++ listed_from level finer.active actives ≡ all → length done ≡ finer.first + ring_size finer → AreNested e (finer.active ∷ actives) →
    ArePlaced vertices level finer actives
unfolding named next_ring ring_size
rings_placed vertices all done level e finer [] places whole count nested = tt
rings_placed vertices all done level e finer (active ∷ coarser) places whole count nested =
    let own = map (named level) (cells_outside finer.active active) in
    let rest = listed_from (level + 1) active coarser in
    let more : length (done ++ own) ≡ finer.first + ring_size finer + (area active - area (hole finer.active)) =
    length-append done own ∙ (λ t. count t + (length-map (cells_outside finer.active active) (named level) ∙ count_listed e finer.active active nested.0) t) in (
      ring_placed vertices all done rest level e finer active places whole count nested.0,
      rings_placed vertices all (done ++ own) (level + 1) e (next_ring finer active) coarser places (append_assoc done own rest ∙ whole) more nested.1,
    )

-- ---- the whole list
has_places : (terrain : Terrain) (k : ℕ) (actives : List Region) → AllPairs StandApart (mesh_vertices terrain k actives) → OwnPlaces → HasPlaces (mesh_vertices terrain k actives) (listed_vertices actives)
unfolding mesh_vertices vertex_at corner_place
has_places terrain k actives apart own = record {
  at = λ cell n listed.
      let there = at_map (vertex_at terrain k actives) (listed_vertices actives) n cell listed in
      let vertices = map (vertex_at terrain k actives) (listed_vertices actives) in
      let vertex = vertex_at terrain k actives cell in
      (λ t. place_of vertices (sym (there.is vertex) t).x (sym (there.is vertex) t).z) ∙ own vertices apart n vertex there.low;
}

-- nothing stands before the finest ring
pub from_nothing : (e : ℕ) (actives : List Region) → AreNested e actives → AreNested e (empty_region ∷ actives)
from_nothing e [] nested = tt
from_nothing e (active ∷ coarser) nested =
    ((λ some. none_in _ empty_region empty_is_empty (has_cell empty_region some)), nested)

none_before : 0 ≡ no_ring.first + ring_size no_ring
unfolding ring_size area columns rows
none_before = refl

pub all_placed : (terrain : Terrain) (k e : ℕ) (actives : List Region) → AreNested e actives → VerticesApart → OwnPlaces →
    ArePlaced (mesh_vertices terrain k actives) 0 no_ring actives
all_placed terrain k e actives nested apart own =
    rings_placed (mesh_vertices terrain k actives) (listed_vertices actives) [] 0 e no_ring actives
    (has_places terrain k actives (apart terrain k e actives nested) own) refl none_before (from_nothing e actives nested)
