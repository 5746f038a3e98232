-- The vertex at the place of a listed cell is that cell's vertex.
use Rattle.std.proofs.Common.{◌≡◌, ℕ, ◌+◌, false, List, [], ◌∷◌, ◌++◌, ℤ, pos, length, get_or, map, refl, ap, sym, subst, ◌∙◌, append_assoc}
use Rattle.std.specs.List.{AllPairs}
use Rattle.clip_regions.specs.declared.region.Region.{Region}
use Rattle.clip_regions.specs.Regions.{contains, empty_region}
use Rattle.plan_model.specs.Laws.{AreNested}
use Rattle.terrain_model.specs.Terrain.{Terrain}
use Rattle.mesh_model.specs.declared.shapes.Vertex.{Vertex}
use Rattle.mesh_model.specs.Nested.{StandApart}
use Rattle.mesh_model.specs.Vertices.{LevelCell, hole, cells_outside, listed_from, listed_vertices, vertex_at, mesh_vertices, place_of, vertex_of_place}
use Rattle.mesh_model.specs.Parts.{corner_place}
use Rattle.mesh_model.specs.Laws.{OwnPlaces}
use Rattle.mesh_laws.specs.Rings.{listed_before}
use Rattle.mesh_laws.proofs.Lists.{IsAt, at_left, at_right, at_map}
use Rattle.mesh_laws.proofs.Listed.{cell_listed}
use Rattle.mesh_laws.proofs.Places.{from_nothing}
use Rattle.clip_regions.proofs.Cells.{Lies}

-- x stands somewhere in xs
pub record Stands {A : Type 0} (xs : List A) (x : A) : Type 0 where
  pub place : ℕ
  pub at : IsAt xs place x

-- the cells of a level that lie in its active region outside the hole are listed
pub record IsListed (all : List LevelCell) (level : ℕ) (finer active : Region) : Type 0 where
  pub at : (i j : ℤ) → Lies active i j → contains (hole finer) i j ≡ false → Stands all (record { level = level; i = i; j = j })

-- and so for all levels from this one on
abbrev pub AreListed : List LevelCell → ℕ → Region → List Region → Type 0
AreListed all level finer [] = Unit {0}
AreListed all level finer (active ∷ coarser) = IsListed all level finer active × AreListed all (level + 1) active coarser

named : ℕ → ℤ × ℤ → LevelCell
named level cell = record { level = level; i = cell.0; j = cell.1 }

levels_listed : (all done : List LevelCell) (level e : ℕ) (finer : Region) (actives : List Region) → done ++ listed_from level finer actives ≡ all → AreNested e (finer ∷ actives) →
    AreListed all level finer actives
unfolding named
levels_listed all done level e finer [] whole nested = tt
levels_listed all done level e finer (active ∷ coarser) whole nested =
    let own = map (named level) (cells_outside finer active) in
    let rest = listed_from (level + 1) active coarser in (
      record {
        at = λ i j l out.
            let before = listed_before (hole finer) active i j in
            let here : IsAt own before (named level (i, j)) = at_map (named level) (cells_outside finer active) before (i, j) (cell_listed e finer active i j nested.0 l out) in
            let there : IsAt (done ++ (own ++ rest)) (length done + before) (named level (i, j)) = at_right done (own ++ rest) before (named level (i, j)) (at_left own rest before (named level (i, j)) here) in
            record { place = length done + before; at = subst (λ (xs : List LevelCell). IsAt xs (length done + before) (named level (i, j))) whole there };
      },
      levels_listed all (done ++ own) (level + 1) e active coarser (append_assoc done own rest ∙ whole) nested.1,
    )

pub all_listed : (e : ℕ) (actives : List Region) → AreNested e actives → AreListed (listed_vertices actives) 0 empty_region actives
all_listed e actives nested = levels_listed (listed_vertices actives) [] 0 e empty_region actives refl (from_nothing e actives nested)

-- the vertex at the place of the position of a listed cell
pub vertex_there : (terrain : Terrain) (k : ℕ) (actives : List Region) (cell : LevelCell) → AllPairs StandApart (mesh_vertices terrain k actives) → OwnPlaces → Stands (listed_vertices actives) cell →
    vertex_of_place (mesh_vertices terrain k actives) (corner_place (mesh_vertices terrain k actives) cell.level cell.i cell.j) ≡ vertex_at terrain k actives cell
unfolding mesh_vertices vertex_at corner_place
vertex_there terrain k actives cell apart own stands =
    let n = stands.place in
    let vertices = map (vertex_at terrain k actives) (listed_vertices actives) in
    let vertex = vertex_at terrain k actives cell in
    let there : IsAt vertices n vertex = at_map (vertex_at terrain k actives) (listed_vertices actives) n cell stands.at in
    let place : place_of vertices vertex.x vertex.z ≡ n = (λ t. place_of vertices (sym (there.is vertex) t).x (sym (there.is vertex) t).z) ∙ own vertices apart n vertex there.low in
    let none : Vertex = record { x = pos 0; z = pos 0; height = pos 0 } in
    ap (λ m. get_or vertices m none) place ∙ there.is none
