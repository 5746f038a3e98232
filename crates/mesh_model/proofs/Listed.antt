-- At each cell of an active region the mesh has a vertex: one of the level itself, or, in the hole, one of a finer level.
use Rattle.std.proofs.Common.{◌≡◌, ℕ, ◌+◌, ◌*◌, ◌^◌, ◌<◌, Bool, true, false, not, ◌&&◌, List, [], ◌∷◌, ℤ, pos, ◌*ℤ◌, length, map, refl, ap, sym, subst, ◌∙◌, inl, inr, arith}
use Rattle.std.specs.List.{All}
use Rattle.std.specs.Ordering.{int_eq}
use Rattle.std.proofs.lemmas.Int.{ints}
use Rattle.std.proofs.lemmas.Nat.{pow-add}
use Rattle.std.proofs.lemmas.Bool.{cases_Bool, not_from_false}
use Rattle.std.proofs.lemmas.List.Elements.{All-nil, All-cons, All-weaker}
use borrow.Author.Differences.{up, down}
use Rattle.clip_regions.specs.declared.region.Region.{Region}
use Rattle.clip_regions.specs.Regions.{contains, empty_region, cells}
use Rattle.plan_model.specs.Laws.{IsEvenOrEmpty, AllEvenOrEmpty}
use Rattle.terrain_model.specs.Terrain.{Terrain}
use Rattle.mesh_model.specs.declared.shapes.Vertex.{Vertex}
use Rattle.mesh_model.specs.Vertices.{LevelCell, hole, cells_outside, listed_from, listed_vertices, vertex_at, mesh_vertices, place_of}
use Rattle.mesh_model.specs.Parts.{corner_place}
use Rattle.mesh_model.proofs.Whole.{all_left, all_right, all_of_map}
use Rattle.mesh_model.proofs.Places.{hit}
use Rattle.mesh_model.proofs.Rectangles.{none_in, no_hole, from_hole}
use Rattle.mesh_model.proofs.Cells.{all_passing, cell_of_all}
use Rattle.clip_regions.proofs.Cells.{Lies, lies, cell_in, empty_is_empty}

-- ---- the place of a vertex of a list
-- a vertex stands at column x and row z
abbrev pub Stands : List Vertex → ℤ → ℤ → Type 0
Stands vertices x z = place_of vertices x z < length vertices

stands_here : (vertex : Vertex) (vertices : List Vertex) → Stands (vertex ∷ vertices) vertex.x vertex.z
stands_here vertex vertices = let first = hit vertex vertices vertex.x vertex.z refl refl in omega (arith, first)

stands_later : (vertex : Vertex) (vertices : List Vertex) (x z : ℤ) → Stands vertices x z → Stands (vertex ∷ vertices) x z
stands_later vertex vertices x z h = cases (int_eq vertex.x x && int_eq vertex.z z) refl
  where
    cases : (b : Bool) → (int_eq vertex.x x && int_eq vertex.z z) ≡ b → Stands (vertex ∷ vertices) x z
    cases true e = rw e (omega arith)
    cases false e = rw e (omega arith)

each_stands : (vertices : List Vertex) → All (λ vertex. Stands vertices vertex.x vertex.z) vertices
each_stands [] = All-nil (λ vertex. Stands [] vertex.x vertex.z)
each_stands (vertex ∷ vertices) =
    All-cons (λ v. Stands (vertex ∷ vertices) v.x v.z) vertex vertices (stands_here vertex vertices)
    (All-weaker (λ v. Stands vertices v.x v.z) (λ v. Stands (vertex ∷ vertices) v.x v.z) (λ v h. stands_later vertex vertices v.x v.z h) vertices (each_stands vertices))

-- ---- levels
-- a vertex stands at this cell of a level
abbrev pub HasCorner : List Vertex → ℕ → ℤ → ℤ → Type 0
HasCorner vertices level i j = corner_place vertices level i j < length vertices

-- a vertex stands at each cell of the region
pub record IsListed (vertices : List Vertex) (level : ℕ) (r : Region) : Type 0 where
  pub at : (i j : ℤ) → Lies r i j → HasCorner vertices level i j

-- and so for all regions from this level on
abbrev pub AreListed : List Vertex → ℕ → List Region → Type 0
AreListed vertices level [] = Unit {0}
AreListed vertices level (active ∷ coarser) = IsListed vertices level active × AreListed vertices (level + 1) coarser

-- a cell of a level that lies in the hole has a vertex there, and any other is listed
level_listed : (vertices : List Vertex) (level : ℕ) (finer active : Region) → IsListed vertices level (hole finer) →
    All (λ cell. HasCorner vertices level cell.0 cell.1) (cells_outside finer active) → IsListed vertices level active
unfolding cells_outside
level_listed vertices level finer active inside outside = record {
  at = λ i j cell.
      elim (cases_Bool (contains (hole finer) i j)) [
        | inl e ↦ inside.at i j (lies (hole finer) i j e)
        | inr e ↦ cell_of_all (λ c. not (contains (hole finer) c.0 c.1) ≡ true → HasCorner vertices level c.0 c.1) active
            (all_passing (λ c. HasCorner vertices level c.0 c.1) (λ c. not (contains (hole finer) c.0 c.1)) (cells active) outside) i j cell (not_from_false (contains (hole finer) i j) e)
      ];
}

-- one step of a level is two of the next finer one
pub coarser_step : (i : ℤ) (level : ℕ) → i *ℤ pos (2 ^ (level + 1)) ≡ (pos 2 *ℤ i) *ℤ pos (2 ^ level)
coarser_step i level = ap (λ n. i *ℤ pos n) (pow-add 2 level 1) ∙ regroup i (2 ^ level)
  where
    regroup : (a : ℤ) (n : ℕ) → a *ℤ pos (n * 2) ≡ (pos 2 *ℤ a) *ℤ pos n
    regroup a n =
        let twice : up (pos 2 *ℤ a) + 2 * down a ≡ down (pos 2 *ℤ a) + 2 * up a = omega (arith, ints) in
        let scaled : (up (pos 2 *ℤ a) + 2 * down a) * n ≡ (down (pos 2 *ℤ a) + 2 * up a) * n = ap (λ m. m * n) twice in
        omega (arith, ints, scaled)

-- a cell of the hole has the position of a cell of the finer region
hole_listed : (vertices : List Vertex) (level : ℕ) (active : Region) → IsEvenOrEmpty active → IsListed vertices level active → IsListed vertices (level + 1) (hole active)
unfolding corner_place
hole_listed vertices level active shape listed = record {
  at = λ i j cell.
      subst (λ (x : ℤ). place_of vertices x (j *ℤ pos (2 ^ (level + 1))) < length vertices) (sym (coarser_step i level))
      (subst (λ (z : ℤ). place_of vertices ((pos 2 *ℤ i) *ℤ pos (2 ^ level)) z < length vertices) (sym (coarser_step j level))
      (listed.at (pos 2 *ℤ i) (pos 2 *ℤ j) (from_hole active i j shape cell)));
}

all_listed : (vertices : List Vertex) (level : ℕ) (finer : Region) (actives : List Region) →
    All (λ cell. HasCorner vertices cell.level cell.i cell.j) (listed_from level finer actives) → IsListed vertices level (hole finer) →
    AllEvenOrEmpty actives → AreListed vertices level actives
all_listed vertices level finer [] cells inside shapes = tt
all_listed vertices level finer (active ∷ coarser) all inside shapes =
    let P : LevelCell → Type 0 = λ cell. HasCorner vertices cell.level cell.i cell.j in
    let named : ℤ × ℤ → LevelCell = λ cell. record { level = level; i = cell.0; j = cell.1 } in
    let own = all_of_map P named (cells_outside finer active) (all_left P (map named (cells_outside finer active)) (listed_from (level + 1) active coarser) all) in
    let here : IsListed vertices level active = level_listed vertices level finer active inside own in
    (here, all_listed vertices (level + 1) active coarser (all_right P (map named (cells_outside finer active)) (listed_from (level + 1) active coarser) all) (hole_listed vertices level active shapes.0 here) shapes.1)

none_listed : (vertices : List Vertex) → IsListed vertices 0 (hole empty_region)
none_listed vertices = record {
  at = λ i j cell.
      none_in (HasCorner vertices 0 i j) empty_region empty_is_empty (cell_in empty_region i j (subst (λ (r : Region). Lies r i j) no_hole cell));
}

-- a vertex stands at each cell of each active region
pub actives_listed : (terrain : Terrain) (k : ℕ) (actives : List Region) → AllEvenOrEmpty actives → AreListed (mesh_vertices terrain k actives) 0 actives
unfolding mesh_vertices vertex_at corner_place
actives_listed terrain k actives shapes =
    let vertices = mesh_vertices terrain k actives in
    all_listed vertices 0 empty_region actives
    (all_of_map (λ v. Stands vertices v.x v.z) (vertex_at terrain k actives) (listed_vertices actives) (each_stands vertices))
    (none_listed vertices) shapes
