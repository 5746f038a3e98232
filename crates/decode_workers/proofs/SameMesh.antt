-- The mesh of active regions is one for all terrains that have the same level heights there.
use Rattle.std.proofs.Common.{◌≡◌, ℕ, suc, ◌+◌, ◌<◌, ◌==◌, Bool, true, not, ℤ, pos, ◌*ℤ◌, ◌^◌, List, [], ◌∷◌, length, get_or, map, refl, ap, ap₂, sym, ◌∙◌, subst, inl, inr, arith}
use Rattle.std.specs.List.{All}
use Rattle.std.proofs.lemmas.Bool.{cases_lt}
use Rattle.std.proofs.lemmas.List.Elements.{All-nil, All-head, All-tail, All-append, All-map}
use Rattle.clip_regions.specs.declared.region.Region.{Region}
use Rattle.clip_regions.specs.Regions.{contains, empty_region, cells}
use Rattle.clip_regions.proofs.Cells.{lying}
use Rattle.terrain_model.specs.Terrain.{Terrain, level_height}
use Rattle.mesh_model.specs.declared.shapes.Vertex.{Vertex}
use Rattle.mesh_model.specs.Height.{active_at, lower_end, upper_end, blend_share, blended_height, vertex_height}
use Rattle.mesh_model.specs.Vertices.{LevelCell, hole, cells_outside, listed_from, listed_vertices, vertex_at, mesh_vertices}
use Rattle.mesh_model.specs.Parts.{parts_of_regions}
use Rattle.mesh_model.specs.Mesh.{mesh_of_parts, mesh}
use Rattle.mesh_model.proofs.Cells.{all_kept, all_cells}
use Rattle.mesh_laws.proofs.Ends.{lower_there, upper_there}
use Rattle.active_region.specs.Active.{AreActive}
use Rattle.ring_mesh.proofs.Blends.{unmixed, coarsest_share}
use Rattle.torus_grid.specs.Places.{place_among}
use Rattle.torus_grid.specs.Laws.{CellsInRows}
use Rattle.decode_workers.specs.Copies.{CopiesView, heights_in, AreCopiesOf}

-- two terrains have the same level heights in active regions
pub SameHeights : Terrain → Terrain → List Region → Type 0
SameHeights t u actives = (level : ℕ) (i j : ℤ) → level < length actives → contains (active_at actives level) i j ≡ true → level_height t level i j ≡ level_height u level i j

-- ---- one vertex
last_level : (level n : ℕ) → level < n → (level + 1 < n → ⊥) → (level + 1 == n) ≡ true
last_level level n h last = grind arith

own_height : (t : Terrain) (k : ℕ) (actives : List Region) (level : ℕ) (i j : ℤ) → (level + 1 == length actives) ≡ true →
    vertex_height t k actives level i j ≡ blended_height k true (active_at actives level) i j (level_height t level i j) (pos 0) (pos 0)
unfolding vertex_height
own_height t k actives level i j last =
    let r = active_at actives level in
    let none : blend_share k (level + 1 == length actives) r i j ≡ pos 0 = ap (λ (b : Bool). blend_share k b r i j) last ∙ coarsest_share k r i j in
    unmixed k (level + 1 == length actives) r i j (level_height t level i j) (level_height t (level + 1) (lower_end i) (lower_end j)) (level_height t (level + 1) (upper_end i) (upper_end j)) none

by_ends : (t u : Terrain) (k : ℕ) (actives : List Region) (level : ℕ) (i j : ℤ) → level_height t level i j ≡ level_height u level i j →
    level_height t (level + 1) (lower_end i) (lower_end j) ≡ level_height u (level + 1) (lower_end i) (lower_end j) →
    level_height t (level + 1) (upper_end i) (upper_end j) ≡ level_height u (level + 1) (upper_end i) (upper_end j) →
    vertex_height t k actives level i j ≡ vertex_height u k actives level i j
unfolding vertex_height
by_ends t u k actives level i j own a b =
    λ n. blended_height k (level + 1 == length actives) (active_at actives level) i j (own n) (a n) (b n)

same_height : (t u : Terrain) (k : ℕ) (actives : List Region) (level : ℕ) (i j : ℤ) → AreActive actives → SameHeights t u actives → level < length actives → contains (active_at actives level) i j ≡ true →
    vertex_height t k actives level i j ≡ vertex_height u k actives level i j
unfolding SameHeights
same_height t u k actives level i j active same low there =
    let own = same level i j low there in
    elim (cases_lt (level + 1) (length actives)) [
      | inl finer ↦ by_ends t u k actives level i j own
          (same (level + 1) (lower_end i) (lower_end j) finer (lower_there actives level i j active finer there))
          (same (level + 1) (upper_end i) (upper_end j) finer (upper_there actives level i j active finer there))
      | inr past ↦
          let last : (level + 1 == length actives) ≡ true = last_level level (length actives) low (λ finer. omega arith) in
          own_height t k actives level i j last
          ∙ ap (λ (h : ℤ). blended_height k true (active_at actives level) i j h (pos 0) (pos 0)) own
          ∙ sym (own_height u k actives level i j last)
    ]

same_vertex : (t u : Terrain) (k : ℕ) (actives : List Region) (cell : LevelCell) → vertex_height t k actives cell.level cell.i cell.j ≡ vertex_height u k actives cell.level cell.i cell.j →
    vertex_at t k actives cell ≡ vertex_at u k actives cell
unfolding vertex_at
same_vertex t u k actives cell e =
    ap (λ (h : ℤ). record { x = cell.i *ℤ pos (2 ^ cell.level); z = cell.j *ℤ pos (2 ^ cell.level); height = h }) e

-- ---- all vertices
pub map_same : {A B : Type 0} (f g : A → B) (xs : List A) → All (λ x. f x ≡ g x) xs → map f xs ≡ map g xs
map_same f g [] h = refl
map_same f g (x ∷ xs) h =
    ap₂ (λ y ys. y ∷ ys) (All-head (λ z. f z ≡ g z) x xs h) (map_same f g xs (All-tail (λ z. f z ≡ g z) x xs h))

-- the regions are those of the levels from this one on
record AreFrom (actives : List Region) (level : ℕ) (regions : List Region) : Type 0 where
  low : (n : ℕ) → n < length regions → level + n < length actives
  is : (n : ℕ) → n < length regions → get_or regions n empty_region ≡ active_at actives (level + n)

after : (actives : List Region) (level : ℕ) (active : Region) (coarser : List Region) → AreFrom actives level (active ∷ coarser) → AreFrom actives (level + 1) coarser
after actives level active coarser h =
    record {
      low = λ n l. subst (λ (m : ℕ). m < length actives) (omega arith) (h.low (suc n) (omega arith));
      is = λ n l. h.is (suc n) (omega arith) ∙ ap (active_at actives) (omega arith);
    }

all_listed : (P : LevelCell → Type 0) (actives : List Region) (level : ℕ) (finer : Region) (regions : List Region) →
    ((l : ℕ) (i j : ℤ) → l < length actives → contains (active_at actives l) i j ≡ true → P (record { level = l; i = i; j = j })) →
    AreFrom actives level regions → All P (listed_from level finer regions)
unfolding cells_outside
all_listed P actives level finer [] each h = All-nil P
all_listed P actives level finer (active ∷ coarser) each h =
    let low : level < length actives = subst (λ (m : ℕ). m < length actives) (omega arith) (h.low 0 (omega arith)) in
    let is : active ≡ active_at actives level = h.is 0 (omega arith) ∙ ap (active_at actives) (omega arith) in
    let cell : ℤ × ℤ → LevelCell = λ c. record { level = level; i = c.0; j = c.1 } in
    let own : All (λ c. P (cell c)) (cells active) = all_cells (λ c. P (cell c)) active (λ i j l. each level i j low (ap (λ (r : Region). contains r i j) (sym is) ∙ lying active i j l)) in
    All-append P (map cell (cells_outside finer active)) (listed_from (level + 1) active coarser)
    (All-map P cell (cells_outside finer active) (all_kept (λ c. P (cell c)) (λ c. not (contains (hole finer) c.0 c.1)) (cells active) (weaker (λ c. P (cell c)) (λ c. not (contains (hole finer) c.0 c.1) ≡ true) (cells active) own)))
    (all_listed P actives (level + 1) active coarser each (after actives level active coarser h))
  where
    weaker : (Q R : ℤ × ℤ → Type 0) (xs : List (ℤ × ℤ)) → All Q xs → All (λ c. R c → Q c) xs
    weaker Q R xs h' k d l = λ _. h' k d l

first_levels : (actives : List Region) → AreFrom actives 0 actives
unfolding active_at
first_levels actives = record { low = λ n l. omega arith; is = λ n l. ap (λ (m : ℕ). get_or actives m empty_region) (omega arith) }

vertices_same : (t u : Terrain) (k : ℕ) (actives : List Region) → AreActive actives → SameHeights t u actives → mesh_vertices t k actives ≡ mesh_vertices u k actives
unfolding mesh_vertices
vertices_same t u k actives active same =
    map_same (vertex_at t k actives) (vertex_at u k actives) (listed_vertices actives)
    (all_listed (λ cell. vertex_at t k actives cell ≡ vertex_at u k actives cell) actives 0 empty_region actives (λ l i j low there. same_vertex t u k actives (record { level = l; i = i; j = j }) (same_height t u k actives l i j active same low there)) (first_levels actives))

pub meshes_same : (t u : Terrain) (k : ℕ) (actives : List Region) → AreActive actives → SameHeights t u actives → mesh t k actives ≡ mesh u k actives
unfolding mesh
meshes_same t u k actives active same =
    ap (λ (vs : List Vertex). mesh_of_parts vs (parts_of_regions vs actives)) (vertices_same t u k actives active same)

-- ---- two terrains of one list of copies
pub height_there : CellsInRows → (t : Terrain) (level : ℕ) (r : Region) (i j : ℤ) → contains r i j ≡ true → get_or (heights_in t level r) (place_among r i j) (pos 0) ≡ level_height t level i j
height_there law t level r i j there = law r (λ c. level_height t level c.0 c.1) i j there

pub copies_same : CellsInRows → (t u : Terrain) (copies : CopiesView) → AreCopiesOf t copies → AreCopiesOf u copies → SameHeights t u copies.actives
unfolding SameHeights
copies_same law t u copies of_t of_u = λ level i j low there.
    let r = active_at copies.actives level in
    sym (height_there law t level r i j there)
    ∙ ap (λ (hs : List ℤ). get_or hs (place_among r i j) (pos 0)) (sym (of_t level low) ∙ of_u level low)
    ∙ height_there law u level r i j there
