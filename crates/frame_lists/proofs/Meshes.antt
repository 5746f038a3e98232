-- The numbers of a frame's mesh are in the ranges of its text.
use Rattle.std.proofs.Common.{◌≡◌, inl, inr, ℕ, ℤ, pos, neg_ℤ, suc, ◌+◌, ◌-◌, ◌^◌, ◌<◌, ◌≤◌, ◌≤ℤ◌, ◌*ℤ◌, true, false, not, ◌&&◌, ◌||◌, ◌==◌, List, [], ◌∷◌, All, length, get_or, map, refl, sym, ap, subst, ◌∙◌, arith}
use Rattle.std.specs.List.{slice_index, slice_index_or}
use Rattle.std.proofs.Math.Pow.{pow_mono}
use Rattle.std.proofs.lemmas.Int.{ints}
use Rattle.std.proofs.lemmas.Bool.{cases_Bool, and_from, or_left, or_right, false_from_ne_true, false≢true, eqb-true, eq-eqb}
use Rattle.std.proofs.lemmas.List.Elements.{All-append, All-cons, All-nil, All-head, All-tail, All-map}
use Rattle.std.proofs.lemmas.List.Sums.{sum_by-cons}
use Rattle.clip_regions.specs.declared.region.Region.{Region}
use Rattle.clip_regions.specs.Regions.{contains, empty_region, cells, IsWithin}
use Rattle.clip_regions.proofs.Cells.{lying, HasCell}
use Rattle.plan_model.specs.Laws.{IsEvenOrEmpty, AllEvenOrEmpty, AreNested}
use Rattle.plan_model.specs.Limits.{IsSize, IsViewed}
use Rattle.plan_model.specs.Window.{margin, IsInReach}
use Rattle.plan_model.proofs.ActiveLaws.{even_if_cell}
use Rattle.active_region.specs.Active.{IsWide, IsWideOrEmpty, AreActive}
use Rattle.terrain_model.specs.Terrain.{Terrain, IsTerrain}
use Rattle.mesh_model.specs.Height.{active_at}
use Rattle.mesh_model.specs.Laws.{NestedNames, VerticesApart, OwnPlaces}
use Rattle.mesh_model.specs.Mesh.{mesh, mesh_of_parts}
use Rattle.mesh_model.specs.Vertices.{LevelCell, hole, cells_outside, listed_from, listed_vertices, vertex_at, mesh_vertices}
use Rattle.mesh_model.specs.Watertight.{scaled, covered, has_edge, edge_count}
use Rattle.mesh_model.proofs.Cells.{all_kept, all_cells}
use Rattle.mesh_laws.specs.Conditions.{IsAtMost}
use Rattle.mesh_laws.specs.Laws.{ActivesReach, CellsReach, HeightsAreSmall, FewVertices, PartSquares}
use Rattle.mesh_laws.proofs.Reaches.{order_times}
use Rattle.watertight_laws.proofs.Corners.{mesh_three}
use Rattle.watertight_laws.proofs.Sums.{one_if}
use Rattle.mesh_lists.specs.Lists.{IsFace}
use Rattle.mesh_lists.specs.Says.{are_apart}
use Rattle.frame_lists.proofs.Selves.{none_to_itself}
use Rattle.frame_lists.specs.Laws.{IsDrawnOrEmpty, IsPrinted, TextsSayLists, MeshesArePrinted, FramesSayMesh}

-- ---- the regions
wide_cell : (r : Region) → IsWide r → HasCell r
wide_cell r wide = let across = wide.across in let along = wide.along in record { across = omega (arith, ints, across); along = omega (arith, ints, along) }

drawn_one : (r : Region) → IsEvenOrEmpty r → IsWithin (2 ^ 24) r → IsWideOrEmpty r → IsDrawnOrEmpty r
drawn_one r even near (inl none) = inl none
drawn_one r even near (inr wide) = inr (record { even = even_if_cell r even (wide_cell r wide); near = near; wide = wide })

drawn_all : (regions : List Region) → AllEvenOrEmpty regions → All (IsWithin (2 ^ 24)) regions → All IsWideOrEmpty regions → All IsDrawnOrEmpty regions
drawn_all [] even near wide = All-nil IsDrawnOrEmpty
drawn_all (r ∷ rest) even near wide =
    All-cons IsDrawnOrEmpty r rest
    (drawn_one r even.0 (All-head (IsWithin (2 ^ 24)) r rest near) (All-head IsWideOrEmpty r rest wide))
    (drawn_all rest even.1 (All-tail (IsWithin (2 ^ 24)) r rest near) (All-tail IsWideOrEmpty r rest wide))

-- ---- what the coarsest level covers
-- an empty region by positions
none_low : (p : ℕ) → p ≤ 2048 → neg_ℤ (pos (2 ^ 24)) ≤ℤ ((neg_ℤ (pos 1)) *ℤ pos p)
none_low p h = omega (arith, ints)

none_high : (p : ℕ) → (pos 0 *ℤ pos p) ≤ℤ pos (2 ^ 24)
none_high p = omega (arith, ints)

farther : (a : ℤ) → neg_ℤ (pos (2 ^ 23)) ≤ℤ a → neg_ℤ (pos (2 ^ 24)) ≤ℤ a
farther a h = omega (arith, ints)

below_farther : (a : ℤ) → a ≤ℤ pos (2 ^ 23) → a ≤ℤ pos (2 ^ 24)
below_farther a h = omega (arith, ints)

after : (a b : ℤ) → a ≤ℤ b → neg_ℤ (pos (2 ^ 23)) ≤ℤ a → neg_ℤ (pos (2 ^ 24)) ≤ℤ b
after a b h k = omega (arith, ints)

before : (a b : ℤ) → a ≤ℤ b → b ≤ℤ pos (2 ^ 23) → a ≤ℤ pos (2 ^ 24)
before a b h k = omega (arith, ints)

scaled_near : (r : Region) (level : ℕ) → level ≤ 11 → IsInReach level r → IsWideOrEmpty r → IsWithin (2 ^ 24) (scaled (pos (2 ^ level)) r)
unfolding scaled
scaled_near r level low reach (inl none) =
    let p : ℕ = 2 ^ level in
    let small : p ≤ 2048 = pow_mono {i = level} {j = 11} low in
    record {
      x0_low = farther (r.x0 *ℤ pos p) reach.west;
      x0_high = subst (λ (q : Region). (q.x0 *ℤ pos p) ≤ℤ pos (2 ^ 24)) (sym none) (none_high p);
      y0_low = farther (r.y0 *ℤ pos p) reach.north;
      y0_high = subst (λ (q : Region). (q.y0 *ℤ pos p) ≤ℤ pos (2 ^ 24)) (sym none) (none_high p);
      x1_low = subst (λ (q : Region). neg_ℤ (pos (2 ^ 24)) ≤ℤ (q.x1 *ℤ pos p)) (sym none) (none_low p small);
      x1_high = below_farther (r.x1 *ℤ pos p) reach.east;
      y1_low = subst (λ (q : Region). neg_ℤ (pos (2 ^ 24)) ≤ℤ (q.y1 *ℤ pos p)) (sym none) (none_low p small);
      y1_high = below_farther (r.y1 *ℤ pos p) reach.south;
    }
scaled_near r level low reach (inr wide) =
    let p : ℕ = 2 ^ level in
    let cell = wide_cell r wide in
    let across = order_times r.x0 r.x1 p cell.across in
    let along = order_times r.y0 r.y1 p cell.along in
    record {
      x0_low = farther (r.x0 *ℤ pos p) reach.west;
      x0_high = before (r.x0 *ℤ pos p) (r.x1 *ℤ pos p) across reach.east;
      y0_low = farther (r.y0 *ℤ pos p) reach.north;
      y0_high = before (r.y0 *ℤ pos p) (r.y1 *ℤ pos p) along reach.south;
      x1_low = after (r.x0 *ℤ pos p) (r.x1 *ℤ pos p) across reach.west;
      x1_high = below_farther (r.x1 *ℤ pos p) reach.east;
      y1_low = after (r.y0 *ℤ pos p) (r.y1 *ℤ pos p) along reach.north;
      y1_high = below_farther (r.y1 *ℤ pos p) reach.south;
    }

covered_near : ActivesReach → (actives : List Region) → AreActive actives → IsWithin (2 ^ 24) (covered actives)
unfolding covered active_at
covered_near reaches actives active =
    let some = active.drawn.many.low in
    let many = active.drawn.many.high in
    let last : ℕ = length actives - 1 in
    scaled_near (slice_index_or actives last empty_region) last (omega (arith, many))
    (reaches actives last active (omega (arith, some))) (active.drawn.wide last empty_region (omega (arith, some)))

-- ---- the vertices
-- what is true of each cell of a region is true of each cell that is listed
listed_all : (P : LevelCell → Type 0) (level : ℕ) (finer : Region) (regions : List Region) →
    ((n m : ℕ) (i j : ℤ) → m ≡ level + n → n < length regions → contains (slice_index_or regions n empty_region) i j ≡ true → P (record { level = m; i = i; j = j })) →
    All P (listed_from level finer regions)
unfolding cells_outside
listed_all P level finer [] each = All-nil P
listed_all P level finer (active ∷ coarser) each =
    All-append P (map (λ cell. record { level = level; i = cell.0; j = cell.1 }) (cells_outside finer active)) (listed_from (level + 1) active coarser)
    (All-map P (λ (cell : ℤ × ℤ). record { level = level; i = cell.0; j = cell.1 }) (cells_outside finer active) kept)
    (listed_all P (level + 1) active coarser (λ n m i j is low there. each (suc n) m i j (omega (arith, is)) (omega (arith, low)) there))
  where
    here : ℤ × ℤ → Type 0
    here cell = P (record { level = level; i = cell.0; j = cell.1 })

    kept : All here (cells_outside finer active)
    kept =
        all_kept here (λ cell. not (contains (hole finer) cell.0 cell.1)) (cells active)
        (all_cells (λ cell. not (contains (hole finer) cell.0 cell.1) ≡ true → here cell) active
        (λ i j lies _. each 0 level i j (omega arith) (omega arith) (lying active i j lies)))

module _ (reaches : CellsReach) (heights : HeightsAreSmall) (terrain : Terrain) (k : ℕ) (actives : List Region) (is : IsTerrain terrain) (size : IsSize k) (active : AreActive actives) where
  vertex_printed : (level : ℕ) (i j : ℤ) → level < length actives → contains (active_at actives level) i j ≡ true → IsPrinted (vertex_at terrain k actives (record { level = level; i = i; j = j }))
  unfolding vertex_at
  vertex_printed level i j low there =
      let near = reaches actives level i j active low there in
      let column = near.0 in
      let row = near.1 in
      record {
        near = record {
          x_low = farther (i *ℤ pos (2 ^ level)) column.low;
          x_high = below_farther (i *ℤ pos (2 ^ level)) column.high;
          z_low = farther (j *ℤ pos (2 ^ level)) row.low;
          z_high = below_farther (j *ℤ pos (2 ^ level)) row.high;
        };
        height = heights terrain k actives level i j is size there;
      }

  vertices_printed : All IsPrinted (mesh_vertices terrain k actives)
  unfolding mesh_vertices active_at
  vertices_printed =
      All-map IsPrinted (vertex_at terrain k actives) (listed_vertices actives)
      (listed_all (λ cell. IsPrinted (vertex_at terrain k actives cell)) 0 empty_region actives (λ n m i j same low there.
      let level : n ≡ m = omega (arith, same) in
      subst (λ (l : ℕ). IsPrinted (vertex_at terrain k actives (record { level = l; i = i; j = j }))) level (vertex_printed n i j low there)))

-- ---- the triangles
-- where no triangle goes along an edge, none of them does
none_along : (a b : ℕ) (triangles : List (List ℕ)) → edge_count triangles a b ≡ 0 → All (λ t. has_edge a b t ≡ false) triangles
unfolding edge_count
none_along a b [] none = All-nil (λ t. has_edge a b t ≡ false)
none_along a b (t ∷ ts) none =
    let whole = sum_by-cons (λ (s : List ℕ). one_if (has_edge a b s)) t ts in
    elim (cases_Bool (has_edge a b t)) [
      | inl e ↦ let one : one_if (has_edge a b t) ≡ 1 = ap one_if e in absurd (omega (arith, none, whole, one))
      | inr e ↦ All-cons (λ s. has_edge a b s ≡ false) t ts e (none_along a b ts (omega (arith, none, whole)))
    ]

module _ (parts : PartSquares) (names : NestedNames) (apart : VerticesApart) (own : OwnPlaces) (terrain : Terrain) (k e : ℕ)
    (active : Region) (coarser : List Region) (evens : AllEvenOrEmpty (active ∷ coarser)) (wides : All IsWideOrEmpty (active ∷ coarser)) (nested : AreNested e (active ∷ coarser)) where
  -- no triangle goes from a vertex to the same
  differ : (n : ℕ) (d : List ℕ) (a b : ℕ) → n < length (mesh terrain k (active ∷ coarser)).triangles →
      a < length (mesh_vertices terrain k (active ∷ coarser)) → b < length (mesh_vertices terrain k (active ∷ coarser)) →
      has_edge a b (get_or (mesh terrain k (active ∷ coarser)).triangles n d) ≡ true → (a == b) ≡ false
  differ n d a b low la lb along =
      false_from_ne_true (a == b) (λ t.
      let same : a ≡ b = eqb-true a b t in
      let none : edge_count (mesh terrain k (active ∷ coarser)).triangles a b ≡ 0 =
      subst (λ (c : ℕ). edge_count (mesh terrain k (active ∷ coarser)).triangles a c ≡ 0) same (none_to_itself parts apart own terrain k e active coarser evens wides nested a la) in
      false≢true (sym (none_along a b (mesh terrain k (active ∷ coarser)).triangles none n d low) ∙ along))

  face : (n : ℕ) (d : List ℕ) → n < length (mesh terrain k (active ∷ coarser)).triangles →
      IsFace (length (mesh terrain k (active ∷ coarser)).vertices) (get_or (mesh terrain k (active ∷ coarser)).triangles n d)
  unfolding has_edge are_apart mesh mesh_of_parts
  face n d low =
      let t : List ℕ = get_or (mesh terrain k (active ∷ coarser)).triangles n d in
      let p : ℕ = slice_index t 0 in
      let q : ℕ = slice_index t 1 in
      let r : ℕ = slice_index t 2 in
      let three : length t ≡ 3 = mesh_three parts terrain k (active ∷ coarser) n d low in
      let named : All (λ place. place < length (mesh_vertices terrain k (active ∷ coarser))) t = names terrain k e (active ∷ coarser) evens nested n d low in
      let lp : p < length (mesh_vertices terrain k (active ∷ coarser)) = named 0 0 (omega (arith, three)) in
      let lq : q < length (mesh_vertices terrain k (active ∷ coarser)) = named 1 0 (omega (arith, three)) in
      let lr : r < length (mesh_vertices terrain k (active ∷ coarser)) = named 2 0 (omega (arith, three)) in
      let pq : (p == q) ≡ false =
      differ n d p q low lp lq
      (or_left ((p == p && q == q) || (q == p && r == q)) (r == p && p == q)
      (or_left (p == p && q == q) (q == p && r == q) (and_from (p == p) (q == q) (eq-eqb p p refl) (eq-eqb q q refl)))) in
      let qr : (q == r) ≡ false =
      differ n d q r low lq lr
      (or_left ((p == q && q == r) || (q == q && r == r)) (r == q && p == r)
      (or_right (p == q && q == r) (q == q && r == r) (and_from (q == q) (r == r) (eq-eqb q q refl) (eq-eqb r r refl)))) in
      let rp : (r == p) ≡ false =
      differ n d r p low lr lp
      (or_right ((p == r && q == p) || (q == r && r == p)) (r == r && p == p) (and_from (r == r) (p == p) (eq-eqb r r refl) (eq-eqb p p refl))) in
      let told : not ((p == q || q == r) || r == p) ≡ true = rw (pq, qr, rp) refl in
      record { three = three; below = named; apart = told }

faces : PartSquares → NestedNames → VerticesApart → OwnPlaces → (terrain : Terrain) (k : ℕ) (actives : List Region) → AreActive actives →
    All (IsFace (length (mesh terrain k actives).vertices)) (mesh terrain k actives).triangles
faces parts names apart own terrain k [] active = let some = active.drawn.many.low in absurd (omega (arith, some))
faces parts names apart own terrain k (r ∷ coarser) active =
    λ n d low. face parts names apart own terrain k (margin active.k) r coarser active.drawn.even active.drawn.wide active.drawn.nested n d low

pub meshes_printed : ActivesReach → CellsReach → HeightsAreSmall → FewVertices → PartSquares → NestedNames → VerticesApart → OwnPlaces → MeshesArePrinted
unfolding mesh mesh_of_parts
meshes_printed region_reach cell_reach heights few parts names apart own terrain k actives is size active =
    let fewer : length (mesh_vertices terrain k actives) < 2 ^ 31 = few terrain k actives active in
    record {
      levels = active.drawn.many;
      regions = drawn_all actives active.drawn.even active.drawn.near active.drawn.wide;
      covered = covered_near region_reach actives active;
      few = omega (arith, fewer);
      vertices = vertices_printed cell_reach heights terrain k actives is size active;
      faces = faces parts names apart own terrain k actives active;
    }

viewed_near : (x : ℤ) → IsViewed x → IsAtMost (2 ^ 24) x
viewed_near x h = record { low = omega (arith, ints, h.low); high = omega (arith, ints, h.high) }

pub frames_say_mesh : MeshesArePrinted → TextsSayLists → FramesSayMesh
frames_say_mesh printed says terrain k number x y actives is size active small column row =
    says number x y actives (mesh terrain k actives) small (viewed_near x column) (viewed_near y row) (printed terrain k actives is size active)
