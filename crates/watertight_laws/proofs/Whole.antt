-- Every edge of a mesh is closed: the closed form of its counts, at the spots of its two vertices on the finest level.
use Rattle.std.proofs.Common.{◌≡◌, ◌≢◌, ℕ, suc, ◌+◌, ◌-◌, ◌*◌, ◌^◌, ◌<◌, ◌≤◌, Bool, true, cond, ◌&&◌, ◌==◌, List, [], ◌∷◌, length, ℤ, pos, ◌*ℤ◌, refl, ap, sym, subst, ◌∙◌, inl, inr, arith}
use Rattle.std.specs.List.{All, slice_index_or}
use Rattle.std.proofs.lemmas.Int.{ints}
use Rattle.std.proofs.lemmas.Nat.{pow-add}
use Rattle.std.proofs.lemmas.Bool.{cases_lt, cases_eq, or_left, or_right, and_from, eq-eqb}
use Rattle.clip_regions.specs.declared.region.Region.{Region}
use Rattle.clip_regions.specs.Regions.{empty_region}
use Rattle.plan_model.specs.Laws.{AllEvenOrEmpty, AreNested}
use Rattle.plan_model.specs.Window.{margin}
use Rattle.plan_model.specs.Actives.{actives}
use Rattle.active_region.specs.Active.{IsWideOrEmpty}
use Rattle.terrain_model.specs.Terrain.{Terrain}
use Rattle.mesh_model.specs.Height.{active_at}
use Rattle.mesh_model.specs.Vertices.{hole, mesh_vertices, vertex_of_place}
use Rattle.mesh_model.specs.Parts.{parts_of_regions}
use Rattle.mesh_model.specs.Mesh.{mesh, mesh_of_parts}
use Rattle.mesh_model.specs.Laws.{NestedNames, VerticesApart, OwnPlaces}
use Rattle.mesh_model.specs.Watertight.{edge_count, scaled, covered, is_on_side, is_closed_by, is_closed, EdgesClose, IsWatertight}
use Rattle.mesh_laws.specs.Laws.{PartSquares, SquaresOnce}
use Rattle.watertight_laws.specs.Edges.{Spot, Nowhere, At, coarser_spot, border_edges, square_edges_from, stitch_edges_from, edges_between}
use Rattle.watertight_laws.specs.Laws.{spot_of}
use Rattle.watertight_laws.proofs.Borders.{no_border}
use Rattle.watertight_laws.proofs.Levels.{counted, count_most, mesh_tally}
use Rattle.watertight_laws.proofs.Ways.{IsStep, far_ring, far_border, self_far, edges_from, square_from_nowhere}
use Rattle.watertight_laws.proofs.OneLevel.{on_side, Closes, None, Open, Shut}
use Rattle.watertight_laws.proofs.Closing.{outer, closes_same, closing}
use Rattle.watertight_laws.proofs.Corners.{none_out}
use Rattle.watertight_laws.proofs.Agreeing.{heights_agree}
use Rattle.mesh_laws.proofs.Flat.{stitches_flat}
use Rattle.mesh_laws.proofs.Once.{squares_cover}
use Rattle.plan_model.specs.Limits.{IsSize}
use Rattle.mesh_model.proofs.Rectangles.{no_hole}
use Rattle.mesh_model.proofs.Named.{from_nothing}
use Rattle.clip_regions.proofs.Cells.{empty_is_empty}

-- ---- the words of the definition
closed_by : (there back : ℕ) (border : Bool) → Closes there back border → is_closed_by there back border ≡ true
unfolding is_closed_by
closed_by there back border (None e e') =
    or_left (there + back == 0) (cond border (there + back == 1) (there == 1 && back == 1)) (eq-eqb (there + back) 0 (omega (arith, e, e')))
closed_by there back border (Open side e) =
    or_right (there + back == 0) (cond border (there + back == 1) (there == 1 && back == 1))
    (ap (λ b. cond b (there + back == 1) (there == 1 && back == 1)) side ∙ eq-eqb (there + back) 1 e)
closed_by there back border (Shut off e e') =
    or_right (there + back == 0) (cond border (there + back == 1) (there == 1 && back == 1))
    (ap (λ b. cond b (there + back == 1) (there == 1 && back == 1)) off ∙ and_from (there == 1) (back == 1) (eq-eqb there 1 e) (eq-eqb back 1 e'))

-- ---- the region that the mesh covers
more_power : (x : ℤ) (n : ℕ) → x *ℤ pos (2 ^ suc n) ≡ (x *ℤ pos (2 ^ n)) *ℤ pos 2
more_power x n = ap (λ m. x *ℤ pos (2 ^ m)) next ∙ ap (λ m. x *ℤ pos m) (pow-add 2 n 1) ∙ grouped x (2 ^ n)
  where
    next : suc n ≡ n + 1
    next = omega arith

    grouped : (a : ℤ) (m : ℕ) → a *ℤ pos (m * 2) ≡ (a *ℤ pos m) *ℤ pos 2
    grouped a m = omega (arith, ints)

scaled_once : (r : Region) → scaled (pos (2 ^ 0)) r ≡ r
unfolding scaled
scaled_once r =
    let one : (x : ℤ) → x *ℤ pos (2 ^ 0) ≡ x = λ x. omega (arith, ints) in
    λ t. record { x0 = one r.x0 t; y0 = one r.y0 t; x1 = one r.x1 t; y1 = one r.y1 t }

scaled_more : (n : ℕ) (r : Region) → scaled (pos (2 ^ suc n)) r ≡ scaled (pos 2) (scaled (pos (2 ^ n)) r)
unfolding scaled
scaled_more n r = λ t. record { x0 = more_power r.x0 n t; y0 = more_power r.y0 n t; x1 = more_power r.x1 n t; y1 = more_power r.y1 n t }

outer_is : (active : Region) (coarser : List Region) → scaled (pos (2 ^ length coarser)) (slice_index_or (active ∷ coarser) (length coarser) empty_region) ≡ outer active coarser
outer_is active [] = scaled_once active
outer_is active (next ∷ coarser) =
    scaled_more (length coarser) (slice_index_or (next ∷ coarser) (length coarser) empty_region) ∙ ap (scaled (pos 2)) (outer_is next coarser)

covered_is : (active : Region) (coarser : List Region) → covered (active ∷ coarser) ≡ outer active coarser
unfolding covered active_at
covered_is active coarser =
    let level : length (active ∷ coarser) - 1 ≡ length coarser = omega arith in
    ap (λ n. scaled (pos (2 ^ n)) (slice_index_or (active ∷ coarser) n empty_region)) level ∙ outer_is active coarser

-- ---- counts from the finest level
whole_is : (active : Region) (coarser : List Region) (p q : Spot) → edges_between (active ∷ coarser) p q ≡ edges_from empty_region active coarser p q
unfolding edges_between edges_from
whole_is active coarser p q =
    let none : border_edges (hole empty_region) q p ≡ 0 = ap (λ r. border_edges r q p) no_hole ∙ no_border q p in
    omega (arith, none)

stay : (x z : ℤ) → IsStep (pos 0) (pos 0) x z x z
stay x z = record { column = omega (arith, ints); row = omega (arith, ints) }

squares_self : (finer : Region) (actives : List Region) (p : Spot) → square_edges_from finer actives p p ≡ 0
squares_self finer [] p = refl
squares_self finer (active ∷ coarser) Nowhere = square_from_nowhere finer (active ∷ coarser) Nowhere
squares_self finer (active ∷ coarser) (At x z) =
    let here = far_ring finer active (pos 0) (pos 0) x z x z (stay x z) self_far in
    let rest = squares_self active coarser (coarser_spot (At x z)) in
    omega (arith, here, rest)

border_self : (r : Region) (p : Spot) → border_edges r p p ≡ 0
unfolding border_edges
border_self r Nowhere = refl
border_self r (At x z) = far_border r (pos 0) (pos 0) x z x z (stay x z) self_far

stitches_self : (active : Region) (coarser : List Region) (p : Spot) → stitch_edges_from active coarser p p ≡ 0
stitches_self active [] p = refl
stitches_self active (next ∷ coarser) p =
    let here = border_self active p in
    let there = border_self (hole active) (coarser_spot p) in
    let rest = stitches_self next coarser (coarser_spot p) in
    omega (arith, here, there, rest)

-- no edge goes from a spot to itself
pub none_self : (active : Region) (coarser : List Region) (p : Spot) → edges_between (active ∷ coarser) p p ≡ 0
unfolding edges_between
none_self active coarser p =
    let squares = squares_self empty_region (active ∷ coarser) p in
    let stitches = stitches_self active coarser p in
    omega (arith, squares, stitches)

-- ---- all edges
module _ (parts : PartSquares) (once : SquaresOnce) (names : NestedNames) (apart : VerticesApart) (own : OwnPlaces) (terrain : Terrain) (k e : ℕ) (some : 1 ≤ e) where
  none_between : (active : Region) (coarser : List Region) → AllEvenOrEmpty (active ∷ coarser) → All IsWideOrEmpty (active ∷ coarser) → AreNested e (active ∷ coarser) →
      (a b : ℕ) → a < length (mesh_vertices terrain k (active ∷ coarser)) → b < length (mesh_vertices terrain k (active ∷ coarser)) → a ≡ b → edge_count (mesh terrain k (active ∷ coarser)).triangles a b ≡ 0
  none_between active coarser evens wides nested a b low low' same =
      let spot = spot_of (mesh_vertices terrain k (active ∷ coarser)) in
      let most = count_most (mesh terrain k (active ∷ coarser)).triangles a b in
      let sums = mesh_tally parts apart own terrain k e (active ∷ coarser) a b evens wides nested low low' in
      let one : edges_between (active ∷ coarser) (spot a) (spot b) ≡ edges_between (active ∷ coarser) (spot b) (spot b) = ap (λ n. edges_between (active ∷ coarser) (spot n) (spot b)) same in
      let none = none_self active coarser (spot b) in
      omega (arith, most, sums, one, none)

  between : (active : Region) (coarser : List Region) → AllEvenOrEmpty (active ∷ coarser) → All IsWideOrEmpty (active ∷ coarser) → AreNested e (active ∷ coarser) →
      (a b : ℕ) → a < length (mesh_vertices terrain k (active ∷ coarser)) → b < length (mesh_vertices terrain k (active ∷ coarser)) →
      Closes (edge_count (mesh terrain k (active ∷ coarser)).triangles a b) (edge_count (mesh terrain k (active ∷ coarser)).triangles b a)
      (on_side (covered (active ∷ coarser)) (spot_of (mesh_vertices terrain k (active ∷ coarser)) a) (spot_of (mesh_vertices terrain k (active ∷ coarser)) b))
  between active coarser evens wides nested a b low low' =
      elim (cases_eq a b) [
        | inl same ↦ None (none_between active coarser evens wides nested a b low low' same) (none_between active coarser evens wides nested b a low' low (sym same))
        | inr other ↦ apart_from other
      ]
    where
      p : Spot
      p = spot_of (mesh_vertices terrain k (active ∷ coarser)) a

      q : Spot
      q = spot_of (mesh_vertices terrain k (active ∷ coarser)) b

      apart_from : a ≢ b → Closes (edge_count (mesh terrain k (active ∷ coarser)).triangles a b) (edge_count (mesh terrain k (active ∷ coarser)).triangles b a) (on_side (covered (active ∷ coarser)) p q)
      apart_from other =
          subst (λ (r : Region). Closes (edge_count (mesh terrain k (active ∷ coarser)).triangles a b) (edge_count (mesh terrain k (active ∷ coarser)).triangles b a) (on_side r p q)) (sym (covered_is active coarser))
          (closes_same (edges_from empty_region active coarser p q) (edges_from empty_region active coarser q p)
          (edge_count (mesh terrain k (active ∷ coarser)).triangles a b) (edge_count (mesh terrain k (active ∷ coarser)).triangles b a) (on_side (outer active coarser) p q)
          (counted parts apart own terrain k e (active ∷ coarser) a b evens wides nested low low' other ∙ whole_is active coarser p q)
          (counted parts apart own terrain k e (active ∷ coarser) b a evens wides nested low' low (λ same. other (sym same)) ∙ whole_is active coarser q p)
          (closing once e empty_region active coarser some (inl refl) (inl empty_is_empty) wides evens (from_nothing e (active ∷ coarser) nested) p q))

  any_edge : (active : Region) (coarser : List Region) → AllEvenOrEmpty (active ∷ coarser) → All IsWideOrEmpty (active ∷ coarser) → AreNested e (active ∷ coarser) → EdgesClose terrain k (active ∷ coarser)
  unfolding is_closed mesh mesh_of_parts spot_of is_on_side
  any_edge active coarser evens wides nested a b =
      let vertices = mesh_vertices terrain k (active ∷ coarser) in
      let triangles = (mesh terrain k (active ∷ coarser)).triangles in
      let named = names terrain k e (active ∷ coarser) evens nested in
      let border = is_on_side (covered (active ∷ coarser)) (vertex_of_place vertices a) (vertex_of_place vertices b) in
      elim (cases_lt a (length vertices)) [
        | inl low ↦ elim (cases_lt b (length vertices)) [
          | inl low' ↦ closed_by (edge_count triangles a b) (edge_count triangles b a) border (between active coarser evens wides nested a b low low')
          | inr past ↦ closed_by (edge_count triangles a b) (edge_count triangles b a) border (None (none_out parts terrain k (active ∷ coarser) a b named (inr past)) (none_out parts terrain k (active ∷ coarser) b a named (inl past)))
        ]
        | inr past ↦ closed_by (edge_count triangles a b) (edge_count triangles b a) border (None (none_out parts terrain k (active ∷ coarser) a b named (inl past)) (none_out parts terrain k (active ∷ coarser) b a named (inr past)))
      ]

  pub all_edges : (actives : List Region) → AllEvenOrEmpty actives → All IsWideOrEmpty actives → AreNested e actives → EdgesClose terrain k actives
  unfolding is_closed is_closed_by edge_count mesh mesh_of_parts parts_of_regions
  all_edges [] evens wides nested a b = refl
  all_edges (active ∷ coarser) evens wides nested a b = any_edge active coarser evens wides nested a b

pub some_margin : (k : ℕ) → 1 ≤ margin k
unfolding margin
some_margin k = omega arith

-- ---- all four points
pub watertight : PartSquares → SquaresOnce → NestedNames → VerticesApart → OwnPlaces → (terrain : Terrain) (k : ℕ) (actives : List Region) → IsSize k →
    AllEvenOrEmpty actives → All IsWideOrEmpty actives → AreNested (margin k) actives → IsWatertight terrain k actives
watertight parts once names apart own terrain k actives size evens wides nested = record {
  heights = heights_agree terrain k actives size nested;
  stitches = stitches_flat terrain k (margin k) actives size (some_margin k) evens nested apart own;
  edges = all_edges parts once names apart own terrain k (margin k) (some_margin k) actives evens wides nested;
  squares = squares_cover (margin k) actives evens nested;
}
