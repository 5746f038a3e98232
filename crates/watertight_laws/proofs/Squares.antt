-- How many triangles of an active region's squares go from one vertex to another.
use Rattle.std.proofs.Common.{◌≡◌, ℕ, ◌+◌, Bool, true, false, cond, ◌&&◌, ◌==◌, List, [], ◌∷◌, ℤ, pos, negsuc, ◌+ℤ◌, ◌-ℤ◌, refl, ap, sym, ◌∙◌, arith}
use Rattle.std.specs.List.{sum_by, count_by, flat_map, slice_index}
use Rattle.std.specs.Ordering.{int_eq}
use Rattle.std.proofs.lemmas.Int.{ints}
use Rattle.std.proofs.lemmas.Bool.{and_parts, and_from, and_right}
use Rattle.clip_regions.specs.declared.region.Region.{Region}
use Rattle.clip_regions.specs.Regions.{contains, cells}
use Rattle.mesh_model.specs.declared.shapes.Vertex.{Vertex}
use Rattle.mesh_model.specs.Parts.{PartTriangles, corner_place, square_triangles, square_parts}
use Rattle.mesh_laws.specs.Squares.{part_squares, triangles_in}
use Rattle.mesh_laws.specs.Laws.{PartSquares}
use Rattle.watertight_laws.specs.Edges.{Spot, Nowhere, At, is_at, by_step, squares_at, ring_edges}
use Rattle.watertight_laws.proofs.Sums.{one_if, sum_map, sum_flat_map, sum_add, sum_none}
use Rattle.watertight_laws.proofs.Picks.{same_from, same_int, pick_cell}
use Rattle.watertight_laws.proofs.Marks.{Marks}
use Rattle.clip_regions.proofs.Cells.{same_test}

-- how many edges of a triangle go from a to b
abbrev pub edges_of : ℕ → ℕ → List ℕ → ℕ
edges_of a b triangle =
    (one_if (slice_index triangle 0 == a && slice_index triangle 1 == b)
    + one_if (slice_index triangle 1 == a && slice_index triangle 2 == b))
    + one_if (slice_index triangle 2 == a && slice_index triangle 0 == b)

-- ---- corners along one axis
-- the first end is p and the second is q exactly where the step is from p to q and the number is picked by p
Axis : (ℤ → ℤ) → (ℤ → ℤ) → (ℤ → ℤ) → ℤ → Type 0
Axis c d f step = (i p q : ℤ) → (int_eq (c i) p && int_eq (d i) q) ≡ (int_eq q (p +ℤ step) && int_eq i (f p))

axis : (a c p q t i x : ℤ) → ((a ≡ p) × (c ≡ q) → (q ≡ t) × (i ≡ x)) → ((q ≡ t) × (i ≡ x) → (a ≡ p) × (c ≡ q)) → (int_eq a p && int_eq c q) ≡ (int_eq q t && int_eq i x)
axis a c p q t i x f g = same_test (int_eq a p && int_eq c q) (int_eq q t && int_eq i x) (λ e. there (f (ends a p c q e))) (λ e. there (g (ends q t i x e)))
  where
    ends : (a' p' c' q' : ℤ) → (int_eq a' p' && int_eq c' q') ≡ true → (a' ≡ p') × (c' ≡ q')
    ends a' p' c' q' e =
        let both : (int_eq a' p' ≡ true) × (int_eq c' q' ≡ true) = and_parts (int_eq a' p') (int_eq c' q') e in
        (same_from a' p' both.0, same_from c' q' both.1)

    there : {a' p' c' q' : ℤ} → (a' ≡ p') × (c' ≡ q') → (int_eq a' p' && int_eq c' q') ≡ true
    there {a'} {p'} {c'} {q'} h = and_from (int_eq a' p') (int_eq c' q') (same_int a' p' h.0) (same_int c' q' h.1)

stay : Axis (λ i. i) (λ i. i) (λ p. p) (pos 0)
unfolding Axis
stay i p q = axis i i p q (p +ℤ pos 0) i p (λ h. (omega (arith, ints, h.0, h.1), h.0)) (λ h. (h.1, omega (arith, ints, h.0, h.1)))

on : Axis (λ i. i) (λ i. i +ℤ pos 1) (λ p. p) (pos 1)
unfolding Axis
on i p q = axis i (i +ℤ pos 1) p q (p +ℤ pos 1) i p (λ h. (omega (arith, ints, h.0, h.1), h.0)) (λ h. (h.1, omega (arith, ints, h.0, h.1)))

far : Axis (λ i. i +ℤ pos 1) (λ i. i +ℤ pos 1) (λ p. p -ℤ pos 1) (pos 0)
unfolding Axis
far i p q = axis (i +ℤ pos 1) (i +ℤ pos 1) p q (p +ℤ pos 0) i (p -ℤ pos 1) (λ h. (omega (arith, ints, h.0, h.1), omega (arith, ints, h.0))) (λ h. (omega (arith, ints, h.1), omega (arith, ints, h.0, h.1)))

back : Axis (λ i. i +ℤ pos 1) (λ i. i) (λ p. p -ℤ pos 1) (negsuc 0)
unfolding Axis
back i p q = axis (i +ℤ pos 1) i p q (p +ℤ negsuc 0) i (p -ℤ pos 1) (λ h. (omega (arith, ints, h.0, h.1), omega (arith, ints, h.0))) (λ h. (omega (arith, ints, h.1), omega (arith, ints, h.0, h.1)))

-- ---- one edge of each square
middle : (x y z w : Bool) → ((x && y) && (z && w)) ≡ ((x && z) && (y && w))
middle false y z w = refl
middle true true z w = refl
middle true false true w = refl
middle true false false w = refl

chosen : (s r : Bool) → one_if (s && r) ≡ cond s (one_if r) 0
chosen true r = refl
chosen false r = refl

edge_of_squares : (r : Region) (c d f : ℤ → ℤ) (dx : ℤ) (c' d' f' : ℤ → ℤ) (dz : ℤ) → Axis c d f dx → Axis c' d' f' dz → (p q : Spot) →
    sum_by (λ (cell : ℤ × ℤ). one_if (is_at p (c cell.0) (c' cell.1) && is_at q (d cell.0) (d' cell.1))) (cells r) ≡ by_step dx dz (λ x z. one_if (contains r (f x) (f' z))) p q
unfolding Axis
edge_of_squares r c d f dx c' d' f' dz across along Nowhere q = sum_none (cells r)
edge_of_squares r c d f dx c' d' f' dz across along (At x z) Nowhere =
    (λ t. sum_by (λ (cell : ℤ × ℤ). one_if (and_right (is_at (At x z) (c cell.0) (c' cell.1)) false refl t)) (cells r)) ∙ sum_none (cells r)
edge_of_squares r c d f dx c' d' f' dz across along (At x z) (At x' z') =
    pick_cell (λ cell. is_at (At x z) (c cell.0) (c' cell.1) && is_at (At x' z') (d cell.0) (d' cell.1)) (int_eq x' (x +ℤ dx) && int_eq z' (z +ℤ dz)) r (f x) (f' z)
    (λ i j. middle (int_eq (c i) x) (int_eq (c' j) z) (int_eq (d i) x') (int_eq (d' j) z') ∙ (λ t. across i x x' t && along j z z' t) ∙ middle (int_eq x' (x +ℤ dx)) (int_eq i (f x)) (int_eq z' (z +ℤ dz)) (int_eq j (f' z)))
    ∙ chosen (int_eq x' (x +ℤ dx) && int_eq z' (z +ℤ dz)) (contains r (f x) (f' z))

-- over the squares of some regions
gather : (rs : List Region) (dx dz : ℤ) (f f' : ℤ → ℤ) (p q : Spot) →
    sum_by (λ r. by_step dx dz (λ x z. one_if (contains r (f x) (f' z))) p q) rs ≡ by_step dx dz (λ x z. count_by (λ r. contains r (f x) (f' z)) rs) p q
gather rs dx dz f f' Nowhere q = sum_none rs
gather rs dx dz f f' (At x z) Nowhere = sum_none rs
gather rs dx dz f f' (At x z) (At x' z') = cases (int_eq x' (x +ℤ dx) && int_eq z' (z +ℤ dz))
  where
    cases : (s : Bool) → sum_by (λ r. cond s (one_if (contains r (f x) (f' z))) 0) rs ≡ cond s (count_by (λ r. contains r (f x) (f' z)) rs) 0
    cases true = refl
    cases false = sum_none rs

six : {A : Type 0} (f g h f' g' h' : A → ℕ) (xs : List A) →
    sum_by (λ x. (f x + g x + h x) + (f' x + g' x + h' x)) xs ≡ (sum_by f xs + sum_by g xs + sum_by h xs) + (sum_by f' xs + sum_by g' xs + sum_by h' xs)
six f g h f' g' h' xs =
    let whole = sum_add (λ x. f x + g x + h x) (λ x. f' x + g' x + h' x) xs in
    let first = sum_add (λ x. f x + g x) h xs in
    let first' = sum_add f g xs in
    let second = sum_add (λ x. f' x + g' x) h' xs in
    let second' = sum_add f' g' xs in
    omega (arith, whole, first, first', second, second')

module _ (vertices : List Vertex) (level a b : ℕ) (p q : Spot) (ma : Marks vertices level a p) (mb : Marks vertices level b q) where
  -- the edges of a square from a to b, by its north-west corner
  square_tally : (i j : ℤ) → sum_by (edges_of a b) (square_triangles vertices level i j)
      ≡ (one_if (is_at p i j && is_at q i (j +ℤ pos 1)) + one_if (is_at p i (j +ℤ pos 1) && is_at q (i +ℤ pos 1) (j +ℤ pos 1)) + one_if (is_at p (i +ℤ pos 1) (j +ℤ pos 1) && is_at q i j))
      + (one_if (is_at p i j && is_at q (i +ℤ pos 1) (j +ℤ pos 1)) + one_if (is_at p (i +ℤ pos 1) (j +ℤ pos 1) && is_at q (i +ℤ pos 1) j) + one_if (is_at p (i +ℤ pos 1) j && is_at q i j))
  unfolding square_triangles
  square_tally i j =
      let e = i +ℤ pos 1 in
      let s = j +ℤ pos 1 in
      let at = corner_place vertices level in
      plain (edges_of a b (at i j ∷ at i s ∷ at e s ∷ [])) (edges_of a b (at i j ∷ at e s ∷ at e j ∷ []))
      ∙ (λ t. (one_if (ma.at i j t && mb.at i s t) + one_if (ma.at i s t && mb.at e s t) + one_if (ma.at e s t && mb.at i j t))
      + (one_if (ma.at i j t && mb.at e s t) + one_if (ma.at e s t && mb.at e j t) + one_if (ma.at e j t && mb.at i j t)))
    where
      plain : (m n : ℕ) → 0 + m + n ≡ m + n
      plain m n = omega arith

  squares_tally : (r : Region) → sum_by (edges_of a b) (triangles_in vertices level r)
      ≡ (by_step (pos 0) (pos 1) (λ x z. one_if (contains r x z)) p q + by_step (pos 1) (pos 0) (λ x z. one_if (contains r x (z -ℤ pos 1))) p q + by_step (negsuc 0) (negsuc 0) (λ x z. one_if (contains r (x -ℤ pos 1) (z -ℤ pos 1))) p q)
      + (by_step (pos 1) (pos 1) (λ x z. one_if (contains r x z)) p q + by_step (pos 0) (negsuc 0) (λ x z. one_if (contains r (x -ℤ pos 1) (z -ℤ pos 1))) p q + by_step (negsuc 0) (pos 0) (λ x z. one_if (contains r (x -ℤ pos 1) z)) p q)
  unfolding triangles_in
  squares_tally r =
      sum_flat_map (edges_of a b) (λ (cell : ℤ × ℤ). square_triangles vertices level cell.0 cell.1) (cells r)
      ∙ (λ t. sum_by (λ (cell : ℤ × ℤ). square_tally cell.0 cell.1 t) (cells r))
      ∙ six (λ (cell : ℤ × ℤ). one_if (is_at p cell.0 cell.1 && is_at q cell.0 (cell.1 +ℤ pos 1)))
      (λ (cell : ℤ × ℤ). one_if (is_at p cell.0 (cell.1 +ℤ pos 1) && is_at q (cell.0 +ℤ pos 1) (cell.1 +ℤ pos 1)))
      (λ (cell : ℤ × ℤ). one_if (is_at p (cell.0 +ℤ pos 1) (cell.1 +ℤ pos 1) && is_at q cell.0 cell.1))
      (λ (cell : ℤ × ℤ). one_if (is_at p cell.0 cell.1 && is_at q (cell.0 +ℤ pos 1) (cell.1 +ℤ pos 1)))
      (λ (cell : ℤ × ℤ). one_if (is_at p (cell.0 +ℤ pos 1) (cell.1 +ℤ pos 1) && is_at q (cell.0 +ℤ pos 1) cell.1))
      (λ (cell : ℤ × ℤ). one_if (is_at p (cell.0 +ℤ pos 1) cell.1 && is_at q cell.0 cell.1)) (cells r)
      ∙ (λ t.
      (edge_of_squares r (λ i. i) (λ i. i) (λ x. x) (pos 0) (λ j. j) (λ j. j +ℤ pos 1) (λ z. z) (pos 1) stay on p q t
      + edge_of_squares r (λ i. i) (λ i. i +ℤ pos 1) (λ x. x) (pos 1) (λ j. j +ℤ pos 1) (λ j. j +ℤ pos 1) (λ z. z -ℤ pos 1) (pos 0) on far p q t
      + edge_of_squares r (λ i. i +ℤ pos 1) (λ i. i) (λ x. x -ℤ pos 1) (negsuc 0) (λ j. j +ℤ pos 1) (λ j. j) (λ z. z -ℤ pos 1) (negsuc 0) back back p q t)
      + (edge_of_squares r (λ i. i) (λ i. i +ℤ pos 1) (λ x. x) (pos 1) (λ j. j) (λ j. j +ℤ pos 1) (λ z. z) (pos 1) on on p q t
      + edge_of_squares r (λ i. i +ℤ pos 1) (λ i. i +ℤ pos 1) (λ x. x -ℤ pos 1) (pos 0) (λ j. j +ℤ pos 1) (λ j. j) (λ z. z -ℤ pos 1) (negsuc 0) far back p q t
      + edge_of_squares r (λ i. i +ℤ pos 1) (λ i. i) (λ x. x -ℤ pos 1) (negsuc 0) (λ j. j) (λ j. j) (λ z. z) (pos 0) back stay p q t))

  pub ring_tally : PartSquares → (finer active : Region) → sum_by (edges_of a b) (flat_map (λ (part : PartTriangles). part.triangles) (square_parts vertices level finer active)) ≡ ring_edges finer active p q
  unfolding ring_edges squares_at
  ring_tally parts finer active =
      let rs = part_squares finer active in
      sum_flat_map (edges_of a b) (λ (part : PartTriangles). part.triangles) (square_parts vertices level finer active)
      ∙ sym (sum_map (sum_by (edges_of a b)) (λ (part : PartTriangles). part.triangles) (square_parts vertices level finer active))
      ∙ ap (sum_by (sum_by (edges_of a b))) (parts vertices level finer active)
      ∙ sum_map (sum_by (edges_of a b)) (triangles_in vertices level) rs
      ∙ (λ t. sum_by (λ r. squares_tally r t) rs)
      ∙ six (λ (r : Region). by_step (pos 0) (pos 1) (λ x z. one_if (contains r x z)) p q)
      (λ (r : Region). by_step (pos 1) (pos 0) (λ x z. one_if (contains r x (z -ℤ pos 1))) p q)
      (λ (r : Region). by_step (negsuc 0) (negsuc 0) (λ x z. one_if (contains r (x -ℤ pos 1) (z -ℤ pos 1))) p q)
      (λ (r : Region). by_step (pos 1) (pos 1) (λ x z. one_if (contains r x z)) p q)
      (λ (r : Region). by_step (pos 0) (negsuc 0) (λ x z. one_if (contains r (x -ℤ pos 1) (z -ℤ pos 1))) p q)
      (λ (r : Region). by_step (negsuc 0) (pos 0) (λ x z. one_if (contains r (x -ℤ pos 1) z)) p q) rs
      ∙ (λ t.
      (gather rs (pos 0) (pos 1) (λ x. x) (λ z. z) p q t + gather rs (pos 1) (pos 0) (λ x. x) (λ z. z -ℤ pos 1) p q t + gather rs (negsuc 0) (negsuc 0) (λ x. x -ℤ pos 1) (λ z. z -ℤ pos 1) p q t)
      + (gather rs (pos 1) (pos 1) (λ x. x) (λ z. z) p q t + gather rs (pos 0) (negsuc 0) (λ x. x -ℤ pos 1) (λ z. z -ℤ pos 1) p q t + gather rs (negsuc 0) (pos 0) (λ x. x -ℤ pos 1) (λ z. z) p q t))
