-- The place of a vertex in rows of vertices.
use Rattle.std.proofs.Common.{◌≡◌, ◌≢◌, ℕ, suc, zero, Bool, subst, ◌+◌, ◌*◌, ◌<◌, ◌≤◌, true, false, List, ◌∷◌, ◌++◌, ℤ, pos, ◌+ℤ◌, map, refl, ap, sym, ◌∙◌, arith, ◌⊎◌, inl, inr}
use Rattle.std.specs.Ordering.{int_eq}
use Rattle.std.specs.List.{flat_map, range_with_len}
use Rattle.std.proofs.lemmas.Bool.Decides.{Decides-int_eq}
use Rattle.std.proofs.lemmas.Bool.{cases_eq}
use Rattle.std.proofs.lemmas.Int.{ints}
use Rattle.mesh_model.specs.declared.shapes.Vertex.{Vertex}
use Rattle.mesh_model.specs.Vertices.{place_of}

same_int : (x y : ℤ) → x ≡ y → int_eq x y ≡ true
same_int x y e = (Decides-int_eq x y).1 e

other_int : (x y : ℤ) → x ≢ y → int_eq x y ≡ false
other_int x y n = cases (int_eq x y) refl
  where
    cases : (b : Bool) → int_eq x y ≡ b → b ≡ false
    cases true e = absurd (n ((Decides-int_eq x y).0 e))
    cases false e = refl

pub hit : (vertex : Vertex) (vertices : List Vertex) (x z : ℤ) → vertex.x ≡ x → vertex.z ≡ z → place_of (vertex ∷ vertices) x z ≡ 0
hit vertex vertices x z ex ez = rw (same_int vertex.x x ex, same_int vertex.z z ez) refl

miss_row : (vertex : Vertex) (vertices : List Vertex) (x z : ℤ) → vertex.z ≢ z → place_of (vertex ∷ vertices) x z ≡ place_of vertices x z + 1
miss_row vertex vertices x z n = cases (int_eq vertex.x x) refl
  where
    cases : (b : Bool) → int_eq vertex.x x ≡ b → place_of (vertex ∷ vertices) x z ≡ place_of vertices x z + 1
    cases true e = rw (e, other_int vertex.z z n) refl
    cases false e = rw e refl

miss_column : (vertex : Vertex) (vertices : List Vertex) (x z : ℤ) → vertex.x ≢ x → place_of (vertex ∷ vertices) x z ≡ place_of vertices x z + 1
miss_column vertex vertices x z n = rw (other_int vertex.x x n) refl

-- rows of vertices, the one in column u and row v at (a + u, b + v)
pub record AreRows (f : ℕ → ℕ → Vertex) (a b : ℤ) : Type 0 where
  pub column : (v u : ℕ) → (f v u).x ≡ a +ℤ pos u
  pub row : (v u : ℕ) → (f v u).z ≡ b +ℤ pos v

other_offset : (a x y : ℤ) (s t : ℕ) → x ≡ a +ℤ pos s → y ≡ a +ℤ pos t → s ≢ t → x ≢ y
other_offset a x y s t ex ey n e = n (omega (arith, ints))

-- a whole other row is passed over
row_skipped : (f : ℕ → ℕ → Vertex) (a b x : ℤ) → AreRows f a b → (v t : ℕ) → v ≢ t → (s n : ℕ) (rest : List Vertex) →
    place_of (map (f v) (range_with_len s n) ++ rest) x (b +ℤ pos t) ≡ n + place_of rest x (b +ℤ pos t)
row_skipped f a b x are v t other s zero rest = omega arith
row_skipped f a b x are v t other s (suc n) rest =
    let apart = other_offset b (f v s).z (b +ℤ pos t) v t (are.row v s) refl other in
    let here = miss_row (f v s) (map (f v) (range_with_len (s + 1) n) ++ rest) x (b +ℤ pos t) apart in
    let later = row_skipped f a b x are v t other (s + 1) n rest in
    omega (arith, here, later)

-- the place of a vertex in its row
row_found : (f : ℕ → ℕ → Vertex) (a b : ℤ) → AreRows f a b → (v t s n : ℕ) (rest : List Vertex) → s ≤ t → t < s + n →
    place_of (map (f v) (range_with_len s n) ++ rest) (a +ℤ pos t) (b +ℤ pos v) + s ≡ t
row_found f a b are v t s zero rest low high = absurd (omega arith)
row_found f a b are v t s (suc n) rest low high =
    cases (cases_eq s t) (λ other. row_found f a b are v t (s + 1) n rest (omega arith) (omega arith))
  where
    later : List Vertex
    later = map (f v) (range_with_len (s + 1) n) ++ rest

    cases : (s ≡ t) ⊎ (s ≢ t) → (s ≢ t → place_of later (a +ℤ pos t) (b +ℤ pos v) + (s + 1) ≡ t) →
        place_of (f v s ∷ later) (a +ℤ pos t) (b +ℤ pos v) + s ≡ t
    cases (inl e) next =
        let here = hit (f v s) later (a +ℤ pos t) (b +ℤ pos v) (are.column v s ∙ ap (λ k. a +ℤ pos k) e) (are.row v s) in
        omega (arith, here)
    cases (inr other) next =
        let apart = other_offset a (f v s).x (a +ℤ pos t) s t (are.column v s) refl other in
        let here = miss_column (f v s) later (a +ℤ pos t) (b +ℤ pos v) apart in
        let found = next other in
        omega (arith, here, found)

-- the place of a vertex in its rows
pub place_in_rows : (f : ℕ → ℕ → Vertex) (a b : ℤ) → AreRows f a b → (m u v s n : ℕ) → u < m → s ≤ v → v < s + n →
    place_of (flat_map (λ w. map (f w) (range_with_len 0 m)) (range_with_len s n)) (a +ℤ pos u) (b +ℤ pos v) + s * m ≡ v * m + u
place_in_rows f a b are m u v s zero narrow low high = absurd (omega arith)
place_in_rows f a b are m u v s (suc n) narrow low high =
    cases (cases_eq s v) (λ other. place_in_rows f a b are m u v (s + 1) n narrow (omega arith) (omega arith))
  where
    rest : List Vertex
    rest = flat_map (λ w. map (f w) (range_with_len 0 m)) (range_with_len (s + 1) n)

    cases : (s ≡ v) ⊎ (s ≢ v) → (s ≢ v → place_of rest (a +ℤ pos u) (b +ℤ pos v) + (s + 1) * m ≡ v * m + u) →
        place_of (map (f s) (range_with_len 0 m) ++ rest) (a +ℤ pos u) (b +ℤ pos v) + s * m ≡ v * m + u
    cases (inl e) next =
        let found = row_found f a b are v u 0 m rest (omega arith) (omega arith) in
        subst (λ w. place_of (map (f w) (range_with_len 0 m) ++ rest) (a +ℤ pos u) (b +ℤ pos v) + w * m ≡ v * m + u) (sym e) (omega (arith, found))
    cases (inr other) next =
        let skipped = row_skipped f a b (a +ℤ pos u) are s v other 0 m rest in
        let found = next other in
        omega (arith, skipped, found)
