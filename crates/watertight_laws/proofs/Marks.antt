-- Where the place of a corner is that of a given vertex: exactly at the vertex's spot on the corner's level.
use Rattle.std.proofs.Common.{◌≡◌, ℕ, suc, ◌+◌, ◌^◌, ◌<◌, true, false, cond, ◌&&◌, ◌==◌, List, [], ◌∷◌, ℤ, pos, ◌*ℤ◌, length, refl, ap, sym, subst, ◌∙◌, inl, inr, arith}
use Rattle.std.specs.List.{AllPairs}
use Rattle.std.specs.Ordering.{int_eq}
use Rattle.std.proofs.lemmas.Int.{ints}
use Rattle.std.proofs.lemmas.Bool.{cases_Bool, and_parts, and_from, false_from_ne_true, false≢true, eqb-true, eq-eqb}
use Rattle.clip_regions.specs.FloorDivision.{floor_div, floor_rem}
use Rattle.mesh_model.specs.declared.shapes.Vertex.{Vertex}
use Rattle.mesh_model.specs.Vertices.{place_of, vertex_of_place}
use Rattle.mesh_model.specs.Parts.{corner_place}
use Rattle.mesh_model.specs.Nested.{StandApart}
use Rattle.mesh_model.specs.Laws.{OwnPlaces}
use Rattle.watertight_laws.specs.Edges.{Spot, Nowhere, At, is_at, coarser_spot}
use Rattle.watertight_laws.specs.Laws.{spot_of}
use Rattle.watertight_laws.proofs.Picks.{same_from, same_int}
use Rattle.mesh_model.proofs.Rectangles.{half_and_rest, rem_below}
use Rattle.mesh_model.proofs.Listed.{coarser_step}
use Rattle.clip_regions.proofs.Cells.{same_test}

-- the vertex at a found place stands at the position
stands : (vertices : List Vertex) (x z : ℤ) → place_of vertices x z < length vertices →
    ((vertex_of_place vertices (place_of vertices x z)).x ≡ x) × ((vertex_of_place vertices (place_of vertices x z)).z ≡ z)
stands [] x z low = absurd (omega (arith, low))
stands (vertex ∷ vertices) x z low =
    elim (cases_Bool (int_eq vertex.x x && int_eq vertex.z z)) [
      | inl e ↦ let both : (int_eq vertex.x x ≡ true) × (int_eq vertex.z z ≡ true) = and_parts (int_eq vertex.x x) (int_eq vertex.z z) e in
          subst (λ (n : ℕ). ((vertex_of_place (vertex ∷ vertices) n).x ≡ x) × ((vertex_of_place (vertex ∷ vertices) n).z ≡ z)) (sym (here e)) (same_from vertex.x x both.0, same_from vertex.z z both.1)
      | inr e ↦ let first : place_of (vertex ∷ vertices) x z ≡ suc (place_of vertices x z) = later e in
          let below : place_of vertices x z < length vertices = omega (arith, low, first) in
          subst (λ (n : ℕ). ((vertex_of_place (vertex ∷ vertices) n).x ≡ x) × ((vertex_of_place (vertex ∷ vertices) n).z ≡ z)) (sym first) (stands vertices x z below)
    ]
  where
    here : (int_eq vertex.x x && int_eq vertex.z z) ≡ true → place_of (vertex ∷ vertices) x z ≡ 0
    here e = ap (λ b. cond b 0 (place_of vertices x z + 1)) e

    later : (int_eq vertex.x x && int_eq vertex.z z) ≡ false → place_of (vertex ∷ vertices) x z ≡ suc (place_of vertices x z)
    later e = let one : place_of (vertex ∷ vertices) x z ≡ place_of vertices x z + 1 = ap (λ b. cond b 0 (place_of vertices x z + 1)) e in omega (arith, one)

marked : (vertices : List Vertex) (a : ℕ) → AllPairs StandApart vertices → OwnPlaces → a < length vertices → (x z : ℤ) →
    (place_of vertices x z == a) ≡ is_at (spot_of vertices a) x z
unfolding spot_of
marked vertices a apart own low x z =
    same_test (place_of vertices x z == a) (int_eq x (vertex_of_place vertices a).x && int_eq z (vertex_of_place vertices a).z) found there
  where
    found : (place_of vertices x z == a) ≡ true → (int_eq x (vertex_of_place vertices a).x && int_eq z (vertex_of_place vertices a).z) ≡ true
    found t =
        let e : place_of vertices x z ≡ a = eqb-true (place_of vertices x z) a t in
        let below : place_of vertices x z < length vertices = omega (arith, e, low) in
        let at : ((vertex_of_place vertices a).x ≡ x) × ((vertex_of_place vertices a).z ≡ z) =
        subst (λ (n : ℕ). ((vertex_of_place vertices n).x ≡ x) × ((vertex_of_place vertices n).z ≡ z)) e (stands vertices x z below) in
        and_from (int_eq x (vertex_of_place vertices a).x) (int_eq z (vertex_of_place vertices a).z) (same_int x (vertex_of_place vertices a).x (sym at.0)) (same_int z (vertex_of_place vertices a).z (sym at.1))

    there : (int_eq x (vertex_of_place vertices a).x && int_eq z (vertex_of_place vertices a).z) ≡ true → (place_of vertices x z == a) ≡ true
    there t =
        let both : (int_eq x (vertex_of_place vertices a).x ≡ true) × (int_eq z (vertex_of_place vertices a).z ≡ true) = and_parts (int_eq x (vertex_of_place vertices a).x) (int_eq z (vertex_of_place vertices a).z) t in
        let ex : x ≡ (vertex_of_place vertices a).x = same_from x (vertex_of_place vertices a).x both.0 in
        let ez : z ≡ (vertex_of_place vertices a).z = same_from z (vertex_of_place vertices a).z both.1 in
        let e : place_of vertices x z ≡ a = (λ t'. place_of vertices (ex t') (ez t')) ∙ own vertices apart a (record { x = pos 0; z = pos 0; height = pos 0 }) low in
        eq-eqb (place_of vertices x z) a e

-- a corner of a level has this place exactly where it is the spot
pub record Marks (vertices : List Vertex) (level a : ℕ) (p : Spot) : Type 0 where
  pub at : (i j : ℤ) → (corner_place vertices level i j == a) ≡ is_at p i j

pub marks_first : (vertices : List Vertex) (a : ℕ) → AllPairs StandApart vertices → OwnPlaces → a < length vertices → Marks vertices 0 a (spot_of vertices a)
unfolding corner_place
marks_first vertices a apart own low = record {
  at = λ i j.
      let ei : i *ℤ pos (2 ^ 0) ≡ i = omega (arith, ints) in
      let ej : j *ℤ pos (2 ^ 0) ≡ j = omega (arith, ints) in
      (λ t. place_of vertices (ei t) (ej t) == a) ∙ marked vertices a apart own low i j;
}

-- ---- one level coarser
pub finer_corner : (vertices : List Vertex) (level : ℕ) (i j : ℤ) → corner_place vertices (level + 1) i j ≡ corner_place vertices level (pos 2 *ℤ i) (pos 2 *ℤ j)
unfolding corner_place
finer_corner vertices level i j = λ t. place_of vertices (coarser_step i level t) (coarser_step j level t)

half_test : (x i : ℤ) → floor_rem x 2 ≡ 0 → int_eq (pos 2 *ℤ i) x ≡ int_eq i (floor_div x 2)
half_test x i even =
    let whole = half_and_rest x in
    same_test (int_eq (pos 2 *ℤ i) x) (int_eq i (floor_div x 2))
    (λ t. same_int i (floor_div x 2) (let e : pos 2 *ℤ i ≡ x = same_from (pos 2 *ℤ i) x t in omega (arith, ints, e, whole, even)))
    (λ t. same_int (pos 2 *ℤ i) x (let e : i ≡ floor_div x 2 = same_from i (floor_div x 2) t in omega (arith, ints, e, whole, even)))

even_if_twice : (x i : ℤ) → int_eq (pos 2 *ℤ i) x ≡ true → floor_rem x 2 ≡ 0
even_if_twice x i t =
    let e : pos 2 *ℤ i ≡ x = same_from (pos 2 *ℤ i) x t in
    let whole = half_and_rest x in
    let small = rem_below x in
    omega (arith, ints, e, whole, small)

pub coarser_is_at : (p : Spot) (i j : ℤ) → is_at p (pos 2 *ℤ i) (pos 2 *ℤ j) ≡ is_at (coarser_spot p) i j
coarser_is_at Nowhere i j = refl
coarser_is_at (At x z) i j =
    elim (cases_Bool (floor_rem x 2 == 0 && floor_rem z 2 == 0)) [
      | inl e ↦ let both : ((floor_rem x 2 == 0) ≡ true) × ((floor_rem z 2 == 0) ≡ true) = and_parts (floor_rem x 2 == 0) (floor_rem z 2 == 0) e in
          let ex = half_test x i (eqb-true (floor_rem x 2) 0 both.0) in
          let ez = half_test z j (eqb-true (floor_rem z 2) 0 both.1) in
          (λ t. ex t && ez t) ∙ sym (ap (λ b. is_at (cond b (At (floor_div x 2) (floor_div z 2)) Nowhere) i j) e)
      | inr e ↦ false_from_ne_true (int_eq (pos 2 *ℤ i) x && int_eq (pos 2 *ℤ j) z) (λ t. odd e t)
          ∙ sym (ap (λ b. is_at (cond b (At (floor_div x 2) (floor_div z 2)) Nowhere) i j) e)
    ]
  where
    odd : (floor_rem x 2 == 0 && floor_rem z 2 == 0) ≡ false → (int_eq (pos 2 *ℤ i) x && int_eq (pos 2 *ℤ j) z) ≡ true → ⊥
    odd e t =
        let both : (int_eq (pos 2 *ℤ i) x ≡ true) × (int_eq (pos 2 *ℤ j) z ≡ true) = and_parts (int_eq (pos 2 *ℤ i) x) (int_eq (pos 2 *ℤ j) z) t in
        false≢true (sym e ∙ and_from (floor_rem x 2 == 0) (floor_rem z 2 == 0) (eq-eqb (floor_rem x 2) 0 (even_if_twice x i both.0)) (eq-eqb (floor_rem z 2) 0 (even_if_twice z j both.1)))

pub marks_next : (vertices : List Vertex) (level a : ℕ) (p : Spot) → Marks vertices level a p → Marks vertices (level + 1) a (coarser_spot p)
marks_next vertices level a p marks = record {
  at = λ i j. ap (λ n. n == a) (finer_corner vertices level i j) ∙ marks.at (pos 2 *ℤ i) (pos 2 *ℤ j) ∙ coarser_is_at p i j;
}
