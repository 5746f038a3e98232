-- From the sorted edges to the verdict.
use Rattle.std.proofs.Common.{◌≡◌, ◌⊎◌, inl, inr, ℕ, ◌+◌, ◌*◌, ◌/◌, ◌%◌, ◌^◌, ◌<◌, ◌≤◌, suc, Bool, true, false, not, List, [], ◌∷◌, length, get_or, Some, None, Ok, refl, sym, ap, ◌∙◌, subst, arith, All, IsTrue}
use Rattle.std.specs.List.{flat_map}
use Rattle.std.specs.List.Sorted.{IsPermutation}
use Rattle.std.proofs.lemmas.Bool.{cases_lt}
use Rattle.std.proofs.lemmas.Bool.Decides.{nat_tests}
use Rattle.std.proofs.lemmas.List.Elements.{All-append, All-cons, All-nil}
use Rattle.std.proofs.lemmas.List.Sorted.{All-permutation}
use Rattle.mesh_model.specs.Watertight.{edge_count}
use Rattle.clip_regions.specs.declared.region.Region.{Region}
use Rattle.mesh_model.specs.declared.shapes.Vertex.{Vertex}
use Rattle.mesh_lists.specs.Says.{are_apart}
use Rattle.mesh_lists.specs.Lists.{Lists, AreLists, IsFace, lists_of_text}
use Rattle.mesh_check.specs.Keys.{AreSmall, pair_key, edge_key, triangle_keys, edge_keys, IsPairOf, IsEdgeOf, is_closed_pair}
use Rattle.mesh_check.specs.Verdict.{is_open, first_open, open_verdict, closed_verdict, verdict_of_lists, verdict, verdict_of, IsAnswer}
use Rattle.mesh_check.specs.declared.verdict.Verdict.{Verdict}
use Rattle.mesh_check.specs.declared.verdict.Verdict.TheVariants.{Crack}
use Rattle.mesh_check.proofs.Counts.{times, times_permutation}
use Rattle.mesh_check.proofs.EdgeCounts.{key_up, key_down, pair_high, pair_low, pair_again, closed_is, times_there, times_back}
use Rattle.mesh_check.proofs.Pairs.{none_passes, first_passes}

-- the places of a triangle are small
pub small_face : (count : ℕ) (triangle : List ℕ) → count ≤ 2 ^ 28 → IsFace count triangle → AreSmall triangle
small_face count triangle few face =
    let three = face.three in
    let a = face.below 0 0 (omega arith) in
    let b = face.below 1 0 (omega arith) in
    let c = face.below 2 0 (omega arith) in
    record { first = omega arith; second = omega arith; third = omega arith }

pub small_faces : (lists : Lists) → AreLists lists → All AreSmall lists.triangles
small_faces lists are = λ k d h. small_face (length lists.vertices) (get_or lists.triangles k d) are.few_vertices (are.faces k d h)

-- an edge's number tells two places
ends_of_pair : (count p q : ℕ) → p < q → q < count → count ≤ 2 ^ 28 → IsPairOf count (pair_key p q)
ends_of_pair count p q rise below few =
    let high = pair_high p q (omega arith) in
    let low = pair_low p q (omega arith) in
    record { rise = omega arith; below = omega arith }

ends_of_edge : (count p q : ℕ) → p < count → q < count → (p ≡ q → ⊥) → count ≤ 2 ^ 28 → (p < q) ⊎ (q ≤ p) → IsEdgeOf count (edge_key p q)
ends_of_edge count p q small below apart few (inl up) =
    let half : edge_key p q / 2 ≡ pair_key p q = let key = key_up p q up in omega arith in
    subst (IsPairOf count) (sym half) (ends_of_pair count p q up below few)
ends_of_edge count p q small below apart few (inr down) =
    let half : edge_key p q / 2 ≡ pair_key q p = let key = key_down p q down in omega arith in
    subst (IsPairOf count) (sym half) (ends_of_pair count q p (omega arith) small few)

apart_tells : (a b c : ℕ) → IsTrue (are_apart a b c) → (a ≡ b → ⊥) × (b ≡ c → ⊥) × (c ≡ a → ⊥)
unfolding are_apart
apart_tells a b c apart = ((λ same. grind (arith, nat_tests)), (λ same. grind (arith, nat_tests)), (λ same. grind (arith, nat_tests)))

ends_of_face : (count : ℕ) (triangle : List ℕ) → count ≤ 2 ^ 28 → IsFace count triangle → All (IsEdgeOf count) (triangle_keys triangle)
unfolding triangle_keys
ends_of_face count triangle few face =
    let P : ℕ → Type 0 = IsEdgeOf count in
    let p = get_or triangle 0 0 in
    let q = get_or triangle 1 0 in
    let r = get_or triangle 2 0 in
    let three = face.three in
    let a : p < count = face.below 0 0 (omega arith) in
    let b : q < count = face.below 1 0 (omega arith) in
    let c : r < count = face.below 2 0 (omega arith) in
    let apart = apart_tells p q r face.apart in
    All-cons P (edge_key p q) (edge_key q r ∷ edge_key r p ∷ []) (ends_of_edge count p q a b apart.0 few (cases_lt p q))
    (All-cons P (edge_key q r) (edge_key r p ∷ []) (ends_of_edge count q r b c apart.1 few (cases_lt q r))
    (All-cons P (edge_key r p) [] (ends_of_edge count r p c a apart.2 few (cases_lt r p)) (All-nil P)))

ends_of_faces : (count : ℕ) (triangles : List (List ℕ)) → count ≤ 2 ^ 28 → All (IsFace count) triangles → All (IsEdgeOf count) (flat_map triangle_keys triangles)
ends_of_faces count [] few faces = All-nil (IsEdgeOf count)
ends_of_faces count (t ∷ ts) few faces =
    All-append (IsEdgeOf count) (triangle_keys t) (flat_map triangle_keys ts) (ends_of_face count t few (faces 0 [] (omega arith)))
    (ends_of_faces count ts few (λ k d h. faces (suc k) d (omega arith)))

pub ends_of_keys : (lists : Lists) (keys : List ℕ) → AreLists lists → IsPermutation (edge_keys lists.triangles) keys → All (IsEdgeOf (length lists.vertices)) keys
unfolding edge_keys
ends_of_keys lists keys are sorted =
    All-permutation (IsEdgeOf (length lists.vertices)) (edge_keys lists.triangles) keys sorted (ends_of_faces (length lists.vertices) lists.triangles are.few_vertices are.faces)

-- a pair is open where its number's edges don't close
pub open_is : (lists : Lists) (keys : List ℕ) (a b : ℕ) → AreLists lists → IsPermutation (edge_keys lists.triangles) keys → a < b → b < length lists.vertices →
    is_open lists (a, b) ≡ not (is_closed_pair lists.border lists.vertices keys (pair_key a b))
open_is lists keys a b are sorted rise below =
    let few = are.few_vertices in
    ap not (sym (closed_is lists.border lists.vertices lists.triangles keys a b rise (omega arith) (λ k h. small_faces lists are k [] h) sorted))

not_open : (b : Bool) → IsTrue b → not b ≡ false
not_open true is = refl
not_open false is = cc

-- all edges close
pub all_closed : (lists : Lists) (keys : List ℕ) → AreLists lists → IsPermutation (edge_keys lists.triangles) keys →
    ((pair : ℕ) → IsTrue (is_closed_pair lists.border lists.vertices keys pair)) → verdict_of_lists lists ≡ closed_verdict lists
unfolding verdict_of_lists first_open open_verdict
all_closed lists keys are sorted closed =
    let none : first_open lists ≡ None = none_passes (is_open lists) (length lists.vertices) (λ a b rise below.
    open_is lists keys a b are sorted rise below ∙ not_open (is_closed_pair lists.border lists.vertices keys (pair_key a b)) (closed (pair_key a b))) in
    ap (open_verdict lists) none

-- a lesser pair has a lesser number
less_pair : (a b c d : ℕ) → b < 2 ^ 31 → d < 2 ^ 31 → (c < a) ⊎ ((c ≡ a) × (d < b)) → pair_key c d < pair_key a b
less_pair a b c d below under (inl h) = omega arith
less_pair a b c d below under (inr h) = let first = h.0 in let second = h.1 in omega arith

-- the first pair whose edges don't close
pub crack_is : (lists : Lists) (keys : List ℕ) (pair there back : ℕ) → AreLists lists → IsPermutation (edge_keys lists.triangles) keys → IsPairOf (length lists.vertices) pair →
    ((other : ℕ) → other < pair → IsTrue (is_closed_pair lists.border lists.vertices keys other)) → is_closed_pair lists.border lists.vertices keys pair ≡ false →
    there ≡ times (2 * pair) keys → back ≡ times (2 * pair + 1) keys →
    verdict_of_lists lists ≡ Crack (pair / 2 ^ 32 + 1) (pair % 2 ^ 32 + 1) (there + back)
unfolding verdict_of_lists first_open open_verdict
crack_is lists keys pair there back are sorted ends before opens first second =
    let a = pair / 2 ^ 32 in
    let b = pair % 2 ^ 32 in
    let few = are.few_vertices in
    let rise = ends.rise in
    let below = ends.below in
    let again : pair_key a b ≡ pair = pair_again pair in
    let small : (k : ℕ) → k < length lists.triangles → AreSmall (get_or lists.triangles k []) = λ k h. small_faces lists are k [] h in
    let pass : is_open lists (a, b) ≡ true =
    open_is lists keys a b are sorted rise below ∙ ap (λ (p : ℕ). not (is_closed_pair lists.border lists.vertices keys p)) again ∙ ap not opens in
    let found : first_open lists ≡ Some (a, b) = first_passes (is_open lists) (length lists.vertices) a b rise below pass (λ c d up under less.
    let lower : pair_key c d < pair = let h = less_pair a b c d (omega arith) (omega arith) less in omega arith in
    open_is lists keys c d are sorted up under ∙ not_open (is_closed_pair lists.border lists.vertices keys (pair_key c d)) (before (pair_key c d) lower)) in
    let up : there ≡ edge_count lists.triangles a b =
    first ∙ ap (λ (p : ℕ). times (2 * p) keys) (sym again) ∙ times_permutation (2 * pair_key a b) (edge_keys lists.triangles) keys sorted ∙ times_there lists.triangles a b rise (omega arith) small in
    let down : back ≡ edge_count lists.triangles b a =
    second ∙ ap (λ (p : ℕ). times (2 * p + 1) keys) (sym again) ∙ times_permutation (2 * pair_key a b + 1) (edge_keys lists.triangles) keys sorted ∙ times_back lists.triangles a b rise (omega arith) small in
    ap (open_verdict lists) found ∙ ap (Crack (a + 1) (b + 1)) (sym (ap (λ (n : ℕ). n + back) up ∙ ap (λ (n : ℕ). edge_count lists.triangles a b + n) down))

-- what the code has of lists: their parts, and their sorted edges
pub record Given (lists : Lists) (border : Region) (vertices : List Vertex) (triangles : List (List ℕ)) (keys lent : List ℕ) : Type 0 where
  pub are : AreLists lists
  pub border_is : border ≡ lists.border
  pub vertices_are : vertices ≡ lists.vertices
  pub triangles_are : triangles ≡ lists.triangles
  pub keys_are : lent ≡ keys
  pub sorted : IsPermutation (edge_keys triangles) keys

sorted_lists : (lists : Lists) (border : Region) (vertices : List Vertex) (triangles : List (List ℕ)) (keys lent : List ℕ) → Given lists border vertices triangles keys lent →
    IsPermutation (edge_keys lists.triangles) lent
sorted_lists lists border vertices triangles keys lent given =
    let P : List ℕ → Type 0 = λ keys. IsPermutation (edge_keys lists.triangles) keys in
    let Q : List (List ℕ) → Type 0 = λ triangles. IsPermutation (edge_keys triangles) keys in
    subst P (sym given.keys_are) (subst Q given.triangles_are given.sorted)

closed_same : (lists : Lists) (border : Region) (vertices : List Vertex) (triangles : List (List ℕ)) (keys lent : List ℕ) → Given lists border vertices triangles keys lent → (pair : ℕ) →
    is_closed_pair border vertices lent pair ≡ is_closed_pair lists.border lists.vertices lent pair
closed_same lists border vertices triangles keys lent given pair =
    ap (λ (b : Region). is_closed_pair b vertices lent pair) given.border_is ∙ ap (λ (v : List Vertex). is_closed_pair lists.border v lent pair) given.vertices_are

pub closed_by : (lists : Lists) (border : Region) (vertices : List Vertex) (triangles : List (List ℕ)) (keys lent : List ℕ) → Given lists border vertices triangles keys lent →
    ((pair : ℕ) → IsTrue (is_closed_pair border vertices lent pair)) → verdict_of_lists lists ≡ closed_verdict lists
closed_by lists border vertices triangles keys lent given closed =
    all_closed lists lent given.are (sorted_lists lists border vertices triangles keys lent given)
    (λ pair. subst (λ (b : Bool). IsTrue b) (closed_same lists border vertices triangles keys lent given pair) (closed pair))

pub crack_by : (lists : Lists) (border : Region) (vertices : List Vertex) (triangles : List (List ℕ)) (keys lent : List ℕ) (pair there back : ℕ) → Given lists border vertices triangles keys lent →
    IsPairOf (length vertices) pair → ((other : ℕ) → other < pair → IsTrue (is_closed_pair border vertices lent other)) → is_closed_pair border vertices lent pair ≡ false →
    there ≡ times (2 * pair) lent → back ≡ times (2 * pair + 1) lent →
    verdict_of_lists lists ≡ Crack (pair / 2 ^ 32 + 1) (pair % 2 ^ 32 + 1) (there + back)
crack_by lists border vertices triangles keys lent pair there back given ends before opens first second =
    let same = closed_same lists border vertices triangles keys lent given in
    let P : List Vertex → Type 0 = λ vertices. IsPairOf (length vertices) pair in
    crack_is lists lent pair there back given.are (sorted_lists lists border vertices triangles keys lent given) (subst P given.vertices_are ends)
    (λ other below. subst (λ (b : Bool). IsTrue b) (same other) (before other below)) (sym (same pair) ∙ opens) first second

pub ends_by : (lists : Lists) (border : Region) (vertices : List Vertex) (triangles : List (List ℕ)) (keys lent : List ℕ) → Given lists border vertices triangles keys lent →
    All (IsEdgeOf (length vertices)) lent
ends_by lists border vertices triangles keys lent given =
    let P : List Vertex → Type 0 = λ vertices. All (IsEdgeOf (length vertices)) lent in
    subst P (sym given.vertices_are) (ends_of_keys lists lent given.are (sorted_lists lists border vertices triangles keys lent given))

pub small_by : (lists : Lists) (triangles : List (List ℕ)) → AreLists lists → triangles ≡ lists.triangles → All AreSmall triangles
small_by lists triangles are is = subst (λ (triangles : List (List ℕ)). All AreSmall triangles) (sym is) (small_faces lists are)

-- the verdict of a text that has lists, and of one that has none
pub verdict_read : (text : List ℕ) (lists : Lists) (answer : Verdict) → lists_of_text text ≡ Ok lists → IsAnswer answer (verdict_of_lists lists) → IsAnswer answer (verdict text)
unfolding verdict
verdict_read text lists answer is told = subst (λ (v : Verdict). IsAnswer answer v) (sym (ap verdict_of is)) told

pub verdict_stopped : (text : List ℕ) (answer : Verdict) → IsAnswer answer (verdict_of (lists_of_text text)) → IsAnswer answer (verdict text)
unfolding verdict
verdict_stopped text answer told = told
