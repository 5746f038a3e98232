-- How often an edge stands among the numbers of all edges.
use Rattle.std.proofs.Common.{◌≡◌, ◌⊎◌, inl, inr, ℕ, suc, ◌+◌, ◌*◌, ◌/◌, ◌%◌, ◌^◌, ◌<◌, ◌≤◌, Bool, true, false, cond, ◌&&◌, ◌||◌, nat_eq, nat_lt, List, [], ◌∷◌, ◌++◌, length, drop, get_or, add-one, drop-cons, refl, sym, ap, ◌∙◌, arith}
use Rattle.std.specs.List.{count_by, flat_map}
use Rattle.std.proofs.lemmas.List.{drop_all}
use Rattle.std.specs.List.Sorted.{IsPermutation}
use Rattle.std.proofs.lemmas.Bool.Decides.{nat_tests, Decides-eqb}
use Rattle.std.proofs.lemmas.Bool.{and_parts, and_from, cases_lt}
use Rattle.clip_regions.specs.declared.region.Region.{Region}
use Rattle.mesh_model.specs.declared.shapes.Vertex.{Vertex}
use Rattle.mesh_model.specs.Watertight.{has_edge, edge_count, is_closed}
use Rattle.mesh_check.specs.Keys.{AreSmall, pair_key, edge_key, triangle_keys, edge_keys, is_closed_pair, on_side}
use Rattle.mesh_check.proofs.Counts.{times, three_more, count_cons, times_permutation}

-- two tests are equal where each follows from the other
same_test : (a b : Bool) → (a ≡ true → b ≡ true) → (b ≡ true → a ≡ true) → a ≡ b
same_test true b f g = sym (f refl)
same_test false true f g = g refl
same_test false false f g = refl

eq_true : (x y : ℕ) → nat_eq x y ≡ true → x ≡ y
eq_true x y is = (Decides-eqb x y).0 is

true_eq : (x y : ℕ) → x ≡ y → nat_eq x y ≡ true
true_eq x y is = (Decides-eqb x y).1 is

-- the number of an edge, by which of its places is the lesser
pub key_up : (p q : ℕ) → p < q → edge_key p q ≡ 2 * pair_key p q
unfolding edge_key
key_up p q h = let test : nat_lt p q ≡ true = grind (arith, nat_tests) in rw test refl

pub key_down : (p q : ℕ) → q ≤ p → edge_key p q ≡ 2 * pair_key q p + 1
unfolding edge_key
key_down p q h = let test : nat_lt p q ≡ false = grind (arith, nat_tests) in rw test refl

-- a pair's number tells its places
pair_first : (p q a b : ℕ) → q < 2 ^ 31 → b < 2 ^ 31 → pair_key p q ≡ pair_key a b → p ≡ a
pair_first p q a b few below is = omega arith

pair_second : (p q a b : ℕ) → q < 2 ^ 31 → b < 2 ^ 31 → pair_key p q ≡ pair_key a b → q ≡ b
pair_second p q a b few below is = omega arith

-- the number of an edge one way
there_true : (p q a b : ℕ) → p < 2 ^ 31 → q < 2 ^ 31 → b < 2 ^ 31 → edge_key p q ≡ 2 * pair_key a b → (p < q) ⊎ (q ≤ p) → (p ≡ a) × (q ≡ b)
there_true p q a b small few below is (inl up) =
    let key = key_up p q up in
    let same : pair_key p q ≡ pair_key a b = omega arith in
    (pair_first p q a b few below same, pair_second p q a b few below same)
there_true p q a b small few below is (inr down) = let key = key_down p q down in absurd (omega arith)

pub key_there : (p q a b : ℕ) → p < 2 ^ 31 → q < 2 ^ 31 → a < b → b < 2 ^ 31 → nat_eq (edge_key p q) (2 * pair_key a b) ≡ (nat_eq p a && nat_eq q b)
key_there p q a b small few rise below =
    same_test (nat_eq (edge_key p q) (2 * pair_key a b)) (nat_eq p a && nat_eq q b)
    (λ is. let both = there_true p q a b small few below (eq_true (edge_key p q) (2 * pair_key a b) is) (cases_lt p q) in
    and_from (nat_eq p a) (nat_eq q b) (true_eq p a both.0) (true_eq q b both.1))
    (λ is. let both = and_parts (nat_eq p a) (nat_eq q b) is in
    let first : p ≡ a = eq_true p a both.0 in
    let second : q ≡ b = eq_true q b both.1 in
    true_eq (edge_key p q) (2 * pair_key a b) (key_up p q (omega arith) ∙ ap (λ (n : ℕ). 2 * n) (ap (λ (p : ℕ). pair_key p q) first ∙ ap (pair_key a) second)))

-- and the other way
back_true : (p q a b : ℕ) → p < 2 ^ 31 → q < 2 ^ 31 → b < 2 ^ 31 → edge_key p q ≡ 2 * pair_key a b + 1 → (p < q) ⊎ (q ≤ p) → (p ≡ b) × (q ≡ a)
back_true p q a b small few below is (inl up) = let key = key_up p q up in absurd (omega arith)
back_true p q a b small few below is (inr down) =
    let key = key_down p q down in
    let same : pair_key q p ≡ pair_key a b = omega arith in
    (pair_second q p a b small below same, pair_first q p a b small below same)

pub key_back : (p q a b : ℕ) → p < 2 ^ 31 → q < 2 ^ 31 → a < b → b < 2 ^ 31 → nat_eq (edge_key p q) (2 * pair_key a b + 1) ≡ (nat_eq p b && nat_eq q a)
key_back p q a b small few rise below =
    same_test (nat_eq (edge_key p q) (2 * pair_key a b + 1)) (nat_eq p b && nat_eq q a)
    (λ is. let both = back_true p q a b small few below (eq_true (edge_key p q) (2 * pair_key a b + 1) is) (cases_lt p q) in
    and_from (nat_eq p b) (nat_eq q a) (true_eq p b both.0) (true_eq q a both.1))
    (λ is. let both = and_parts (nat_eq p b) (nat_eq q a) is in
    let first : p ≡ b = eq_true p b both.0 in
    let second : q ≡ a = eq_true q a both.1 in
    true_eq (edge_key p q) (2 * pair_key a b + 1) (key_down p q (omega arith) ∙ ap (λ (n : ℕ). 2 * n + 1) (ap (λ (q : ℕ). pair_key q p) second ∙ ap (pair_key a) first)))

-- of three tests at most one passes
one_of : (x y z : Bool) (n : ℕ) → (x ≡ true → y ≡ true → ⊥) → (y ≡ true → z ≡ true → ⊥) → (z ≡ true → x ≡ true → ⊥) →
    cond x 1 0 + (cond y 1 0 + (cond z 1 0 + n)) ≡ cond ((x || y) || z) 1 0 + n
one_of true true z n xy yz zx = absurd (xy refl refl)
one_of true false true n xy yz zx = absurd (zx refl refl)
one_of true false false n xy yz zx = omega arith
one_of false true true n xy yz zx = absurd (yz refl refl)
one_of false true false n xy yz zx = omega arith
one_of false false true n xy yz zx = omega arith
one_of false false false n xy yz zx = omega arith

-- two edges of a triangle, one behind the other, aren't the same one
behind_other : (p q r a b : ℕ) → (a ≡ b → ⊥) → (nat_eq p a && nat_eq q b) ≡ true → (nat_eq q a && nat_eq r b) ≡ true → ⊥
behind_other p q r a b apart first second =
    let x = and_parts (nat_eq p a) (nat_eq q b) first in
    let y = and_parts (nat_eq q a) (nat_eq r b) second in
    apart (sym (eq_true q a y.0) ∙ eq_true q b x.1)

pub edges_of_one : (p q r a b n : ℕ) → (a ≡ b → ⊥) →
    cond (nat_eq p a && nat_eq q b) 1 0 + (cond (nat_eq q a && nat_eq r b) 1 0 + (cond (nat_eq r a && nat_eq p b) 1 0 + n))
    ≡ cond (((nat_eq p a && nat_eq q b) || (nat_eq q a && nat_eq r b)) || (nat_eq r a && nat_eq p b)) 1 0 + n
edges_of_one p q r a b n apart =
    one_of (nat_eq p a && nat_eq q b) (nat_eq q a && nat_eq r b) (nat_eq r a && nat_eq p b) n
    (behind_other p q r a b apart) (behind_other q r p a b apart) (behind_other r p q a b apart)

-- one triangle more
there_more : (t : List ℕ) (ts : List (List ℕ)) (a b : ℕ) → a < b → b < 2 ^ 31 → AreSmall t → times (2 * pair_key a b) (flat_map triangle_keys ts) ≡ count_by (has_edge a b) ts →
    times (2 * pair_key a b) (flat_map triangle_keys (t ∷ ts)) ≡ count_by (has_edge a b) (t ∷ ts)
unfolding triangle_keys has_edge
there_more t ts a b rise below small more =
    let p = get_or t 0 0 in
    let q = get_or t 1 0 in
    let r = get_or t 2 0 in
    let pq = key_there p q a b small.first small.second rise below in
    let qr = key_there q r a b small.second small.third rise below in
    let rp = key_there r p a b small.third small.first rise below in
    three_more (2 * pair_key a b) (edge_key p q) (edge_key q r) (edge_key r p) (flat_map triangle_keys ts) _ _ _ _ pq qr rp more
    ∙ edges_of_one p q r a b (count_by (has_edge a b) ts) (λ same. omega arith) ∙ sym (count_cons (has_edge a b) t ts)

back_more : (t : List ℕ) (ts : List (List ℕ)) (a b : ℕ) → a < b → b < 2 ^ 31 → AreSmall t → times (2 * pair_key a b + 1) (flat_map triangle_keys ts) ≡ count_by (has_edge b a) ts →
    times (2 * pair_key a b + 1) (flat_map triangle_keys (t ∷ ts)) ≡ count_by (has_edge b a) (t ∷ ts)
unfolding triangle_keys has_edge
back_more t ts a b rise below small more =
    let p = get_or t 0 0 in
    let q = get_or t 1 0 in
    let r = get_or t 2 0 in
    let pq = key_back p q a b small.first small.second rise below in
    let qr = key_back q r a b small.second small.third rise below in
    let rp = key_back r p a b small.third small.first rise below in
    three_more (2 * pair_key a b + 1) (edge_key p q) (edge_key q r) (edge_key r p) (flat_map triangle_keys ts) _ _ _ _ pq qr rp more
    ∙ edges_of_one p q r b a (count_by (has_edge b a) ts) (λ same. omega arith) ∙ sym (count_cons (has_edge b a) t ts)

-- how often an edge goes up among the edges of triangles
pub times_there : (triangles : List (List ℕ)) (a b : ℕ) → a < b → b < 2 ^ 31 → ((k : ℕ) → k < length triangles → AreSmall (get_or triangles k [])) →
    times (2 * pair_key a b) (edge_keys triangles) ≡ edge_count triangles a b
unfolding edge_keys edge_count
times_there [] a b rise below small = refl
times_there (t ∷ ts) a b rise below small = there_more t ts a b rise below (small 0 (omega arith)) (times_there ts a b rise below (λ k h. small (suc k) (omega arith)))

pub times_back : (triangles : List (List ℕ)) (a b : ℕ) → a < b → b < 2 ^ 31 → ((k : ℕ) → k < length triangles → AreSmall (get_or triangles k [])) →
    times (2 * pair_key a b + 1) (edge_keys triangles) ≡ edge_count triangles b a
unfolding edge_keys edge_count
times_back [] a b rise below small = refl
times_back (t ∷ ts) a b rise below small = back_more t ts a b rise below (small 0 (omega arith)) (times_back ts a b rise below (λ k h. small (suc k) (omega arith)))

-- a pair's number taken apart
pub pair_high : (a b : ℕ) → b < 2 ^ 31 → pair_key a b / 2 ^ 32 ≡ a
pair_high a b below = omega arith

pub pair_low : (a b : ℕ) → b < 2 ^ 31 → pair_key a b % 2 ^ 32 ≡ b
pair_low a b below = omega arith

pub pair_again : (pair : ℕ) → pair_key (pair / 2 ^ 32) (pair % 2 ^ 32) ≡ pair
pair_again pair = omega arith

-- the edges of a pair among sorted numbers close where the definition says so
pub closed_is : (border : Region) (vertices : List Vertex) (triangles : List (List ℕ)) (keys : List ℕ) (a b : ℕ) → a < b → b < 2 ^ 31 →
    ((k : ℕ) → k < length triangles → AreSmall (get_or triangles k [])) → IsPermutation (edge_keys triangles) keys →
    is_closed_pair border vertices keys (pair_key a b) ≡ is_closed border vertices triangles a b
unfolding is_closed_pair is_closed on_side
closed_is border vertices triangles keys a b rise below small sorted =
    let there : times (2 * pair_key a b) keys ≡ edge_count triangles a b =
    times_permutation (2 * pair_key a b) (edge_keys triangles) keys sorted ∙ times_there triangles a b rise below small in
    let back : times (2 * pair_key a b + 1) keys ≡ edge_count triangles b a =
    times_permutation (2 * pair_key a b + 1) (edge_keys triangles) keys sorted ∙ times_back triangles a b rise below small in
    let high = pair_high a b below in
    let low = pair_low a b below in
    rw (there, back, high, low) refl

-- the edges of one triangle more
pub edges_more : (triangles : List (List ℕ)) (i : ℕ) (d : List ℕ) → i < length triangles → edge_keys (drop i triangles) ≡ triangle_keys (get_or triangles i d) ++ edge_keys (drop (i + 1) triangles)
unfolding edge_keys
edges_more triangles i d within = rw (add-one, drop-cons triangles i d) refl

pub edges_counted : (triangles : List (List ℕ)) → length (edge_keys triangles) ≡ 3 * length triangles
unfolding edge_keys triangle_keys
edges_counted [] = refl
edges_counted (t ∷ ts) = let more = edges_counted ts in omega (arith, more)

pub no_more_edges : (triangles : List (List ℕ)) (i : ℕ) → length triangles ≤ i → edge_keys (drop i triangles) ≡ []
unfolding edge_keys
no_more_edges triangles i all = ap (flat_map triangle_keys) (drop_all i triangles all)
