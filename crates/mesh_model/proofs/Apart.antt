-- No two vertices of nested regions stand at one position: not in one level, and not in two, since a position of a finer region lies in the hole of the coarser ones.
use Rattle.std.proofs.Common.{◌≡◌, ℕ, zero, suc, ◌+◌, ◌-◌, ◌*◌, ◌/◌, ◌^◌, ◌<◌, ◌≤◌, Bool, true, false, not, List, [], ◌∷◌, ◌++◌, ℤ, pos, ◌+ℤ◌, ◌*ℤ◌, ◌<ℤ◌, length, get_or, map, refl, ap, sym, subst, ◌∙◌, arith}
use Rattle.std.specs.List.{All, AllPairs, flat_map, range_with_len}
use Rattle.std.specs.Ordering.{int_eq}
use Rattle.std.proofs.lemmas.Int.{ints}
use Rattle.std.proofs.lemmas.Nat.{pow-add}
use Rattle.std.proofs.lemmas.Bool.{not-true, true≢false}
use Rattle.std.proofs.lemmas.Bool.Decides.{Decides-int_eq}
use Rattle.std.proofs.lemmas.List.Elements.{All-nil, All-head, All-tail, All-append, All-weaker, All-map, All-filter}
use Rattle.std.proofs.lemmas.List.Kept.{AllPairs-cons, AllPairs-filter}
use Rattle.std.proofs.lemmas.List.FromFn.{length-range_with_len, get_or-range_with_len}
use Rattle.std.proofs.Math.Nat.{mul-div_cancel}
use Rattle.std.proofs.Math.Pow.{pow_mono}
use borrow.Author.Differences.{up, down}
use Rattle.clip_regions.specs.declared.region.Region.{Region}
use Rattle.clip_regions.specs.Regions.{contains, empty_region, columns, rows, cells, numbers_from}
use Rattle.plan_model.specs.Laws.{AreNested}
use Rattle.terrain_model.specs.Terrain.{Terrain}
use Rattle.mesh_model.specs.declared.shapes.Vertex.{Vertex}
use Rattle.mesh_model.specs.Vertices.{LevelCell, hole, cells_outside, listed_from, listed_vertices, vertex_at, mesh_vertices, place_of}
use Rattle.mesh_model.specs.Nested.{StandApart}
use Rattle.mesh_model.proofs.Places.{hit}
use Rattle.mesh_model.proofs.Rectangles.{IsInner, hole_within, into_hole}
use Rattle.mesh_model.proofs.Cells.{all_flat_map, all_kept, all_cells}
use Rattle.mesh_model.proofs.Listed.{coarser_step}
use Rattle.clip_regions.proofs.Cells.{Lies, lying, cell_in, Within}

-- ---- pairs of a list
pairs_nil : {A : Type 0} (R : A → A → Type 0) → AllPairs R []
pairs_nil R i j d before low = absurd (omega arith)

pairs_head : {A : Type 0} (R : A → A → Type 0) (x : A) (xs : List A) → AllPairs R (x ∷ xs) → All (R x) xs
pairs_head R x xs h k d low = h zero (suc k) d (omega arith) (omega arith)

pairs_tail : {A : Type 0} (R : A → A → Type 0) (x : A) (xs : List A) → AllPairs R (x ∷ xs) → AllPairs R xs
pairs_tail R x xs h i j d before low = h (suc i) (suc j) d (omega arith) (omega arith)

pairs_weaker : {A : Type 0} (R S : A → A → Type 0) → ((x y : A) → R x y → S x y) → (xs : List A) → AllPairs R xs → AllPairs S xs
pairs_weaker R S weaken xs h i j d before low = weaken (get_or xs i d) (get_or xs j d) (h i j d before low)

pairs_map : {A B : Type 0} (R : B → B → Type 0) (f : A → B) (xs : List A) → AllPairs (λ x y. R (f x) (f y)) xs → AllPairs R (map f xs)
pairs_map R f [] h = pairs_nil R
pairs_map R f (x ∷ xs) h =
    AllPairs-cons R (f x) (map f xs) (All-map (R (f x)) f xs (pairs_head (λ y z. R (f y) (f z)) x xs h)) (pairs_map R f xs (pairs_tail (λ y z. R (f y) (f z)) x xs h))

pairs_append : {A : Type 0} (R : A → A → Type 0) (xs ys : List A) → AllPairs R xs → AllPairs R ys → All (λ x. All (R x) ys) xs → AllPairs R (xs ++ ys)
pairs_append R [] ys hx hy cross = hy
pairs_append R (x ∷ xs) ys hx hy cross =
    AllPairs-cons R x (xs ++ ys) (All-append (R x) xs ys (pairs_head R x xs hx) (All-head (λ z. All (R z) ys) x xs cross))
    (pairs_append R xs ys (pairs_tail R x xs hx) hy (All-tail (λ z. All (R z) ys) x xs cross))

pairs_flat_map : {A B : Type 0} (R : B → B → Type 0) (f : A → List B) (xs : List A) → All (λ x. AllPairs R (f x)) xs → AllPairs (λ x y. All (λ b. All (R b) (f y)) (f x)) xs → AllPairs R (flat_map f xs)
pairs_flat_map R f [] own cross = pairs_nil R
pairs_flat_map R f (x ∷ xs) own cross =
    pairs_append R (f x) (flat_map f xs) (All-head (λ y. AllPairs R (f y)) x xs own)
    (pairs_flat_map R f xs (All-tail (λ y. AllPairs R (f y)) x xs own) (pairs_tail (λ y z. All (λ b. All (R b) (f z)) (f y)) x xs cross))
    (λ k d low. all_flat_map (R (get_or (f x) k d)) f xs (λ k' d' low'. pairs_head (λ y z. All (λ b. All (R b) (f z)) (f y)) x xs cross k' d' low' k d low))

-- ---- cells
pairs_range : (s n : ℕ) → AllPairs (λ u v. u < v) (range_with_len s n)
pairs_range s n i j d before low =
    let below : j < n = omega (arith, length-range_with_len s n) in
    let first = get_or-range_with_len s n i d (omega arith) in
    let second = get_or-range_with_len s n j d below in
    omega (arith, first, second)

pairs_numbers : (a : ℤ) (n : ℕ) → AllPairs (λ i i'. i <ℤ i') (numbers_from a n)
pairs_numbers a n =
    pairs_map (λ i i'. i <ℤ i') (λ u. a +ℤ pos u) (range_with_len 0 n)
    (pairs_weaker (λ u v. u < v) (λ u v. (a +ℤ pos u) <ℤ (a +ℤ pos v)) (λ u v h. later u v h) (range_with_len 0 n) (pairs_range 0 n))
  where
    later : (u v : ℕ) → u < v → (a +ℤ pos u) <ℤ (a +ℤ pos v)
    later u v h = omega (arith, ints)

-- the two cells are not one
abbrev Differ : ℤ × ℤ → ℤ × ℤ → Type 0
Differ c c' = c.0 ≡ c'.0 → c.1 ≡ c'.1 → ⊥

below_differs : (i i' : ℤ) → i <ℤ i' → i ≡ i' → ⊥
below_differs i i' h e = omega (arith, ints)

pairs_cells : (r : Region) → AllPairs Differ (cells r)
pairs_cells r =
    pairs_flat_map Differ row (numbers_from r.y0 (rows r)) (λ k d low. own (get_or (numbers_from r.y0 (rows r)) k d))
    (pairs_weaker (λ j j'. j <ℤ j') (λ j j'. All (λ c. All (Differ c) (row j')) (row j)) other (numbers_from r.y0 (rows r)) (pairs_numbers r.y0 (rows r)))
  where
    row : ℤ → List (ℤ × ℤ)
    row j = map (λ i. (i, j)) (numbers_from r.x0 (columns r))

    own : (j : ℤ) → AllPairs Differ (row j)
    own j =
        pairs_map Differ (λ i. (i, j)) (numbers_from r.x0 (columns r))
        (pairs_weaker (λ i i'. i <ℤ i') (λ i i'. Differ (i, j) (i', j)) (λ i i' h e _. below_differs i i' h e) (numbers_from r.x0 (columns r)) (pairs_numbers r.x0 (columns r)))

    other : (j j' : ℤ) → j <ℤ j' → All (λ c. All (Differ c) (row j')) (row j)
    other j j' h =
        All-map (λ c. All (Differ c) (row j')) (λ i. (i, j)) (numbers_from r.x0 (columns r)) (λ k d low.
        All-map (Differ (get_or (numbers_from r.x0 (columns r)) k d, j)) (λ i. (i, j')) (numbers_from r.x0 (columns r)) (λ k' d' low' _ e. below_differs j j' h e))

-- ---- positions
some_power : (n : ℕ) → 0 < 2 ^ n
some_power n = pow_mono {i = 0} {j = n} (omega arith)

-- numbers of steps of one length are equal if they reach one place
cancel : (i i' : ℤ) (p : ℕ) → 0 < p → i *ℤ pos p ≡ i' *ℤ pos p → i ≡ i'
cancel i i' p some e =
    let scaled : (up i + down i') * p ≡ (up i' + down i) * p = omega (arith, ints) in
    let same : up i + down i' ≡ up i' + down i = sym (mul-div_cancel (up i + down i') some) ∙ ap (λ n. n / p) scaled ∙ mul-div_cancel (up i' + down i) some in
    omega (arith, ints, same)

-- steps of a coarser level as steps of a finer one
finer_steps : (i : ℤ) (level m : ℕ) → i *ℤ pos (2 ^ (level + m)) ≡ (i *ℤ pos (2 ^ m)) *ℤ pos (2 ^ level)
finer_steps i level m = ap (λ n. i *ℤ pos n) (pow-add 2 level m) ∙ regroup i (2 ^ level) (2 ^ m)
  where
    regroup : (a : ℤ) (p q : ℕ) → a *ℤ pos (p * q) ≡ (a *ℤ pos q) *ℤ pos p
    regroup a p q =
        let product : up (a *ℤ pos q) + down a * q ≡ down (a *ℤ pos q) + up a * q = omega (arith, ints) in
        let scaled : (up (a *ℤ pos q) + down a * q) * p ≡ (down (a *ℤ pos q) + up a * q) * p = ap (λ n. n * p) product in
        omega (arith, ints, scaled)

-- the cells of two levels do not stand at one position
abbrev Apart : LevelCell → LevelCell → Type 0
Apart c c' = c.i *ℤ pos (2 ^ c.level) ≡ c'.i *ℤ pos (2 ^ c'.level) → c.j *ℤ pos (2 ^ c.level) ≡ c'.j *ℤ pos (2 ^ c'.level) → ⊥

-- no cell of a region of this level stands where the cell does
IsClear : ℕ → Region → LevelCell → Type 0
IsClear level active c =
    (i j : ℤ) → Lies active i j → i *ℤ pos (2 ^ level) ≡ c.i *ℤ pos (2 ^ c.level) → j *ℤ pos (2 ^ level) ≡ c.j *ℤ pos (2 ^ c.level) → ⊥

at_level : ℕ → ℤ × ℤ → LevelCell
at_level level cell = record { level = level; i = cell.0; j = cell.1 }

levels_rise : (level : ℕ) (finer : Region) (actives : List Region) → All (λ c. level ≤ c.level) (listed_from level finer actives)
levels_rise level finer [] = All-nil (λ c. level ≤ c.level)
levels_rise level finer (active ∷ coarser) =
    let named : ℤ × ℤ → LevelCell = λ cell. record { level = level; i = cell.0; j = cell.1 } in
    All-append (λ c. level ≤ c.level) (map named (cells_outside finer active)) (listed_from (level + 1) active coarser)
    (All-map (λ c. level ≤ c.level) named (cells_outside finer active) (λ k d low. omega arith))
    (All-weaker (λ c. level + 1 ≤ c.level) (λ c. level ≤ c.level) (λ c h. omega arith) (listed_from (level + 1) active coarser) (levels_rise (level + 1) active coarser))

-- a cell outside the hole does not stand at a cell of the finer region
clear_outside : (level : ℕ) (active : Region) (c : ℤ × ℤ) → not (contains (hole active) c.0 c.1) ≡ true → IsClear level active (record { level = level + 1; i = c.0; j = c.1 })
unfolding IsClear
clear_outside level active c outside i j cell ex ez =
    let ei : i ≡ pos 2 *ℤ c.0 = cancel i (pos 2 *ℤ c.0) (2 ^ level) (some_power level) (ex ∙ coarser_step c.0 level) in
    let ej : j ≡ pos 2 *ℤ c.1 = cancel j (pos 2 *ℤ c.1) (2 ^ level) (some_power level) (ez ∙ coarser_step c.1 level) in
    let doubled : Lies active (pos 2 *ℤ c.0) (pos 2 *ℤ c.1) = subst (λ x. Lies active x (pos 2 *ℤ c.1)) ei (subst (λ z. Lies active i z) ej cell) in
    true≢false (sym (lying (hole active) c.0 c.1 (into_hole active c.0 c.1 doubled)) ∙ not-true (contains (hole active) c.0 c.1) outside)

-- a cell of a still coarser level that is clear of the next region is clear of the finer one, whose half lies in it
clear_beyond : (level e : ℕ) (active next : Region) (c : LevelCell) → IsInner e active next → level + 1 ≤ c.level → IsClear (level + 1) next c → IsClear level active c
unfolding IsClear
clear_beyond level e active next c inner above clear i j cell ex ez =
    let m = c.level - (level + 1) in
    let steps : level + 1 + m ≡ c.level = omega arith in
    let h = c.i *ℤ pos (2 ^ m) in
    let v = c.j *ℤ pos (2 ^ m) in
    let here_x : c.i *ℤ pos (2 ^ c.level) ≡ h *ℤ pos (2 ^ (level + 1)) = ap (λ n. c.i *ℤ pos (2 ^ n)) (sym steps) ∙ finer_steps c.i (level + 1) m in
    let here_z : c.j *ℤ pos (2 ^ c.level) ≡ v *ℤ pos (2 ^ (level + 1)) = ap (λ n. c.j *ℤ pos (2 ^ n)) (sym steps) ∙ finer_steps c.j (level + 1) m in
    let ei : i ≡ pos 2 *ℤ h = cancel i (pos 2 *ℤ h) (2 ^ level) (some_power level) (ex ∙ here_x ∙ coarser_step h level) in
    let ej : j ≡ pos 2 *ℤ v = cancel j (pos 2 *ℤ v) (2 ^ level) (some_power level) (ez ∙ here_z ∙ coarser_step v level) in
    let doubled : Lies active (pos 2 *ℤ h) (pos 2 *ℤ v) = subst (λ x. Lies active x (pos 2 *ℤ v)) ei (subst (λ z. Lies active i z) ej cell) in
    let inside : Lies (hole active) h v = into_hole active h v doubled in
    let held : Within next (hole active) = hole_within e active next inner (cell_in (hole active) h v inside) in
    clear h v (larger next (hole active) h v held inside) (sym here_x) (sym here_z)
  where
    larger : (a b : Region) (x z : ℤ) → Within a b → Lies b x z → Lies a x z
    larger a b x z w l = record { west = omega (arith, ints); east = omega (arith, ints); north = omega (arith, ints); south = omega (arith, ints) }

all_clear : (level e : ℕ) (active : Region) (coarser : List Region) → AreNested e (active ∷ coarser) → All (IsClear level active) (listed_from (level + 1) active coarser)
unfolding cells_outside
all_clear level e active [] nested = All-nil (IsClear level active)
all_clear level e active (next ∷ coarser) nested =
    let named : ℤ × ℤ → LevelCell = λ cell. record { level = level + 1; i = cell.0; j = cell.1 } in
    let rest = listed_from (level + 1 + 1) next coarser in
    let clear = all_clear (level + 1) e next coarser nested.1 in
    let above = levels_rise (level + 1 + 1) next coarser in
    All-append (IsClear level active) (map named (cells_outside active next)) rest
    (All-map (IsClear level active) named (cells_outside active next) (all_kept (λ c. IsClear level active (named c)) (λ c. not (contains (hole active) c.0 c.1)) (cells next) (λ k d low. clear_outside level active (get_or (cells next) k d))))
    (λ k d low. clear_beyond level e active next (get_or rest k d) nested.0 (weaken (get_or rest k d) (above k d low)) (clear k d low))
  where
    weaken : (c : LevelCell) → level + 1 + 1 ≤ c.level → level + 1 ≤ c.level
    weaken c h = omega arith

-- the cells of one level stand apart
pairs_level : (level : ℕ) (finer active : Region) → AllPairs (λ c c'. Apart (at_level level c) (at_level level c')) (cells_outside finer active)
unfolding cells_outside at_level
pairs_level level finer active =
    AllPairs-filter (λ c c'. Apart (at_level level c) (at_level level c')) (λ c. not (contains (hole finer) c.0 c.1)) (cells active)
    (pairs_weaker Differ (λ c c'. Apart (at_level level c) (at_level level c')) (λ c c' differ ex ez. differ (cancel c.0 c'.0 (2 ^ level) (some_power level) ex) (cancel c.1 c'.1 (2 ^ level) (some_power level) ez)) (cells active) (pairs_cells active))

cells_lie : (finer active : Region) → All (λ c. Lies active c.0 c.1) (cells_outside finer active)
unfolding cells_outside
cells_lie finer active =
    All-filter (λ c. not (contains (hole finer) c.0 c.1)) (λ c. Lies active c.0 c.1) (cells active) (all_cells (λ c. Lies active c.0 c.1) active (λ i j cell. cell))

pairs_listed : (level e : ℕ) (finer : Region) (actives : List Region) → AreNested e actives → AllPairs Apart (listed_from level finer actives)
unfolding IsClear at_level
pairs_listed level e finer [] nested = pairs_nil Apart
pairs_listed level e finer (active ∷ coarser) nested =
    let named : ℤ × ℤ → LevelCell = λ cell. record { level = level; i = cell.0; j = cell.1 } in
    let own = cells_outside finer active in
    let rest = listed_from (level + 1) active coarser in
    let clear = all_clear level e active coarser nested in
    pairs_append Apart (map named own) rest (pairs_map Apart named own (pairs_level level finer active)) (pairs_listed (level + 1) e active coarser (later active coarser nested))
    (All-map (λ c. All (Apart c) rest) named own (λ k d low k' d' low'. clear k' d' low' (get_or own k d).0 (get_or own k d).1 (cells_lie finer active k d low)))
  where
    later : (a : Region) (as' : List Region) → AreNested e (a ∷ as') → AreNested e as'
    later a [] h = tt
    later a (b ∷ bs) h = h.1

pub apart : (terrain : Terrain) (k e : ℕ) (actives : List Region) → AreNested e actives → AllPairs StandApart (mesh_vertices terrain k actives)
unfolding mesh_vertices vertex_at
apart terrain k e actives nested =
    pairs_map StandApart (vertex_at terrain k actives) (listed_vertices actives) (pairs_listed 0 e empty_region actives nested)

-- ---- places
miss : (vertex w : Vertex) (vertices : List Vertex) → StandApart vertex w → place_of (vertex ∷ vertices) w.x w.z ≡ place_of vertices w.x w.z + 1
miss vertex w vertices apart' = cases (int_eq vertex.x w.x) (int_eq vertex.z w.z) refl refl
  where
    cases : (a b : Bool) → int_eq vertex.x w.x ≡ a → int_eq vertex.z w.z ≡ b → place_of (vertex ∷ vertices) w.x w.z ≡ place_of vertices w.x w.z + 1
    cases true true ex ez = absurd (apart' ((Decides-int_eq vertex.x w.x).0 ex) ((Decides-int_eq vertex.z w.z).0 ez))
    cases true false ex ez = rw (ex, ez) refl
    cases false b ex ez = rw ex refl

-- where the vertices of a list stand apart, the place of each is its own
pub own_place : (vertices : List Vertex) → AllPairs StandApart vertices → (p : ℕ) (d : Vertex) → p < length vertices → place_of vertices (get_or vertices p d).x (get_or vertices p d).z ≡ p
own_place [] pairs p d low = absurd (omega arith)
own_place (vertex ∷ vertices) pairs zero d low = hit vertex vertices vertex.x vertex.z refl refl
own_place (vertex ∷ vertices) pairs (suc p) d low =
    let below : p < length vertices = omega arith in
    let passed = miss vertex (get_or vertices p d) vertices (pairs_head StandApart vertex vertices pairs p d below) in
    let found = own_place vertices (pairs_tail StandApart vertex vertices pairs) p d below in
    omega (arith, passed, found)
