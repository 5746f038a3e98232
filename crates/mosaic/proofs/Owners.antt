-- Tiles that are painted in order, and the owners of samples.
use Rattle.std.proofs.Common.{◌≡◌, ℕ, ◌<◌, ◌≤◌, zero, suc, Bool, true, false, not, ◌&&◌, ◌||◌, cond, ℤ, pos, List, [], ◌∷◌, ◌++◌, length, get_or, map, fold, find, option_map, Some, None, All, Contains, refl, ap, sym, ◌∙◌, ◌⊎◌, inl, inr, ⊎_elim, arith}
use Rattle.std.specs.Prelude.{int_lt, int_le}
use Rattle.std.specs.List.{list_any, list_all}
use Rattle.std.specs.Cmp.{IsStrictWeakOrder}
use Rattle.std.specs.List.Sorted.{IsPermutation, IsSortedBy}
use Rattle.std.proofs.lemmas.Int.{ints}
use Rattle.std.proofs.lemmas.List.Folds.{list_all_at, list_all-map}
use Rattle.std.proofs.lemmas.List.Sorted.{sorted_far, All-permutation, Contains-permutation, IsPermutation-sym}
use Rattle.std.proofs.lemmas.List.Elements.{All-nil, All-cons, All-head, All-tail, All-from_get_or, All-contains, Contains-append_left, Contains-push}
use Rattle.std.proofs.lemmas.Bool.{cases_lt}
use Rattle.std.proofs.lemmas.List.{get_or_default}
use Rattle.terrain_model.specs.Mosaic.{Bounds, PlacedTile, covers, comes_before, owns, owner_of, owned_height, height_in, mosaic_sample}
use Rattle.hgt_tiles.specs.TileView.{TileView, placed}
use Rattle.mosaic.specs.Faults.{same_corner, twin_after}
use Rattle.mosaic.specs.Painting.{IsInOrder, painted_over, painted}

-- ---- the order of painting
-- one tile is painted before another
abbrev pub is_earlier : TileView → TileView → Bool
is_earlier tile other = comes_before (placed other) (placed tile)

abbrev north_or_west : ℤ → ℤ → ℤ → ℤ → Bool
north_or_west la lo mb mo = int_lt mb la || (not (int_lt la mb) && int_lt lo mo)

one_way : (a b c d : ℤ) → north_or_west a b c d ≡ true → north_or_west c d a b ≡ false
one_way a b c d h = grind (arith, ints)

chain : (a b c d e f : ℤ) → north_or_west c d a b ≡ false → north_or_west e f c d ≡ false → north_or_west e f a b ≡ false
chain a b c d e f h k = grind (arith, ints)

pub earlier_order : IsStrictWeakOrder is_earlier
unfolding comes_before placed
earlier_order = record {
  one_way = λ x y h. one_way y.corner.lat y.corner.lon x.corner.lat x.corner.lon h;
  chain = λ x y z h k. chain x.corner.lat x.corner.lon y.corner.lat y.corner.lon z.corner.lat z.corner.lon h k;
}

in_order : (tiles : List TileView) → ((i j : ℕ) (d : TileView) → i ≤ j → j < length tiles → comes_before (placed (get_or tiles i d)) (placed (get_or tiles j d)) ≡ false) → IsInOrder tiles
in_order [] each = tt
in_order (tile ∷ rest) each =
    (All-from_get_or (λ later. comes_before (placed tile) (placed later) ≡ false) rest tile (λ j inside. each zero (suc j) tile (omega arith) (omega (arith, inside))), in_order rest (λ i j d low inside. each (suc i) (suc j) d (omega (arith, low)) (omega (arith, inside))))

pub sorted_in_order : (tiles : List TileView) → IsSortedBy is_earlier tiles → IsInOrder tiles
sorted_in_order tiles sorted = in_order tiles (λ i j d low inside. sorted_far is_earlier earlier_order tiles sorted i j d low inside)

-- ---- elements of a list
in_rest : {X : Type 0} (y : X) (ys : List X) (x : X) → Contains ys x → Contains (y ∷ ys) x
in_rest y ys x (k, inside, here) = (suc k, omega (arith, inside), here)

in_head : {X : Type 0} (y : X) (ys : List X) → Contains (y ∷ ys) y
in_head y ys = (zero, omega arith, refl)

-- ---- what is painted last
-- a tile of the list covers the sample, no tile that covers it comes before, and its height is there
record IsLast (bounds : Bounds) (x y : ℕ) (tiles : List TileView) (height : ℤ) : Type 0 where
  tile : TileView
  listed : Contains tiles tile
  covering : covers bounds x y (placed tile) ≡ true
  first : All (λ other. covers bounds x y (placed other) ≡ true → comes_before (placed other) (placed tile) ≡ false) tiles
  there : height ≡ height_in bounds x y (placed tile)

abbrev Missed : Bounds → ℕ → ℕ → TileView → Type 0
Missed bounds x y tile = covers bounds x y (placed tile) ≡ false

before_itself : (tile : TileView) → comes_before (placed tile) (placed tile) ≡ false
unfolding comes_before placed
before_itself tile = same tile.corner.lat tile.corner.lon
  where
    same : (a b : ℤ) → north_or_west a b a b ≡ false
    same a b = grind (arith, ints)

not_both : (b : Bool) → b ≡ false → b ≡ true → ⊥
not_both b e f = cc

last_painted : (bounds : Bounds) (x y : ℕ) (tiles : List TileView) (height : ℤ) → IsInOrder tiles → ((fold (painted_over bounds x y) height tiles ≡ height) × All (Missed bounds x y) tiles) ⊎ IsLast bounds x y tiles (fold (painted_over bounds x y) height tiles)
unfolding painted_over
last_painted bounds x y [] height order = inl (refl, All-nil (Missed bounds x y))
last_painted bounds x y (tile ∷ rest) height order =
    ⊎_elim
    (λ h. this_one bounds x y tile rest height order h)
    (λ later. inr (record {
      tile = later.tile;
      listed = in_rest tile rest later.tile later.listed;
      covering = later.covering;
      first = All-cons (λ other. covers bounds x y (placed other) ≡ true → comes_before (placed other) (placed later.tile) ≡ false) tile rest (λ c. All-contains (λ l. comes_before (placed tile) (placed l) ≡ false) rest later.tile order.0 later.listed) later.first;
      there = later.there;
    }))
    (last_painted bounds x y rest (painted_over bounds x y height tile) order.1)
  where
    this_one : (bounds : Bounds) (x y : ℕ) (tile : TileView) (rest : List TileView) (height : ℤ) → IsInOrder (tile ∷ rest) → (fold (painted_over bounds x y) (painted_over bounds x y height tile) rest ≡ painted_over bounds x y height tile) × All (Missed bounds x y) rest → ((fold (painted_over bounds x y) height (tile ∷ rest) ≡ height) × All (Missed bounds x y) (tile ∷ rest)) ⊎ IsLast bounds x y (tile ∷ rest) (fold (painted_over bounds x y) height (tile ∷ rest))
    this_one bounds x y tile rest height order h =
        elim (covers bounds x y (placed tile)) as (λ b. covers bounds x y (placed tile) ≡ b → (fold (painted_over bounds x y) (painted_over bounds x y height tile) rest ≡ cond b (height_in bounds x y (placed tile)) height) → ((fold (painted_over bounds x y) height (tile ∷ rest) ≡ height) × All (Missed bounds x y) (tile ∷ rest)) ⊎ IsLast bounds x y (tile ∷ rest) (fold (painted_over bounds x y) height (tile ∷ rest))) [
          | true ↦ λ e k. inr (record {
            tile = tile;
            listed = in_head tile rest;
            covering = e;
            first = All-cons (λ other. covers bounds x y (placed other) ≡ true → comes_before (placed other) (placed tile) ≡ false) tile rest (λ c. before_itself tile) (λ i d inside c. absurd (not_both (covers bounds x y (placed (get_or rest i d))) (h.1 i d inside) c));
            there = k;
          })
          | false ↦ λ e k. inl (k, All-cons (Missed bounds x y) tile rest e h.1)
        ] refl h.0

-- ---- owners
find_none : {X : Type 0} (p : X → Bool) (xs : List X) → All (λ x. p x ≡ false) xs → find p xs ≡ None
find_none p [] all = refl
find_none p (x ∷ xs) all = rw (All-head (λ x. p x ≡ false) x xs all) (find_none p xs (All-tail (λ x. p x ≡ false) x xs all))

-- what find gives where a listed element passes
record IsFound {X : Type 0} (p : X → Bool) (xs : List X) : Type 0 where
  element : X
  found : find p xs ≡ Some element
  passes : p element ≡ true
  listed : Contains xs element

find_some : {X : Type 0} (p : X → Bool) (xs : List X) (k : ℕ) (d : X) → k < length xs → p (get_or xs k d) ≡ true → IsFound p xs
find_some p [] k d inside pass = absurd (omega (arith, inside))
find_some p (x ∷ xs) zero d inside pass = record { element = x; found = rw pass refl; passes = pass; listed = in_head x xs }
find_some p (x ∷ xs) (suc k) d inside pass =
    let later : IsFound p xs = find_some p xs k d (omega (arith, inside)) pass in
    elim (p x) as (λ b. p x ≡ b → IsFound p (x ∷ xs)) [
      | true ↦ λ e. record { element = x; found = rw e refl; passes = e; listed = in_head x xs }
      | false ↦ λ e. record { element = later.element; found = rw e later.found; passes = later.passes; listed = in_rest x xs later.element later.listed }
    ] refl

find_listed : {X : Type 0} (p : X → Bool) (xs : List X) (x : X) → Contains xs x → p x ≡ true → IsFound p xs
find_listed p xs x (k, inside, here) pass = find_some p xs k x inside (ap p here ∙ pass)

find_mapped : {X Y : Type 0} (f : X → Y) (p : Y → Bool) (xs : List X) → find p (map f xs) ≡ option_map f (find (λ x. p (f x)) xs)
find_mapped f p [] = refl
find_mapped f p (x ∷ xs) =
    elim (p (f x)) as (λ b. cond b (Some (f x)) (find p (map f xs)) ≡ option_map f (cond b (Some x) (find (λ x. p (f x)) xs))) [ true ↦ refl | false ↦ find_mapped f p xs ]

all_pass : {X : Type 0} (p : X → Bool) (xs : List X) → All (λ x. p x ≡ true) xs → list_all p xs ≡ true
all_pass p [] all = refl
all_pass p (x ∷ xs) all = rw (All-head (λ x. p x ≡ true) x xs all) (all_pass p xs (All-tail (λ x. p x ≡ true) x xs all))

one_passes : {X : Type 0} (p : X → Bool) (xs : List X) (k : ℕ) (d : X) → k < length xs → list_all p xs ≡ true → p (get_or xs k d) ≡ true
one_passes p xs k d inside all =
    elim (p (get_or xs k d)) as (λ b. p (get_or xs k d) ≡ b → b ≡ true) [
      | true ↦ λ e. refl
      | false ↦ λ e. absurd (not_both (list_all p xs) (list_all_at p xs k d inside e) all)
    ] refl

-- ---- twins
either_false : (a b : Bool) → (a || b) ≡ false → (a ≡ false) × (b ≡ false)
either_false false b e = (refl, e)
either_false true b e = cc

none_at : (p : TileView → Bool) (xs : List TileView) (k : ℕ) (d : TileView) → list_any p xs ≡ false → k < length xs → p (get_or xs k d) ≡ false
none_at p [] k d none inside = absurd (omega (arith, inside))
none_at p (x ∷ xs) zero d none inside = (either_false (p x) (list_any p xs) none).0
none_at p (x ∷ xs) (suc k) d none inside = none_at p xs k d (either_false (p x) (list_any p xs) none).1 (omega (arith, inside))

none_listed : (p : TileView → Bool) (xs : List TileView) (x : TileView) → list_any p xs ≡ false → Contains xs x → p x ≡ false
none_listed p xs x none (k, inside, here) = sym (ap p here) ∙ none_at p xs k x none inside

-- no tile has the corner of an earlier one: neither of those before the list nor of those in it
first_of_twins : (earlier : List TileView) (tile : TileView) (rest : List TileView) → twin_after earlier (tile ∷ rest) ≡ None → (list_any (same_corner tile) earlier ≡ false) × (twin_after (earlier ++ tile ∷ []) rest ≡ None)
first_of_twins earlier tile rest none =
    elim (list_any (same_corner tile) earlier) as (λ b. cond b (Some tile) (twin_after (earlier ++ tile ∷ []) rest) ≡ None → (b ≡ false) × (twin_after (earlier ++ tile ∷ []) rest ≡ None)) [ true ↦ λ e. cc | false ↦ λ e. (refl, e) ] none

apart_from_earlier : (earlier tiles : List TileView) (j : ℕ) (d e : TileView) → twin_after earlier tiles ≡ None → Contains earlier e → j < length tiles → same_corner (get_or tiles j d) e ≡ false
apart_from_earlier earlier [] j d e none listed inside = absurd (omega (arith, inside))
apart_from_earlier earlier (tile ∷ rest) zero d e none listed inside = none_listed (same_corner tile) earlier e (first_of_twins earlier tile rest none).0 listed
apart_from_earlier earlier (tile ∷ rest) (suc j) d e none listed inside =
    apart_from_earlier (earlier ++ tile ∷ []) rest j d e (first_of_twins earlier tile rest none).1 (Contains-append_left earlier (tile ∷ []) e listed) (omega (arith, inside))

apart : (earlier tiles : List TileView) (i j : ℕ) (d : TileView) → twin_after earlier tiles ≡ None → i < j → j < length tiles → same_corner (get_or tiles j d) (get_or tiles i d) ≡ false
apart earlier [] i j d none low inside = absurd (omega (arith, inside))
apart earlier (tile ∷ rest) i zero d none low inside = absurd (omega (arith, low))
apart earlier (tile ∷ rest) zero (suc j) d none low inside =
    apart_from_earlier (earlier ++ tile ∷ []) rest j d tile (first_of_twins earlier tile rest none).1 (Contains-push earlier tile) (omega (arith, inside))
apart earlier (tile ∷ rest) (suc i) (suc j) d none low inside =
    apart (earlier ++ tile ∷ []) rest i j d (first_of_twins earlier tile rest none).1 (omega (arith, low)) (omega (arith, inside))

-- tiles of one corner are one
corner_is : (a b : TileView) → comes_before (placed a) (placed b) ≡ false → comes_before (placed b) (placed a) ≡ false → (same_corner a b ≡ true) × (same_corner b a ≡ true)
unfolding comes_before placed same_corner
corner_is a b h k = both_ways a.corner.lat a.corner.lon b.corner.lat b.corner.lon h k
  where
    both_ways : (la lo mb mo : ℤ) → north_or_west la lo mb mo ≡ false → north_or_west mb mo la lo ≡ false → (((int_le la mb && int_le mb la) && (int_le lo mo && int_le mo lo)) ≡ true) × (((int_le mb la && int_le la mb) && (int_le mo lo && int_le lo mo)) ≡ true)
    both_ways la lo mb mo h k = (grind (arith, ints), grind (arith, ints))

one_tile : (tiles : List TileView) (a b : TileView) → twin_after [] tiles ≡ None → Contains tiles a → Contains tiles b → comes_before (placed a) (placed b) ≡ false → comes_before (placed b) (placed a) ≡ false → a ≡ b
one_tile tiles a b none (i, i_in, i_is) (j, j_in, j_is) h k =
    let same = corner_is a b h k in
    let at_i : get_or tiles i b ≡ a = get_or_default tiles i b a i_in ∙ i_is in
    ⊎_elim
    (λ (low : i < j). absurd (not_both (same_corner (get_or tiles j b) (get_or tiles i b)) (apart [] tiles i j b none low j_in) (ap (λ t. same_corner t (get_or tiles i b)) j_is ∙ ap (same_corner b) at_i ∙ same.1)))
    (λ (high : j ≤ i).
    ⊎_elim
    (λ (less : j < i). absurd (not_both (same_corner (get_or tiles i b) (get_or tiles j b)) (apart [] tiles j i b none less i_in) (ap (λ t. same_corner t (get_or tiles j b)) at_i ∙ ap (same_corner a) j_is ∙ same.0)))
    (λ (not_less : i ≤ j). let e : i ≡ j = omega (arith, high, not_less) in sym at_i ∙ ap (λ n. get_or tiles n b) e ∙ j_is)
    (cases_lt j i))
    (cases_lt i j)

-- ---- what is painted last is the owner's
not_covering_before : (a b : Bool) → (a ≡ true → b ≡ false) → not (a && b) ≡ true
not_covering_before true b h = ap not (h refl)
not_covering_before false b h = refl

before_if_covering : (a b : Bool) → not (a && b) ≡ true → a ≡ true → b ≡ false
before_if_covering true false h e = refl
before_if_covering true true h e = cc
before_if_covering false b h e = cc

both_true : (a b : Bool) → (a && b) ≡ true → (a ≡ true) × (b ≡ true)
both_true true b e = (refl, e)
both_true false b e = cc

owns_it : (bounds : Bounds) (tiles : List TileView) (x y : ℕ) (tile : TileView) → covers bounds x y (placed tile) ≡ true → All (λ other. covers bounds x y (placed other) ≡ true → comes_before (placed other) (placed tile) ≡ false) tiles → owns bounds (map placed tiles) x y (placed tile) ≡ true
unfolding owns
owns_it bounds tiles x y tile covering first =
    let p = λ (other : TileView). not (covers bounds x y (placed other) && comes_before (placed other) (placed tile)) in
    let all : list_all p tiles ≡ true = all_pass p tiles (λ k d inside. not_covering_before (covers bounds x y (placed (get_or tiles k d))) (comes_before (placed (get_or tiles k d)) (placed tile)) (first k d inside)) in
    let mapped : list_all (λ other. not (covers bounds x y other && comes_before other (placed tile))) (map placed tiles) ≡ true = list_all-map (λ other. not (covers bounds x y other && comes_before other (placed tile))) placed tiles ∙ all in
    rw (covering, mapped) refl

-- what an owner is
owner_has : (bounds : Bounds) (tiles : List TileView) (x y : ℕ) (tile : TileView) → owns bounds (map placed tiles) x y (placed tile) ≡ true → (covers bounds x y (placed tile) ≡ true) × ((k : ℕ) (d : TileView) → k < length tiles → covers bounds x y (placed (get_or tiles k d)) ≡ true → comes_before (placed (get_or tiles k d)) (placed tile) ≡ false)
unfolding owns
owner_has bounds tiles x y tile own =
    let q = λ (other : PlacedTile). not (covers bounds x y other && comes_before other (placed tile)) in
    let parts = both_true (covers bounds x y (placed tile)) (list_all q (map placed tiles)) own in
    let all : list_all (λ (other : TileView). q (placed other)) tiles ≡ true = sym (list_all-map q placed tiles) ∙ parts.1 in
    (parts.0, λ k d inside covering. before_if_covering (covers bounds x y (placed (get_or tiles k d))) (comes_before (placed (get_or tiles k d)) (placed tile)) (one_passes (λ (other : TileView). q (placed other)) tiles k d inside all) covering)

missed_owns : (bounds : Bounds) (tiles : List TileView) (x y : ℕ) (tile : TileView) → covers bounds x y (placed tile) ≡ false → owns bounds (map placed tiles) x y (placed tile) ≡ false
unfolding owns
missed_owns bounds tiles x y tile missed = rw missed refl

pub painted_is_owned : (bounds : Bounds) (tiles sorted : List TileView) (x y : ℕ) → IsPermutation tiles sorted → IsInOrder sorted → twin_after [] tiles ≡ None → painted bounds sorted x y ≡ mosaic_sample bounds (map placed tiles) x y
unfolding painted mosaic_sample owner_of
painted_is_owned bounds tiles sorted x y moved order none =
    let p = λ (tile : TileView). owns bounds (map placed tiles) x y (placed tile) in
    let back : IsPermutation sorted tiles = IsPermutation-sym tiles sorted moved in
    let mapped : find (owns bounds (map placed tiles) x y) (map placed tiles) ≡ option_map placed (find p tiles) = find_mapped placed (owns bounds (map placed tiles) x y) tiles in
    ⊎_elim
    (λ h.
    let missed : All (Missed bounds x y) tiles = All-permutation (Missed bounds x y) sorted tiles back h.1 in
    let nothing : find p tiles ≡ None = find_none p tiles (λ k d inside. missed_owns bounds tiles x y (get_or tiles k d) (missed k d inside)) in
    h.0 ∙ sym (ap (owned_height bounds x y) (mapped ∙ ap (option_map placed) nothing)))
    (λ last.
    let first : All (λ other. covers bounds x y (placed other) ≡ true → comes_before (placed other) (placed last.tile) ≡ false) tiles = All-permutation (λ other. covers bounds x y (placed other) ≡ true → comes_before (placed other) (placed last.tile) ≡ false) sorted tiles back last.first in
    let listed : Contains tiles last.tile = Contains-permutation sorted tiles last.tile back last.listed in
    let owner : IsFound p tiles = find_listed p tiles last.tile listed (owns_it bounds tiles x y last.tile last.covering first) in
    let has = owner_has bounds tiles x y owner.element owner.passes in
    let earlier : comes_before (placed last.tile) (placed owner.element) ≡ false = All-contains (λ other. covers bounds x y (placed other) ≡ true → comes_before (placed other) (placed owner.element) ≡ false) tiles last.tile has.1 listed last.covering in
    let later : comes_before (placed owner.element) (placed last.tile) ≡ false = All-contains (λ other. covers bounds x y (placed other) ≡ true → comes_before (placed other) (placed last.tile) ≡ false) tiles owner.element first owner.listed has.0 in
    let same : owner.element ≡ last.tile = one_tile tiles owner.element last.tile none owner.listed listed later earlier in
    last.there ∙ sym (ap (owned_height bounds x y) (mapped ∙ ap (option_map placed) (owner.found ∙ ap Some same))))
    (last_painted bounds x y sorted (pos 0) order)
