-- Rows of samples that are read one after another while their voids are filled, and the square that they make.
use Rattle.std.proofs.Common.{◌≡◌, ℕ, ℤ, pos, zero, suc, ◌+◌, ◌-◌, ◌*◌, ◌<◌, ◌≤◌, ◌^◌, Bool, true, false, not, ◌||◌, cond, [], ◌∷◌, ◌++◌, List, length, get_or, map, flat_map, find, reverse, take, drop, Option, Some, None, unwrap_or, option_map, count_by, fold, All, FitsSigned, append_assoc, zero-add, ap, ◌∙◌, sym, subst, refl, arith}
use Rattle.std.specs.Int.{w16}
use Rattle.std.specs.Option.{option_or}
use Rattle.std.specs.List.{range_with_len, list_any}
use Rattle.std.proofs.lemmas.List.{take_more, reverse-append, take-append-drop, flat_map_more}
use Rattle.std.proofs.lemmas.List.Folds.{find-append, list_any-append, list_any_at}
use Rattle.std.proofs.lemmas.List.FromFn.{fill_by_all, map-range_with_len_more, length-map-range_with_len, get_or-map-range_with_len}
use Rattle.std.proofs.lemmas.List.Sums.{sum_by_push, sum_by-append}
use Rattle.terrain_model.specs.Terrain.{Terrain, IsTerrain}
use Rattle.terrain_model.specs.Voids.{is_void, first_known, known_at, without_voids}
use Rattle.terrain_model.specs.Tile.{raw_sample, samples_from, side_of_length, tile_terrain, void_count}
use Rattle.terrain_model.specs.declared.Corner.{Corner}
use Rattle.hgt_tiles.specs.TileView.{IsTile, tile_of_bytes, tile_at}

-- ---- the first element that passes, from the other end
option_or_none : {X : Type 0} (a b : Option X) → option_or a b ≡ None → (a ≡ None) × (b ≡ None)
option_or_none None b e = (refl, e)
option_or_none (Some x) b e = cc

find_reversed : {X : Type 0} (p : X → Bool) (xs : List X) → find p (reverse xs) ≡ None → find p xs ≡ None
find_reversed p [] e = refl
find_reversed p (x ∷ xs) e =
    let split : option_or (find p (reverse xs)) (find p (x ∷ [])) ≡ None = sym (find-append p (reverse xs) (x ∷ [])) ∙ sym (ap (find p) (reverse-append (x ∷ []) xs)) ∙ e in
    let parts = option_or_none (find p (reverse xs)) (find p (x ∷ [])) split in
    elim (p x) as (λ b. cond b (Some x) None ≡ None → cond b (Some x) (find p xs) ≡ None) [
      | true ↦ λ h. absurd (some_is_none x h)
      | false ↦ λ h. find_reversed p xs parts.0
    ] parts.1
  where
    some_is_none : {X : Type 0} (x : X) → Some x ≡ None → ⊥
    some_is_none x e = cc

-- ---- the last known sample of a row's front
-- the last known one of a row's first n samples, and another height where there is none
unfoldable pub latest : List ℤ → ℕ → ℤ → ℤ
latest row n lead = unwrap_or (find (λ sample. not (is_void sample)) (reverse (take n row))) lead

pub latest_none : (row : List ℤ) (lead : ℤ) → lead ≡ latest row 0 lead
unfolding latest
latest_none row lead = refl

turned : (row : List ℤ) (n : ℕ) → n < length row → reverse (take (n + 1) row) ≡ get_or row n (pos 0) ∷ reverse (take n row)
turned row n inside = ap reverse (take_more row n (pos 0) inside) ∙ reverse-append (take n row) (get_or row n (pos 0) ∷ [])

pub latest_void : (row : List ℤ) (n : ℕ) (lead : ℤ) → n < length row → is_void (get_or row n (pos 0)) ≡ true → latest row n lead ≡ latest row (n + 1) lead
unfolding latest
latest_void row n lead inside void = rw (turned row n inside, void) refl

pub latest_known : (row : List ℤ) (n : ℕ) (lead : ℤ) → n < length row → is_void (get_or row n (pos 0)) ≡ false → get_or row n (pos 0) ≡ latest row (n + 1) lead
unfolding latest
latest_known row n lead inside known = rw (turned row n inside, known) refl

-- the last known sample up to a place, or the first of the row, is what stands there once voids are filled
latest_of : (p : ℤ → Bool) (front back : List ℤ) → unwrap_or (find p (reverse front)) (unwrap_or (find p (front ++ back)) (pos 0)) ≡ unwrap_or (find p (reverse front ++ back)) (pos 0)
latest_of p front back =
    elim (find p (reverse front)) as (λ found. find p (reverse front) ≡ found → unwrap_or found (unwrap_or (find p (front ++ back)) (pos 0)) ≡ unwrap_or (option_or found (find p back)) (pos 0)) [
      | None ↦ λ e.
          let none : find p front ≡ None = find_reversed p front e in
          ap (λ o. unwrap_or o (pos 0)) (find-append p front back ∙ ap (λ o. option_or o (find p back)) none)
      | Some x ↦ λ e. refl
    ] refl
    ∙ sym (ap (λ o. unwrap_or o (pos 0)) (find-append p (reverse front) back))

pub latest_stands : (row : List ℤ) (n : ℕ) → latest row (n + 1) (first_known row) ≡ known_at row n
unfolding latest first_known known_at
latest_stands row n =
    let p : ℤ → Bool = λ sample. not (is_void sample) in
    ap (λ whole. unwrap_or (find p (reverse (take (n + 1) row))) (unwrap_or (find p whole) (pos 0))) (sym (take-append-drop (n + 1) row))
    ∙ latest_of p (take (n + 1) row) (drop (n + 1) row)

-- ---- samples of a tile's bytes
pub sample_is : (bytes : List ℕ) (first count n : ℕ) → n < count → get_or (samples_from bytes first count) n (pos 0) ≡ raw_sample bytes (first + n)
unfolding samples_from
sample_is bytes first count n inside = get_or-map-range_with_len (raw_sample bytes) first count n (first + n) (pos 0) inside refl

pub samples_count : (bytes : List ℕ) (first count : ℕ) → length (samples_from bytes first count) ≡ count
unfolding samples_from
samples_count bytes first count = length-map-range_with_len (raw_sample bytes) first count

samples_split : (f : ℕ → ℤ) (first n more : ℕ) → map f (range_with_len first (n + suc more)) ≡ map f (range_with_len first n) ++ f (first + n) ∷ map f (range_with_len (first + n + 1) more)
samples_split f first zero more =
    let e : 0 + suc more ≡ suc more = omega arith in
    let g : first + 0 ≡ first = omega arith in
    rw (e, g) refl
samples_split f first (suc n) more =
    let e : suc n + suc more ≡ suc (n + suc more) = omega arith in
    let g : first + suc n ≡ first + 1 + n = omega arith in
    rw (e, g) (ap (λ xs. f first ∷ xs) (samples_split f (first + 1) n more))

abbrev is_known : ℤ → Bool
is_known sample = not (is_void sample)

-- the first known sample of a row, after samples that are all voids
pub first_found : (bytes : List ℕ) (first count n : ℕ) → find (λ sample. not (is_void sample)) (samples_from bytes first n) ≡ None → n < count → is_void (raw_sample bytes (first + n)) ≡ false → raw_sample bytes (first + n) ≡ first_known (samples_from bytes first count)
unfolding samples_from first_known
first_found bytes first count n none inside known =
    let f = raw_sample bytes in
    let back = map f (range_with_len (first + n + 1) (count - n - 1)) in
    let whole : count ≡ n + suc (count - n - 1) = omega arith in
    let found : find is_known (f (first + n) ∷ back) ≡ Some (f (first + n)) = rw known refl in
    let all : find is_known (map f (range_with_len first count)) ≡ Some (f (first + n)) =
    ap (λ m. find is_known (map f (range_with_len first m))) whole
    ∙ ap (find is_known) (samples_split f first n (count - n - 1))
    ∙ find-append is_known (map f (range_with_len first n)) (f (first + n) ∷ back)
    ∙ ap (λ o. option_or o (find is_known (f (first + n) ∷ back))) none
    ∙ found in
    sym (ap (λ o. unwrap_or o (pos 0)) all)

pub none_more : (bytes : List ℕ) (first n : ℕ) → find (λ sample. not (is_void sample)) (samples_from bytes first n) ≡ None → is_void (raw_sample bytes (first + n)) ≡ true → find (λ sample. not (is_void sample)) (samples_from bytes first (n + 1)) ≡ None
unfolding samples_from
none_more bytes first n none void =
    let f = raw_sample bytes in
    let last : find is_known (f (first + n) ∷ []) ≡ None = rw void refl in
    ap (find is_known) (map-range_with_len_more f first n (first + n) refl)
    ∙ find-append is_known (map f (range_with_len first n)) (f (first + n) ∷ [])
    ∙ ap (λ o. option_or o (find is_known (f (first + n) ∷ []))) none
    ∙ last

pub none_known : (bytes : List ℕ) (first count n : ℕ) → find (λ sample. not (is_void sample)) (samples_from bytes first n) ≡ None → n ≡ count → pos 0 ≡ first_known (samples_from bytes first count)
unfolding first_known
none_known bytes first count n none whole =
    sym (ap (λ m. unwrap_or (find is_known (samples_from bytes first m)) (pos 0)) (sym whole) ∙ ap (λ o. unwrap_or o (pos 0)) none)

-- one more sample of a row, which is counted or not
pub count_more : (bytes : List ℕ) (first n : ℕ) (b : Bool) → is_void (raw_sample bytes (first + n)) ≡ b → count_by is_void (samples_from bytes first (n + 1)) ≡ count_by is_void (samples_from bytes first n) + cond b 1 0
unfolding samples_from
count_more bytes first n b tested =
    ap (count_by is_void) (map-range_with_len_more (raw_sample bytes) first n (first + n) refl)
    ∙ sum_by_push (λ y. cond (is_void y) 1 0) (samples_from bytes first n) (raw_sample bytes (first + n))
    ∙ ap (λ t. count_by is_void (samples_from bytes first n) + cond t 1 0) tested

-- one more height of a row whose voids are filled
pub heights_more : (base : List ℤ) (row : List ℤ) (n : ℕ) (old new : List ℤ) (x : ℤ) → old ≡ base ++ map (known_at row) (range_with_len 0 n) → new ≡ old ++ x ∷ [] → x ≡ known_at row n → new ≡ base ++ map (known_at row) (range_with_len 0 (n + 1))
heights_more base row n old new x before pushed read =
    pushed ∙ ap (λ xs. xs ++ x ∷ []) before
    ∙ ap (λ y. (base ++ map (known_at row) (range_with_len 0 n)) ++ y ∷ []) read
    ∙ append_assoc base (map (known_at row) (range_with_len 0 n)) (known_at row n ∷ [])
    ∙ ap (λ xs. base ++ xs) (sym (map-range_with_len_more (known_at row) 0 n n (omega arith)))

-- all heights of a row
pub row_filled : (base : List ℤ) (bytes : List ℕ) (first side : ℕ) (new : List ℤ) → new ≡ base ++ map (known_at (samples_from bytes first side)) (range_with_len 0 side) → new ≡ base ++ without_voids (samples_from bytes first side)
unfolding without_voids
row_filled base bytes first side new whole =
    whole ∙ ap (λ n. base ++ map (known_at (samples_from bytes first side)) (range_with_len 0 n)) (sym (samples_count bytes first side))

-- ---- a row without voids
pub no_samples : (bytes : List ℕ) (first : ℕ) → false ≡ list_any is_void (samples_from bytes first 0)
unfolding samples_from
no_samples bytes first = refl

pub any_more : (bytes : List ℕ) (first n : ℕ) (before here : Bool) → before ≡ list_any is_void (samples_from bytes first n) → here ≡ is_void (raw_sample bytes (first + n)) →
    (before || here) ≡ list_any is_void (samples_from bytes first (n + 1))
unfolding samples_from
any_more bytes first n before here e h =
    (λ t. e t || h t)
    ∙ ap (λ b. list_any is_void (map (raw_sample bytes) (range_with_len first n)) || b) (alone (is_void (raw_sample bytes (first + n))))
    ∙ sym (ap (list_any is_void) (map-range_with_len_more (raw_sample bytes) first n (first + n) refl)
    ∙ list_any-append is_void (map (raw_sample bytes) (range_with_len first n)) (raw_sample bytes (first + n) ∷ []))
  where
    alone : (b : Bool) → b ≡ (b || false)
    alone true = refl
    alone false = refl

shifted : (f : ℕ → ℤ) (first a n : ℕ) → map (λ k. f (first + k)) (range_with_len a n) ≡ map f (range_with_len (first + a) n)
shifted f first a zero = refl
shifted f first a (suc n) =
    let e : first + (a + 1) ≡ first + a + 1 = omega arith in
    ap (λ xs. f (first + a) ∷ xs) (shifted f first (a + 1) n ∙ ap (λ b. map f (range_with_len b n)) e)

pub samples_read : (bytes : List ℕ) (first count : ℕ) (row : List ℤ) → length row ≡ count → ((k : ℕ) → k < count → get_or row k (pos 0) ≡ raw_sample bytes (first + k)) → row ≡ samples_from bytes first count
unfolding samples_from
samples_read bytes first count row long each =
    let e : first + 0 ≡ first = omega arith in
    fill_by_all (λ k. raw_sample bytes (first + k)) row count (pos 0) long each ∙ shifted (raw_sample bytes) first 0 count ∙ ap (λ a. map (raw_sample bytes) (range_with_len a count)) e

known_of : (row : List ℤ) (n : ℕ) → list_any is_void row ≡ false → n < length row → is_void (get_or row n (pos 0)) ≡ false
known_of row n none inside =
    elim (is_void (get_or row n (pos 0))) as (λ b. is_void (get_or row n (pos 0)) ≡ b → b ≡ false) [
      | true ↦ λ e. let some : list_any is_void row ≡ true = list_any_at is_void row n (pos 0) inside e in cc
      | false ↦ λ e. refl
    ] refl

-- stands as it is
pub plain_row : (row : List ℤ) → list_any is_void row ≡ false → row ≡ without_voids row
unfolding without_voids
plain_row row none =
    fill_by_all (known_at row) row (length row) (pos 0) refl
    (λ n inside. latest_known row n (first_known row) inside (known_of row n none inside) ∙ latest_stands row n)

-- and none of it is counted
counted_from : (a : ℕ) (row : List ℤ) → list_any is_void row ≡ false → a ≡ fold (λ n x. n + cond (is_void x) 1 0) a row
counted_from a [] none = refl
counted_from a (x ∷ xs) none =
    let same : a ≡ a + 0 = omega arith in
    elim (is_void x) as (λ b. (b || list_any is_void xs) ≡ false → a ≡ fold (λ n y. n + cond (is_void y) 1 0) (a + cond b 1 0) xs) [
      | true ↦ λ h. absurd (not_both h)
      | false ↦ λ h. counted_from a xs h ∙ ap (λ n. fold (λ m y. m + cond (is_void y) 1 0) n xs) same
    ] none
  where
    not_both : true ≡ false → ⊥
    not_both e = cc

pub none_counted : (row : List ℤ) → list_any is_void row ≡ false → 0 ≡ count_by is_void row
none_counted row none = counted_from 0 row none

range_more : (a n : ℕ) → range_with_len a (n + 1) ≡ range_with_len a n ++ (a + n) ∷ []
range_more a zero = let e : a + 0 ≡ a = omega arith in rw e refl
range_more a (suc n) =
    let e : suc n + 1 ≡ suc (n + 1) = omega arith in
    let f : a + suc n ≡ a + 1 + n = omega arith in
    rw (e, f) (ap (λ xs. a ∷ xs) (range_more (a + 1) n))

-- one more row
pub rows_more : {X : Type 0} (f : ℕ → List X) (v : ℕ) (old new : List X) → old ≡ flat_map f (range_with_len 0 v) → new ≡ old ++ f v → new ≡ flat_map f (range_with_len 0 (v + 1))
rows_more f v old new before appended =
    appended ∙ ap (λ xs. xs ++ f v) before ∙ flat_map_more f [] (range_with_len 0 v) v ∙ ap (λ n. flat_map f (range_with_len 0 v ++ n ∷ [])) (sym (zero-add v)) ∙ ap (flat_map f) (sym (range_more 0 v))

-- one more row, some of whose samples are voids
pub counted_more : (f : ℕ → List ℤ) (v : ℕ) (old more : ℕ) → old ≡ count_by is_void (flat_map f (range_with_len 0 v)) → more ≡ count_by is_void (f v) → old + more ≡ count_by is_void (flat_map f (range_with_len 0 (v + 1)))
counted_more f v old more before counted =
    let whole : flat_map f (range_with_len 0 (v + 1)) ≡ flat_map f (range_with_len 0 v) ++ f v = sym (rows_more f v (flat_map f (range_with_len 0 v)) (flat_map f (range_with_len 0 v) ++ f v) refl refl) in
    ap (λ n. n + more) before ∙ ap (λ n. count_by is_void (flat_map f (range_with_len 0 v)) + n) counted ∙ sym (ap (count_by is_void) whole ∙ sum_by-append (λ y. cond (is_void y) 1 0) (flat_map f (range_with_len 0 v)) (f v))

-- a square of heights is a tile's terrain
pub square_is_tile : (terrain : Terrain) (side : ℕ) (heights : List ℤ) → 3 ≤ side → side ≤ 3601 → IsTerrain terrain → terrain.width ≡ side → terrain.height ≡ side → heights ≡ terrain.table → IsTile (record { width = side; height = side; table = heights })
square_is_tile terrain side heights low high sound wide tall whole =
    record {
      square = refl;
      low = low;
      high = high;
      sound = record {
        some_columns = omega arith;
        some_rows = omega arith;
        few_samples = subst (λ w. w * side ≤ 2 ^ 26) wide (subst (λ h. terrain.width * h ≤ 2 ^ 26) tall sound.few_samples);
        whole_table = ap length whole ∙ sound.whole_table ∙ ap (λ w. w * terrain.height) wide ∙ ap (λ h. side * h) tall;
        short_heights = subst (λ xs. All (FitsSigned w16) xs) (sym whole) sound.short_heights;
      };
    }

-- a tile has no more voids than the greatest square has samples
pub few_of_side : (voids side : ℕ) → voids ≤ side * side → side ≤ 3601 → voids ≤ 12967201
few_of_side voids side few high = grind arith

-- what bytes of a side make, from their heights and the number of their voids
pub tile_is : (place : Corner) (bytes : List ℕ) (side : ℕ) (heights : List ℤ) (voids : ℕ) → side_of_length (length bytes) ≡ Some side → heights ≡ (tile_terrain bytes side).table → voids ≡ void_count bytes side → tile_of_bytes place bytes ≡ Some (record { corner = place; terrain = record { width = side; height = side; table = heights }; voids = voids })
unfolding tile_of_bytes tile_at tile_terrain
tile_is place bytes side heights voids sided read counted =
    ap (option_map (tile_at place bytes)) sided
    ∙ ap (λ table. Some (record { corner = place; terrain = record { width = side; height = side; table = table }; voids = void_count bytes side })) (sym read)
    ∙ ap (λ n. Some (record { corner = place; terrain = record { width = side; height = side; table = heights }; voids = n })) (sym counted)
