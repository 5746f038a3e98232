-- Codes of rows, one more at a time, and lists over ranges.
use Rattle.std.proofs.Common.{◌≡◌, ℕ, zero, suc, ◌+◌, ◌<◌, Bool, true, false, cond, List, [], ◌∷◌, ◌++◌, map, filter, ℤ, pos, ◌+ℤ◌, refl, ap, sym, ◌∙◌, arith, append-nil, append_assoc}
use Rattle.std.specs.List.{flat_map, range_with_len}
use mathlib.Core.Path.{ap₂}
use Rattle.std.proofs.lemmas.List.{map-append}
use Rattle.std.proofs.lemmas.List.Concat.{flat_map-append}
use Rattle.std.proofs.lemmas.List.FromFn.{filter_of_map_range_with_len_more, map-range_with_len_more}
use Rattle.clip_regions.specs.declared.region.Region.{Region}
use Rattle.clip_regions.specs.Regions.{columns, rows, numbers_from}
use Rattle.store_model.specs.Blocks.{is_coded, coded_values}
use Rattle.store_writer.specs.Entries.{row_codes, rows_codes}
use Rattle.store_model.proofs.Stores.{range_more}

pub flat_range_more : {A : Type 0} (f : ℕ → List A) (n : ℕ) → flat_map f (range_with_len 0 (n + 1)) ≡ flat_map f (range_with_len 0 n) ++ f n
flat_range_more f n =
    ap (flat_map f) (range_more n) ∙ flat_map-append f (range_with_len 0 n) (n ∷ []) ∙ ap (λ (ys : List _). flat_map f (range_with_len 0 n) ++ ys) (append-nil (f n))

row_more : (code : ℤ → ℤ → ℤ) (first j : ℤ) (n : ℕ) → row_codes code first j (n + 1) ≡ row_codes code first j n ++ map (λ i. code i j) (cond (is_coded (first +ℤ pos n) j) ((first +ℤ pos n) ∷ []) [])
unfolding row_codes
row_more code first j n =
    ap (map (λ i. code i j)) (filter_of_map_range_with_len_more (λ i. is_coded i j) (λ i. first +ℤ pos i) 0 n n (omega arith))
    ∙ map-append (λ i. code i j) (filter (λ i. is_coded i j) (numbers_from first n)) (cond (is_coded (first +ℤ pos n) j) ((first +ℤ pos n) ∷ []) [])

pub row_more_coded : (code : ℤ → ℤ → ℤ) (first j : ℤ) (n : ℕ) → is_coded (first +ℤ pos n) j ≡ true → row_codes code first j (n + 1) ≡ row_codes code first j n ++ code (first +ℤ pos n) j ∷ []
row_more_coded code first j n e =
    row_more code first j n ∙ ap (λ (t : Bool). row_codes code first j n ++ map (λ i. code i j) (cond t ((first +ℤ pos n) ∷ []) [])) e

pub row_more_even : (code : ℤ → ℤ → ℤ) (first j : ℤ) (n : ℕ) → is_coded (first +ℤ pos n) j ≡ false → row_codes code first j (n + 1) ≡ row_codes code first j n
row_more_even code first j n e =
    row_more code first j n ∙ ap (λ (t : Bool). row_codes code first j n ++ map (λ i. code i j) (cond t ((first +ℤ pos n) ∷ []) [])) e
    ∙ append-nil (row_codes code first j n)

pub row_none : (code : ℤ → ℤ → ℤ) (first j : ℤ) → row_codes code first j 0 ≡ []
unfolding row_codes
row_none code first j = refl

pub numbers_more : (first : ℤ) (n : ℕ) → numbers_from first (n + 1) ≡ numbers_from first n ++ (first +ℤ pos n) ∷ []
numbers_more first n = map-range_with_len_more (λ i. first +ℤ pos i) 0 n n (omega arith)

pub rows_more : (code : ℤ → ℤ → ℤ) (region : Region) (n : ℕ) → rows_codes code region (n + 1) ≡ rows_codes code region n ++ row_codes code region.x0 (region.y0 +ℤ pos n) (columns region)
unfolding rows_codes
rows_more code region n =
    let row = λ (j : ℤ). row_codes code region.x0 j (columns region) in
    ap (flat_map row) (numbers_more region.y0 n)
    ∙ flat_map-append row (numbers_from region.y0 n) ((region.y0 +ℤ pos n) ∷ [])
    ∙ ap (λ (ys : List ℤ). flat_map row (numbers_from region.y0 n) ++ ys) (append-nil (row (region.y0 +ℤ pos n)))

pub rows_none : (code : ℤ → ℤ → ℤ) (region : Region) → rows_codes code region 0 ≡ []
unfolding rows_codes
rows_none code region = refl

pub rows_all : (code : ℤ → ℤ → ℤ) (region : Region) → rows_codes code region (rows region) ≡ coded_values code region
unfolding rows_codes row_codes coded_values
rows_all code region = refl

-- ---- codes that agree on the region's cells
row_same : (f g : ℤ → ℤ → ℤ) (first j : ℤ) (n : ℕ) → ((k : ℕ) → k < n → f (first +ℤ pos k) j ≡ g (first +ℤ pos k) j) → row_codes f first j n ≡ row_codes g first j n
row_same f g first j zero h = row_none f first j ∙ sym (row_none g first j)
row_same f g first j (suc n) h =
    let before : row_codes f first j n ≡ row_codes g first j n = row_same f g first j n (λ k l. h k (omega arith)) in
    let here : f (first +ℤ pos n) j ≡ g (first +ℤ pos n) j = h n (omega arith) in
    let one : suc n ≡ n + 1 = omega arith in
    let tail : (t : Bool) → map (λ i. f i j) (cond t ((first +ℤ pos n) ∷ []) []) ≡ map (λ i. g i j) (cond t ((first +ℤ pos n) ∷ []) []) =
    λ t. elim t as (λ b. map (λ i. f i j) (cond b ((first +ℤ pos n) ∷ []) []) ≡ map (λ i. g i j) (cond b ((first +ℤ pos n) ∷ []) [])) [ true ↦ ap (λ (x : ℤ). x ∷ []) here | false ↦ refl ] in
    ap (row_codes f first j) one
    ∙ row_more f first j n
    ∙ ap₂ (λ (xs ys : List ℤ). xs ++ ys) before (tail (is_coded (first +ℤ pos n) j))
    ∙ sym (row_more g first j n)
    ∙ ap (row_codes g first j) (sym one)

rows_same : (f g : ℤ → ℤ → ℤ) (region : Region) (n : ℕ) → ((a b : ℕ) → a < columns region → b < n → f (region.x0 +ℤ pos a) (region.y0 +ℤ pos b) ≡ g (region.x0 +ℤ pos a) (region.y0 +ℤ pos b)) → rows_codes f region n ≡ rows_codes g region n
rows_same f g region zero h = rows_none f region ∙ sym (rows_none g region)
rows_same f g region (suc n) h =
    let before : rows_codes f region n ≡ rows_codes g region n = rows_same f g region n (λ a b l m. h a b l (omega arith)) in
    let here : row_codes f region.x0 (region.y0 +ℤ pos n) (columns region) ≡ row_codes g region.x0 (region.y0 +ℤ pos n) (columns region) =
    row_same f g region.x0 (region.y0 +ℤ pos n) (columns region) (λ a l. h a n l (omega arith)) in
    let one : suc n ≡ n + 1 = omega arith in
    ap (rows_codes f region) one
    ∙ rows_more f region n
    ∙ ap₂ (λ (xs ys : List ℤ). xs ++ ys) before here
    ∙ sym (rows_more g region n)
    ∙ ap (rows_codes g region) (sym one)

pub values_same : (f g : ℤ → ℤ → ℤ) (region : Region) → ((a b : ℕ) → a < columns region → b < rows region → f (region.x0 +ℤ pos a) (region.y0 +ℤ pos b) ≡ g (region.x0 +ℤ pos a) (region.y0 +ℤ pos b)) → coded_values f region ≡ coded_values g region
values_same f g region h = sym (rows_all f region) ∙ rows_same f g region (rows region) h ∙ rows_all g region

-- one more at the end of what was put
pub put_more : {A : Type 0} (old before more whole now next : List A) → now ≡ old ++ before → next ≡ now ++ more → whole ≡ before ++ more → next ≡ old ++ whole
put_more old before more whole now next e f g =
    f ∙ ap (λ (xs : List _). xs ++ more) e ∙ append_assoc old before more ∙ ap (λ (xs : List _). old ++ xs) (sym g)

pub put_none : {A : Type 0} (old none : List A) → none ≡ [] → old ≡ old ++ none
put_none old none e = sym (ap (λ (xs : List _). old ++ xs) e ∙ append-nil old)
