-- A table of codes as the codes of a block's cells.
use Rattle.std.proofs.Common.{◌≡◌, Bool, true, false, ℕ, ℤ, pos, negsuc, ◌+ℤ◌, ◌-ℤ◌, List, [], ◌∷◌, ◌++◌, length, get_or, map, filter, cond, refl, ap, sym, ◌∙◌, subst, arith, length-append}
use Rattle.std.proofs.lemmas.Int.{ints}
use Rattle.std.proofs.lemmas.List.{length-map}
use Rattle.std.specs.List.{flat_map, range_with_len}
use mathlib.Core.Path.{ap₂}
use Rattle.clip_regions.specs.declared.region.Region.{Region}
use Rattle.clip_regions.specs.Regions.{columns, rows}
use Rattle.rice_residuals.specs.Word.{IsWordOf}
use Rattle.store_model.specs.Blocks.{is_coded, coded_values, code_count, IsCoding}
use Rattle.block_heights.specs.Rows.{coded_columns, table_values, coded_before, cell_of, signed_cell, table_code, IsCodeRow}
use Rattle.block_heights.proofs.Cells.{table_code_at}

filter_of_map : {A : Type 0} (p : A → Bool) (h : ℕ → A) (xs : List ℕ) → filter p (map h xs) ≡ map h (filter (λ x. p (h x)) xs)
filter_of_map p h [] = refl
filter_of_map p h (x ∷ xs) =
    let rest = filter_of_map p h xs in
    elim (p (h x)) as (λ t. cond t (h x ∷ filter p (map h xs)) (filter p (map h xs)) ≡ map h (cond t (x ∷ filter (λ y. p (h y)) xs) (filter (λ y. p (h y)) xs))) [ true ↦ ap (λ (ys : List _). h x ∷ ys) rest | false ↦ rest ]

map_of_map : {A B : Type 0} (g : A → B) (h : ℕ → A) (xs : List ℕ) → map g (map h xs) ≡ map (λ x. g (h x)) xs
map_of_map g h [] = refl
map_of_map g h (x ∷ xs) = ap (λ (ys : List _). g (h x) ∷ ys) (map_of_map g h xs)

flat_of_map : {A B : Type 0} (f : A → List B) (h : ℕ → A) (xs : List ℕ) → flat_map f (map h xs) ≡ flat_map (λ x. f (h x)) xs
flat_of_map f h [] = refl
flat_of_map f h (x ∷ xs) = ap (λ (ys : List _). f (h x) ++ ys) (flat_of_map f h xs)

-- the codes of a region by its columns and rows
pub values_by_rows : (code : ℤ → ℤ → ℤ) (region : Region) → coded_values code region ≡ flat_map (λ b. map (λ a. code (region.x0 +ℤ pos a) (region.y0 +ℤ pos b)) (coded_columns region b (columns region))) (range_with_len 0 (rows region))
unfolding coded_values
values_by_rows code region =
    let across = λ (a : ℕ). region.x0 +ℤ pos a in
    let down = λ (b : ℕ). region.y0 +ℤ pos b in
    let row : (b : ℕ) → map (λ i. code i (down b)) (filter (λ i. is_coded i (down b)) (map across (range_with_len 0 (columns region)))) ≡ map (λ a. code (across a) (down b)) (coded_columns region b (columns region)) =
    λ b.
    ap (map (λ i. code i (down b))) (filter_of_map (λ i. is_coded i (down b)) across (range_with_len 0 (columns region)))
    ∙ map_of_map (λ i. code i (down b)) across (coded_columns region b (columns region)) in
    flat_of_map (λ j. map (λ i. code i j) (filter (λ i. is_coded i j) (map across (range_with_len 0 (columns region))))) down (range_with_len 0 (rows region))
    ∙ (λ t. flat_map (λ b. row b t) (range_with_len 0 (rows region)))

pub values_of_table : (region : Region) (table : List (List ℤ)) → coded_values (table_code region table) region ≡ table_values region (columns region) (rows region) table
values_of_table region table =
    values_by_rows (table_code region table) region
    ∙ (λ t. flat_map (λ b. map (λ a. table_code_at region table (region.x0 +ℤ pos a) (region.y0 +ℤ pos b) a b refl refl t) (coded_columns region b (columns region))) (range_with_len 0 (rows region)))

length_of_flat : (f : ℕ → ℕ → ℤ) (g : ℕ → List ℕ) (xs : List ℕ) → length (flat_map (λ b. map (f b) (g b)) xs) ≡ length (flat_map g xs)
length_of_flat f g [] = refl
length_of_flat f g (x ∷ xs) =
    omega (arith, length-append (map (f x) (g x)) (flat_map (λ b. map (f b) (g b)) xs), length-append (g x) (flat_map g xs), length-map (g x) (f x), length_of_flat f g xs)

pub count_is : (region : Region) → code_count region ≡ coded_before region (columns region) (rows region)
unfolding code_count
count_is region =
    ap length (values_by_rows (λ i j. pos 0) region) ∙ length_of_flat (λ b a. pos 0) (λ b. coded_columns region b (columns region)) (range_with_len 0 (rows region))

-- a table's code is 0 wherever it is so in its rows
cell_zero : (table : List (List ℤ)) (x y : ℤ) → ((a b : ℕ) → x ≡ pos a → y ≡ pos b → cell_of table a b ≡ pos 0) → signed_cell table x y ≡ pos 0
unfolding signed_cell
cell_zero table (pos a) (pos b) h = h a b refl refl
cell_zero table (pos a) (negsuc b) h = refl
cell_zero table (negsuc a) y h = refl

pub table_even : (region : Region) (table : List (List ℤ)) → ((b : ℕ) → IsCodeRow region b (get_or table b [])) → (i j : ℤ) → is_coded i j ≡ false → table_code region table i j ≡ pos 0
table_even region table even i j e =
    cell_zero table (i -ℤ region.x0) (j -ℤ region.y0)
    (λ a b p q.
    let column : i ≡ region.x0 +ℤ pos a = omega (arith, ints) in
    let row : j ≡ region.y0 +ℤ pos b = omega (arith, ints) in
    even b a (ap₂ is_coded (sym column) (sym row) ∙ e))

pub table_coding : (region : Region) (table : List (List ℤ)) (values : List ℤ) (bytes : List ℕ) (wide high : ℕ) → wide ≡ columns region → high ≡ rows region → IsWordOf values bytes → table_values region wide high table ≡ values → ((b : ℕ) → IsCodeRow region b (get_or table b [])) → IsCoding (table_code region table) region bytes
table_coding region table values bytes wide high e f word codes even = record {
  word =
      subst (λ (xs : List ℤ). IsWordOf xs bytes)
      (sym (values_of_table region table ∙ ap₂ (λ (m n : ℕ). table_values region m n table) (sym e) (sym f) ∙ codes))
      word;
  even = table_even region table even;
}
