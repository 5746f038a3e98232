-- The heights of a block as bytes, one more at a time.
use Rattle.std.proofs.Common.{◌≡◌, ℕ, zero, suc, ◌+◌, ◌-◌, ◌*◌, ◌/◌, ◌%◌, ◌<◌, ◌≤◌, List, [], ◌∷◌, ◌++◌, length, ℤ, pos, negsuc, ◌+ℤ◌, refl, ap, sym, ◌∙◌, arith, append-nil, length-append}
use Rattle.std.specs.List.{flat_map}
use Rattle.std.specs.Int.{w16, to_be_bytes}
use mir.Val.{SFits, of_z}
use mathlib.Core.Path.{ap₂}
use Rattle.std.proofs.lemmas.List.Concat.{flat_map-append}
use Rattle.clip_regions.specs.declared.region.Region.{Region}
use Rattle.clip_regions.specs.Regions.{columns, rows, numbers_from}
use Rattle.store_model.specs.Blocks.{signed_bytes, plain_bytes}
use Rattle.store_writer.specs.declared.cells.Cells.{Cells}
use Rattle.store_writer.specs.Entries.{row_heights, rows_heights}
use Rattle.store_writer.specs.Cells.{region_of}
use Rattle.store_writer.proofs.Rows.{numbers_more}
use Rattle.store_writer.proofs.Blocks.{columns_of, rows_of}

flat_numbers_more : (f : ℤ → List ℕ) (first : ℤ) (n : ℕ) → flat_map f (numbers_from first (n + 1)) ≡ flat_map f (numbers_from first n) ++ f (first +ℤ pos n)
flat_numbers_more f first n =
    ap (flat_map f) (numbers_more first n)
    ∙ flat_map-append f (numbers_from first n) ((first +ℤ pos n) ∷ [])
    ∙ ap (λ (ys : List ℕ). flat_map f (numbers_from first n) ++ ys) (append-nil (f (first +ℤ pos n)))

pub row_more : (heights : ℤ → ℤ → ℤ) (first j : ℤ) (n : ℕ) → row_heights heights first j (n + 1) ≡ row_heights heights first j n ++ signed_bytes (heights (first +ℤ pos n) j)
unfolding row_heights
row_more heights first j n = flat_numbers_more (λ i. signed_bytes (heights i j)) first n

pub row_none : (heights : ℤ → ℤ → ℤ) (first j : ℤ) → row_heights heights first j 0 ≡ []
unfolding row_heights
row_none heights first j = refl

pub rows_more : (heights : ℤ → ℤ → ℤ) (cells : Cells) (n : ℕ) → 1 ≤ cells.columns → rows_heights heights (region_of cells) (n + 1) ≡ rows_heights heights (region_of cells) n ++ row_heights heights (pos cells.x0) (pos (cells.y0 + n)) cells.columns
unfolding rows_heights region_of
rows_more heights cells n some =
    flat_numbers_more (λ j. row_heights heights (pos cells.x0) j (columns (region_of cells))) (pos cells.y0) n
    ∙ ap (λ (w : ℕ). flat_map (λ j. row_heights heights (pos cells.x0) j (columns (region_of cells))) (numbers_from (pos cells.y0) n) ++ row_heights heights (pos cells.x0) (pos (cells.y0 + n)) w) (columns_of cells some)

pub rows_none : (heights : ℤ → ℤ → ℤ) (region : Region) → rows_heights heights region 0 ≡ []
unfolding rows_heights
rows_none heights region = refl

pub rows_all : (heights : ℤ → ℤ → ℤ) (region : Region) → rows_heights heights region (rows region) ≡ plain_bytes heights region
unfolding rows_heights row_heights plain_bytes
rows_all heights region = refl

two_bytes : (h : ℤ) → length (signed_bytes h) ≡ 2
unfolding signed_bytes
two_bytes (pos n) = refl
two_bytes (negsuc n) = refl

row_length : (heights : ℤ → ℤ → ℤ) (first j : ℤ) (n : ℕ) → length (row_heights heights first j n) ≡ 2 * n
row_length heights first j zero = ap length (row_none heights first j)
row_length heights first j (suc n) =
    let one : suc n ≡ n + 1 = omega arith in
    let before = row_length heights first j n in
    let here = two_bytes (heights (first +ℤ pos n) j) in
    let split = length-append (row_heights heights first j n) (signed_bytes (heights (first +ℤ pos n) j)) in
    ap (λ (m : ℕ). length (row_heights heights first j m)) one ∙ ap length (row_more heights first j n) ∙ omega arith

rows_length : (heights : ℤ → ℤ → ℤ) (cells : Cells) (n : ℕ) → 1 ≤ cells.columns → length (rows_heights heights (region_of cells) n) ≡ 2 * (cells.columns * n)
rows_length heights cells zero some = ap length (rows_none heights (region_of cells)) ∙ omega arith
rows_length heights cells (suc n) some =
    let one : suc n ≡ n + 1 = omega arith in
    let before = rows_length heights cells n some in
    let here = row_length heights (pos cells.x0) (pos (cells.y0 + n)) cells.columns in
    let split = length-append (rows_heights heights (region_of cells) n) (row_heights heights (pos cells.x0) (pos (cells.y0 + n)) cells.columns) in
    ap (λ (m : ℕ). length (rows_heights heights (region_of cells) m)) one ∙ ap length (rows_more heights cells n some) ∙ omega arith

pub plain_length : (heights : ℤ → ℤ → ℤ) (cells : Cells) → 1 ≤ cells.columns → 1 ≤ cells.rows → length (plain_bytes heights (region_of cells)) ≡ 2 * (cells.columns * cells.rows)
plain_length heights cells some high =
    ap length (sym (rows_all heights (region_of cells)))
    ∙ ap (λ (m : ℕ). length (rows_heights heights (region_of cells) m)) (rows_of cells high)
    ∙ rows_length heights cells cells.rows some

pub bytes_are : (h : ℤ) → SFits w16 h → to_be_bytes w16 (of_z w16 h) ≡ signed_bytes h
unfolding signed_bytes
bytes_are (pos n) fits =
    let size : n < 32768 = fits.sfits in
    let high : n / 256 % 256 ≡ n / 256 = omega arith in
    ap (λ (x : ℕ). x ∷ (n % 256) ∷ []) high
bytes_are (negsuc n) fits =
    let size : n < 32768 = fits.sfits in
    let high : (65536 - suc n) / 256 % 256 ≡ 255 - n / 256 = omega arith in
    let low : (65536 - suc n) % 256 ≡ 255 - n % 256 = omega arith in
    ap₂ (λ (x y : ℕ). x ∷ y ∷ []) high low
