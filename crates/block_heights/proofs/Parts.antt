-- Parts of blocks, and what a block's judgement is made of.
use Rattle.std.proofs.Common.{◌≡◌, ◌⊎◌, inl, inr, Bool, true, false, ◌||◌, ℕ, ◌*◌, ◌<◌, ◌↔◌, ℤ, pos, ◌+ℤ◌, List, Result, Ok, Err, OnOk, refl, ap, ◌∙◌, ⊎_elim, arith}
use Rattle.std.proofs.lemmas.Int.{ints}
use Rattle.std.specs.Int.{int_gap}
use lib.Signed.{lt_z}
use Rattle.clip_regions.specs.declared.region.Region.{Region}
use Rattle.clip_regions.specs.Regions.{is_empty, area, columns, rows}
use Rattle.four_point.specs.declared.patch.Patch.{Patch}
use Rattle.rice_residuals.specs.Faults.{HasFault}
use Rattle.rice_residuals.specs.declared.residuals.Residuals.{Residuals}
use Rattle.rice_residuals.specs.declared.fault.BlockFault.{BlockFault}
use Rattle.rice_residuals.specs.declared.fault.BlockFault.TheVariants as word
use Rattle.store_model.specs.Blocks.{IsCoding}
use Rattle.block_heights.specs.declared.block.PieceFault.{PieceFault}
use Rattle.block_heights.specs.declared.block.PieceFault.TheVariants.{BadBlock, OutOfRange}
use Rattle.block_heights.specs.Pieces.{IsSmall, IsInPatch, HasOut}
use Rattle.block_heights.specs.Decoded.{IsPartOf, IsPart, IsNearZero, IsPatchOf, HasWordFault}
use Rattle.clip_regions.proofs.Gaps.{gap_none}
use Rattle.clip_regions.proofs.Cells.{tested_lt}

pub area_is : (r : Region) → area r ≡ columns r * rows r
unfolding area
area_is r = refl

either : (a b : Bool) → (a || b) ≡ true → (a ≡ true) ⊎ (b ≡ true)
either true b e = inl refl
either false b e = inr e

pub none_empty : (r : Region) → is_empty r ≡ true → columns r * rows r ≡ 0
unfolding is_empty columns rows
none_empty r e =
    ⊎_elim
    (λ (h : lt_z r.x1 r.x0 ≡ true).
    let l = tested_lt r.x1 r.x0 h in
    let none : int_gap r.x0 (r.x1 +ℤ pos 1) ≡ 0 = gap_none r.x0 (r.x1 +ℤ pos 1) (omega (arith, ints)) in
    ap (λ (n : ℕ). n * int_gap r.y0 (r.y1 +ℤ pos 1)) none ∙ omega arith)
    (λ (h : lt_z r.y1 r.y0 ≡ true).
    let l = tested_lt r.y1 r.y0 h in
    let none : int_gap r.y0 (r.y1 +ℤ pos 1) ≡ 0 = gap_none r.y0 (r.y1 +ℤ pos 1) (omega (arith, ints)) in
    ap (λ (n : ℕ). int_gap r.x0 (r.x1 +ℤ pos 1) * n) none ∙ omega arith)
    (either (lt_z r.x1 r.x0) (lt_z r.y1 r.y0) e)

pub small_of_part : (bx by : ℤ) (region : Region) → IsNearZero bx by → IsPartOf bx by region → IsSmall region
small_of_part bx by region near part =
    let nw = near.west in
    let ne = near.east in
    let nn = near.north in
    let ns = near.south in
    let w = part.west in
    let a = part.across in
    let e = part.east in
    let n = part.north in
    let d = part.down in
    let s = part.south in
    record {
      placed = record { x0_low = omega (arith, ints); x0_high = omega (arith, ints); y0_low = omega (arith, ints); y0_high = omega (arith, ints); x1_low = omega (arith, ints); x1_high = omega (arith, ints); y1_low = omega (arith, ints); y1_high = omega (arith, ints) };
      some_columns = a;
      few_columns = omega (arith, ints);
      some_rows = d;
      few_rows = omega (arith, ints);
    }

pub small_of_cells : (bx by : ℤ) (region : Region) (n : ℕ) → IsNearZero bx by → IsPart bx by region → n ≡ area region → 0 < n → IsSmall region
small_of_cells bx by region n near part places some =
    ⊎_elim
    (λ (e : is_empty region ≡ true). absurd (omega (arith, none_empty region e, area_is region, places)))
    (λ (p : IsPartOf bx by region). small_of_part bx by region near p)
    part

pub patch_of_part : (bx by : ℤ) (region : Region) (patch : Patch) → IsPartOf bx by region → IsPatchOf bx by patch → IsInPatch patch region
patch_of_part bx by region patch part p =
    let column = p.column in
    let row = p.row in
    let w = part.west in
    let a = part.across in
    let e = part.east in
    let n = part.north in
    let d = part.down in
    let s = part.south in
    record {
      first_column = record { low = omega (arith, ints); high = omega (arith, ints) };
      last_column = record { low = omega (arith, ints); high = omega (arith, ints) };
      first_row = record { low = omega (arith, ints); high = omega (arith, ints) };
      last_row = record { low = omega (arith, ints); high = omega (arith, ints) };
    }

pub on_ok_both : {T E : Type 0} (P Q R : Type 0) (r : Result T E) → (P → Q → R) → OnOk r P → OnOk r Q → OnOk r R
on_ok_both P Q R (Ok x) f p q = f p q
on_ok_both P Q R (Err e) f p q = tt

pub word_fault : (count : ℕ) (bytes : List ℕ) (r : Result Residuals BlockFault) (fault : BlockFault) → r ≡ Err fault
    → ((bit : ℕ) → (r ≡ Err (word.CutShort bit)) ↔ HasFault count bytes (word.CutShort bit))
    → ((bit : ℕ) → (r ≡ Err (word.LongForm bit)) ↔ HasFault count bytes (word.LongForm bit))
    → ((bit : ℕ) → (r ≡ Err (word.TooWide bit)) ↔ HasFault count bytes (word.TooWide bit))
    → ((bit : ℕ) → (r ≡ Err (word.BadPadding bit)) ↔ HasFault count bytes (word.BadPadding bit))
    → ((n : ℕ) → (r ≡ Err (word.Excess n)) ↔ HasFault count bytes (word.Excess n))
    → HasFault count bytes fault
word_fault count bytes r (word.CutShort bit) e cut long wide padding excess = (cut bit).0 e
word_fault count bytes r (word.LongForm bit) e cut long wide padding excess = (long bit).0 e
word_fault count bytes r (word.TooWide bit) e cut long wide padding excess = (wide bit).0 e
word_fault count bytes r (word.BadPadding bit) e cut long wide padding excess = (padding bit).0 e
word_fault count bytes r (word.Excess n) e cut long wide padding excess = (excess n).0 e

pub out_is_fault : (coarser : ℤ → ℤ → ℤ) (step : ℕ) (code : ℤ → ℤ → ℤ) (inside cells : Region) (bytes : List ℕ) (n : ℕ) (fault : PieceFault) → IsCoding code inside bytes → HasOut coarser step code inside cells n fault → HasWordFault coarser step inside cells bytes n fault
out_is_fault coarser step code inside cells bytes n (BadBlock fault) coding out = absurd out
out_is_fault coarser step code inside cells bytes n (OutOfRange i j value) coding out = record { code = code; coding = coding; out = out }
