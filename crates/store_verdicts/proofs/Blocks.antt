-- Any bytes of a block have heights, or a fault.
use Rattle.std.proofs.Common.{◌≡◌, ◌⊎◌, inl, inr, Bool, true, false, ℕ, zero, suc, ◌-◌, ◌*◌, ◌/◌, ◌<◌, ◌≤◌, ℤ, pos, negsuc, neg_ℤ, ◌+ℤ◌, ◌-ℤ◌, ◌≤ℤ◌, List, length, get_or, All, FitsSigned, refl, ap, sym, ◌∙◌, subst, ⊎_elim, arith}
use Rattle.std.specs.Int.{w16}
use Rattle.std.proofs.lemmas.Int.{ints}
use Rattle.std.proofs.lemmas.Bool.{cases_Bool, cases_lt, cases_eq, false≢true}
use Rattle.std.proofs.lemmas.List.Elements.{All-get_or}
use Rattle.std.proofs.lemmas.List.{get_or_past}
use lib.Signed.{le_z}
use Rattle.clip_regions.specs.declared.region.Region.{Region}
use Rattle.clip_regions.specs.Regions.{contains, area}
use Rattle.clip_regions.proofs.Cells.{tested_le, le_tested}
use Rattle.terrain_model.proofs.Heights.{raw_sample_fits}
use Rattle.four_point.specs.Steps.{value_of, IsNear}
use Rattle.four_point.proofs.StepLemmas.{brought_fits}
use Rattle.rice_residuals.specs.declared.fault.BlockFault.{BlockFault}
use Rattle.rice_residuals.specs.declared.fault.BlockFault.TheVariants.{CutShort, Excess}
use Rattle.block_heights.specs.Pieces.{AreNearUpTo, IsOutAt, within, plain_height, coded_height, column_of, row_of}
use Rattle.block_heights.specs.declared.block.PieceFault.TheVariants as piece
use Rattle.store_model.specs.Blocks.{code_count, plain_bytes, IsWordBlock}
use Rattle.store_model.specs.Faults.{HasBlockFault, HasValueOut}
use Rattle.store_reader.proofs.PlainLemmas.{plain_of}
use Rattle.store_reader.proofs.WordLemmas.{coded_of, coded_fault}
use Rattle.store_verdicts.specs.Laws.{IsSomeWord, HasSomeWordFault}
use Rattle.store_verdicts.proofs.Words.{any_word}
use Rattle.store_verdicts.proofs.Codes.{SomeCoding, coding_of}
use Rattle.store_verdicts.proofs.Pieces.{HasCells, cells_of, cells_length, cells_piece, like_piece, chosen_fits}

abbrev pub AreBytes : List ℕ → Type 0
AreBytes bytes = All (λ b. b < 256) bytes

pub small_at : (bytes : List ℕ) → AreBytes bytes → (i : ℕ) → get_or bytes i 0 < 256
small_at bytes all i =
    ⊎_elim
    (λ (h : i < length bytes). All-get_or (λ b. b < 256) bytes i 0 h all)
    (λ (past : length bytes ≤ i). rw (get_or_past bytes i 0 past) (omega arith))
    (cases_lt i (length bytes))

-- the bytes stand for the heights of a region, as they are or over the coarser ones
abbrev pub IsHeld : Bool → (ℤ → ℤ → ℤ) → (ℤ → ℤ → ℤ) → ℕ → Region → List ℕ → Type 0
IsHeld true coarser heights step r bytes = bytes ≡ plain_bytes heights r
IsHeld false coarser heights step r bytes = IsWordBlock coarser heights step r bytes

-- the bytes stand for heights of 16 bits, and for any that are the same in the region
pub record Decoded (plain : Bool) (coarser : ℤ → ℤ → ℤ) (step : ℕ) (r : Region) (bytes : List ℕ) : Type 0 where
  pub heights : ℤ → ℤ → ℤ
  pub fits : (i j : ℤ) → FitsSigned w16 (heights i j)
  pub held : (other : ℤ → ℤ → ℤ) → ((i j : ℤ) → contains r i j ≡ true → heights i j ≡ other i j) → IsHeld plain coarser other step r bytes

pub record IsBad (plain : Bool) (r : Region) (bytes : List ℕ) : Type 0 where
  pub fault : BlockFault
  pub has : HasBlockFault plain r bytes fault

pub record IsOut (plain : Bool) (coarser : ℤ → ℤ → ℤ) (step : ℕ) (r : Region) (bytes : List ℕ) : Type 0 where
  pub words : plain ≡ false
  pub i : ℕ
  pub j : ℕ
  pub value : ℤ
  pub out : HasValueOut coarser step r bytes (pos i) (pos j) value

abbrev pub DecodeVerdict : Bool → (ℤ → ℤ → ℤ) → ℕ → Region → List ℕ → Type 0
DecodeVerdict plain coarser step r bytes = Decoded plain coarser step r bytes ⊎ (IsBad plain r bytes ⊎ IsOut plain coarser step r bytes)

within_fits : (r : Region) (f : ℤ → ℤ → ℤ) → ((i j : ℤ) → FitsSigned w16 (f i j)) → (i j : ℤ) → FitsSigned w16 (within r f i j)
unfolding within
within_fits r f fits i j = chosen_fits (contains r i j) (f i j) (fits i j)

-- ---- heights as they are
plain_fits : (bytes : List ℕ) (r : Region) → AreBytes bytes → (i j : ℤ) → FitsSigned w16 (plain_height bytes r i j)
unfolding plain_height
plain_fits bytes r all i j = raw_sample_fits bytes _ all

plain_verdict : (coarser : ℤ → ℤ → ℤ) (step : ℕ) (r : Region) (bytes : List ℕ) → HasCells r → AreBytes bytes → DecodeVerdict true coarser step r bytes
plain_verdict coarser step r bytes some all =
    ⊎_elim
    (λ (few : length bytes < 2 * area r). inr (inl (record { fault = CutShort (8 * length bytes); has = (refl, few) })))
    (λ (enough : 2 * area r ≤ length bytes).
    ⊎_elim
    (λ (whole : length bytes ≡ 2 * area r).
    let f = within r (plain_height bytes r) in
    inl (record {
      heights = f;
      fits = within_fits r (plain_height bytes r) (plain_fits bytes r all);
      held = λ other same. plain_of bytes (small_at bytes all) r (cells_of f r) some.across some.down (cells_length f r) whole (cells_piece f r) other (like_piece f other r some same);
    }))
    (λ (other : length bytes ≡ 2 * area r → ⊥).
    inr (inl (record { fault = Excess (length bytes - 2 * area r); has = (omega (arith, other), omega arith) })))
    (cases_eq (length bytes) (2 * area r)))
    (cases_lt (length bytes) (2 * area r))

-- ---- words
le_or_not : (a b : ℤ) → (a ≤ℤ b) ⊎ (a ≤ℤ b → ⊥)
le_or_not a b =
    ⊎_elim
    (λ (e : le_z a b ≡ true). inl (tested_le a b e))
    (λ (e : le_z a b ≡ false). inr (λ h. false≢true (sym e ∙ le_tested a b h)))
    (cases_Bool (le_z a b))

near_or_far : (step : ℕ) (value : ℤ) → IsNear step value ⊎ (IsNear step value → ⊥)
near_or_far step value =
    ⊎_elim
    (λ low.
    ⊎_elim
    (λ high. inl (record { low = low; high = high }))
    (λ no. inr (λ near. no near.high))
    (le_or_not value (pos 32767 +ℤ pos ((step - 1) / 2))))
    (λ no. inr (λ near. no near.low))
    (le_or_not (neg_ℤ (pos 32768) -ℤ pos ((step - 1) / 2)) value)

record FirstOut (n : ℕ) (coarser : ℤ → ℤ → ℤ) (step : ℕ) (code : ℤ → ℤ → ℤ) (r : Region) : Type 0 where
  i : ℤ
  j : ℤ
  value : ℤ
  k : ℕ
  below : k < n
  at : IsOutAt k coarser step code r r i j value

module _ (coarser : ℤ → ℤ → ℤ) (step : ℕ) (code : ℤ → ℤ → ℤ) (r : Region) where
  value_at : ℕ → ℤ
  value_at k = value_of coarser step (column_of r k) (row_of r k) (code (column_of r k) (row_of r k))

  one_near : (n : ℕ) → AreNearUpTo n coarser step code r r → (contains r (column_of r n) (row_of r n) ≡ true → IsNear step (value_of coarser step (column_of r n) (row_of r n) (code (column_of r n) (row_of r n)))) → AreNearUpTo (suc n) coarser step code r r
  one_near n near here k h inside =
      ⊎_elim
      (λ (e : k ≡ n).
      subst (λ (m : ℕ). IsNear step (value_of coarser step (column_of r m) (row_of r m) (code (column_of r m) (row_of r m)))) (sym e)
      (here (ap (λ (m : ℕ). contains r (column_of r m) (row_of r m)) (sym e) ∙ inside)))
      (λ (other : k ≡ n → ⊥). near k (omega (arith, other)) inside)
      (cases_eq k n)

  near_or_out : (n : ℕ) → AreNearUpTo n coarser step code r r ⊎ FirstOut n coarser step code r
  near_or_out zero = inl (λ k h inside. absurd (omega arith))
  near_or_out (suc n) =
      ⊎_elim
      (λ (near : AreNearUpTo n coarser step code r r).
      let i = column_of r n in
      let j = row_of r n in
      ⊎_elim
      (λ (inside : contains r i j ≡ true).
      ⊎_elim
      (λ (here : IsNear step (value_of coarser step i j (code i j))). inl (one_near n near (λ e. here)))
      (λ (far : IsNear step (value_of coarser step i j (code i j)) → ⊥).
      inr (record {
        i = i;
        j = j;
        value = value_of coarser step i j (code i j);
        k = n;
        below = omega arith;
        at = record { column = refl; row = refl; within_block = inside; value_is = refl; far = far; first = near };
      }))
      (near_or_far step (value_of coarser step i j (code i j))))
      (λ (outside : contains r i j ≡ false). inl (one_near n near (λ e. absurd (false≢true (sym outside ∙ e)))))
      (cases_Bool (contains r i j)))
      (λ (out : FirstOut n coarser step code r).
      let below = out.below in
      inr (record { i = out.i; j = out.j; value = out.value; k = out.k; below = omega arith; at = out.at }))
      (near_or_out n)

-- a value out of range, by the numbers of its cell
record OutAt (coarser : ℤ → ℤ → ℤ) (step : ℕ) (r : Region) (bytes : List ℕ) (value : ℤ) : Type 0 where
  column : ℕ
  row : ℕ
  out : HasValueOut coarser step r bytes (pos column) (pos row) value

numbers_of : (coarser : ℤ → ℤ → ℤ) (step : ℕ) (r : Region) (bytes : List ℕ) (i j value : ℤ) → HasValueOut coarser step r bytes i j value → pos 0 ≤ℤ i → pos 0 ≤ℤ j → OutAt coarser step r bytes value
numbers_of coarser step r bytes (pos i) (pos j) value out a b = record { column = i; row = j; out = out }
numbers_of coarser step r bytes (pos i) (negsuc j) value out a b = absurd (omega (arith, ints))
numbers_of coarser step r bytes (negsuc i) j value out a b = absurd (omega (arith, ints))

coded_verdict : (coarser : ℤ → ℤ → ℤ) (step : ℕ) (r : Region) (bytes : List ℕ) → SomeCoding r bytes → HasCells r → DecodeVerdict false coarser step r bytes
coded_verdict coarser step r bytes c some =
    let f = within r (coded_height coarser step c.code) in
    let size = cells_length f r in
    ⊎_elim
    (λ (near : AreNearUpTo (area r) coarser step c.code r r).
    inl (record {
      heights = f;
      fits = within_fits r (coded_height coarser step c.code) (λ i j. brought_fits (value_of coarser step i j (c.code i j)));
      held = λ other same.
          coded_of coarser coarser step r bytes (cells_of f r) size (λ i j h. refl)
          (record {
            code = c.code;
            coding = c.coding;
            near = subst (λ (n : ℕ). AreNearUpTo n coarser step c.code r r) (sym size) near;
            heights = cells_piece f r;
          })
          other (like_piece f other r some same);
    }))
    (λ (o : FirstOut (area r) coarser step c.code r).
    let fault = coded_fault coarser coarser step r bytes (area r) (piece.OutOfRange o.i o.j o.value) some.west some.north (λ i j h. refl)
    (record { code = c.code; coding = c.coding; out = (o.k, o.below, o.at) }) in
    let at = numbers_of coarser step r bytes o.i o.j o.value fault.0 fault.1 fault.2 in
    inr (inr (record { words = refl; i = at.column; j = at.row; value = o.value; out = at.out })))
    (near_or_out coarser step c.code r (area r))

pub decode_verdict : (plain : Bool) (coarser : ℤ → ℤ → ℤ) (step : ℕ) (r : Region) (bytes : List ℕ) → HasCells r → AreBytes bytes → DecodeVerdict plain coarser step r bytes
decode_verdict true coarser step r bytes some all = plain_verdict coarser step r bytes some all
decode_verdict false coarser step r bytes some all =
    ⊎_elim
    (λ (w : IsSomeWord (code_count r) bytes). coded_verdict coarser step r bytes (coding_of r w.residuals bytes w.all w.word) some)
    (λ (f : HasSomeWordFault (code_count r) bytes). inr (inl (record { fault = f.fault; has = f.first })))
    (any_word (code_count r) bytes)
