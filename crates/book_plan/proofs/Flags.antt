-- The bits of slots say which pieces are finished.
use Rattle.std.proofs.Common.{◌≡◌, ℕ, zero, suc, ◌<◌, Bool, true, false, not, ◌||◌, ◌&&◌, List, [], ◌∷◌, map, filter, length, cond, get_or, refl, ap, sym, ◌∙◌, inl, inr, arith}
use Rattle.std.specs.List.{list_any}
use Rattle.std.proofs.lemmas.List.{get_or_default}
use Rattle.std.proofs.lemmas.Bool.{cases_Bool, cases_lt, cases_eq, true≢false}
use mathlib.Core.Path.{ap₂}
use Rattle.plan_model.specs.Blocks.{same_block}
use Rattle.plan_model.specs.Claims.{is_finished}
use Rattle.plan_model.specs.declared.tiles.Piece.{Piece}
use Rattle.book_plan.specs.declared.slots.Slot.{Slot}
use Rattle.book_plan.specs.Slots.{is_open, all_pieces, finished_pieces, open_pieces, marked_slot, HaveDifferentBlocks}
use Rattle.book_plan.proofs.Blocks.{block_itself, other_back}
use Rattle.book_plan.proofs.Marks.{apart}

-- what a test finds among the finished pieces
any_more : (test : Piece → Bool) (slot : Slot) (rest : List Slot) → list_any test (finished_pieces (slot ∷ rest)) ≡ ((slot.finished && test slot.piece) || list_any test (finished_pieces rest))
any_more test slot rest =
    elim (cases_Bool slot.finished) [
      | inl e ↦
          ap (λ (b : Bool). list_any test (map (λ (s : Slot). s.piece) (cond b (slot ∷ filter (λ (s : Slot). s.finished) rest) (filter (λ (s : Slot). s.finished) rest)))) e ∙ ap (λ (b : Bool). (b && test slot.piece) || list_any test (finished_pieces rest)) (sym e)
      | inr e ↦
          ap (λ (b : Bool). list_any test (map (λ (s : Slot). s.piece) (cond b (slot ∷ filter (λ (s : Slot). s.finished) rest) (filter (λ (s : Slot). s.finished) rest)))) e ∙ ap (λ (b : Bool). (b && test slot.piece) || list_any test (finished_pieces rest)) (sym e)
    ]

or_none : (a b : Bool) → a ≡ false → b ≡ false → (a || b) ≡ false
or_none a b e g = ap₂ (λ (x y : Bool). x || y) e g

or_one : (a b : Bool) → a ≡ true → (a || b) ≡ true
or_one a b e = ap (λ (x : Bool). x || b) e

or_other : (a b : Bool) → b ≡ true → (a || b) ≡ true
or_other true b e = refl
or_other false b e = e

and_none : (a b : Bool) → (a ≡ true → b ≡ false) → (a && b) ≡ false
and_none true b h = h refl
and_none false b h = refl

none_found : (test : Piece → Bool) (slots : List Slot) → ((m : ℕ) (d : Slot) → m < length slots → (get_or slots m d).finished ≡ true → test (get_or slots m d).piece ≡ false) → list_any test (finished_pieces slots) ≡ false
none_found test [] h = refl
none_found test (slot ∷ rest) h =
    any_more test slot rest ∙ or_none (slot.finished && test slot.piece) (list_any test (finished_pieces rest)) (and_none slot.finished (test slot.piece) (h 0 slot (omega arith))) (none_found test rest (λ m d b. h (suc m) d (omega arith)))

some_found : (test : Piece → Bool) (slots : List Slot) (n : ℕ) (d : Slot) → n < length slots → (get_or slots n d).finished ≡ true → test (get_or slots n d).piece ≡ true → list_any test (finished_pieces slots) ≡ true
some_found test [] n d b e t = absurd (omega arith)
some_found test (slot ∷ rest) zero d b e t =
    any_more test slot rest ∙ or_one (slot.finished && test slot.piece) (list_any test (finished_pieces rest)) (ap₂ (λ (x y : Bool). x && y) e t)
some_found test (slot ∷ rest) (suc n) d b e t =
    any_more test slot rest ∙ or_other (slot.finished && test slot.piece) (list_any test (finished_pieces rest)) (some_found test rest n d (omega arith) e t)

-- a piece is found finished exactly where its bit is set
pub flagged : (slots : List Slot) → HaveDifferentBlocks slots → (n : ℕ) (d : Slot) → n < length slots → is_finished (finished_pieces slots) (get_or slots n d).piece ≡ (get_or slots n d).finished
unfolding is_finished
flagged slots blocks n d inside =
    elim (cases_Bool (get_or slots n d).finished) [
      | inl e ↦
          some_found (same_block (get_or slots n d).piece) slots n d inside e (block_itself (get_or slots n d).piece (get_or slots n d).piece refl refl) ∙ sym e
      | inr e ↦
          none_found (same_block (get_or slots n d).piece) slots
          (λ m c b t.
          let same : get_or slots m c ≡ get_or slots m d = get_or_default slots m c d b in
          let there : (get_or slots m d).finished ≡ true = ap (λ (s : Slot). s.finished) (sym same) ∙ t in
          ap (λ (s : Slot). same_block (get_or slots n d).piece s.piece) same ∙ elim (cases_eq m n) [
            | inl i ↦ absurd (true≢false (sym there ∙ ap (λ (j : ℕ). (get_or slots j d).finished) i ∙ e))
            | inr other ↦ elim (cases_lt m n) [
              | inl before ↦ other_back (get_or slots m d).piece (get_or slots n d).piece (apart slots m n d blocks before inside)
              | inr after ↦ apart slots n m d blocks (omega (arith, after, other)) b
            ]
          ])
          ∙ sym e
    ]

mapped_cond : (b : Bool) (slot : Slot) (rest : List Slot) → cond b (slot.piece ∷ map (λ s. s.piece) rest) (map (λ s. s.piece) rest) ≡ map (λ s. s.piece) (cond b (slot ∷ rest) rest)
mapped_cond true slot rest = refl
mapped_cond false slot rest = refl

-- a filter of the pieces, by what it says of each slot
pub by_slots : (f : Piece → Bool) (g : Slot → Bool) (slots : List Slot) → ((n : ℕ) (d : Slot) → n < length slots → f (get_or slots n d).piece ≡ g (get_or slots n d)) → filter f (all_pieces slots) ≡ map (λ slot. slot.piece) (filter g slots)
by_slots f g [] h = refl
by_slots f g (slot ∷ rest) h =
    ap₂ (λ (b : Bool) (ps : List Piece). cond b (slot.piece ∷ ps) ps) (h 0 slot (omega arith)) (by_slots f g rest (λ n d b. h (suc n) d (omega arith))) ∙ mapped_cond (g slot) slot (filter g rest)

-- the unfinished pieces are those of the open slots
pub open_are : (slots : List Slot) → HaveDifferentBlocks slots → filter (λ piece. not (is_finished (finished_pieces slots) piece)) (all_pieces slots) ≡ open_pieces slots
open_are slots blocks =
    by_slots (λ piece. not (is_finished (finished_pieces slots) piece)) is_open slots (λ n d b. ap not (flagged slots blocks n d b))

-- the finished pieces with one more
marks_filtered : (q : Piece) (slots : List Slot) → map (λ slot. slot.piece) (filter (λ slot. same_block slot.piece q || slot.finished) slots) ≡ finished_pieces (map (marked_slot q) slots)
marks_filtered q [] = refl
marks_filtered q (slot ∷ rest) =
    sym (mapped_cond (same_block slot.piece q || slot.finished) slot (filter (λ s. same_block s.piece q || s.finished) rest)) ∙ ap (λ (ps : List Piece). cond (same_block slot.piece q || slot.finished) (slot.piece ∷ ps) ps) (marks_filtered q rest) ∙ mapped_cond (same_block slot.piece q || slot.finished) (marked_slot q slot) (filter (λ s. s.finished) (map (marked_slot q) rest))

pub marks_are : (q : Piece) (slots : List Slot) → HaveDifferentBlocks slots → filter (λ other. same_block other q || is_finished (finished_pieces slots) other) (all_pieces slots) ≡ finished_pieces (map (marked_slot q) slots)
marks_are q slots blocks =
    by_slots (λ other. same_block other q || is_finished (finished_pieces slots) other) (λ slot. same_block slot.piece q || slot.finished) slots (λ n d b. ap (λ (x : Bool). same_block (get_or slots n d).piece q || x) (flagged slots blocks n d b))
    ∙ marks_filtered q slots
