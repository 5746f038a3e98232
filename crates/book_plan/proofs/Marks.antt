-- A slot that is marked finished.
use Rattle.std.proofs.Common.{◌≡◌, ℕ, ◌<◌, ◌≤◌, Bool, true, false, ◌||◌, List, map, length, get_or, set, refl, ap, sym, ◌∙◌, inl, inr, arith, get_or-set_same, get_or-set_other}
use Rattle.std.proofs.lemmas.List.{same_lists, get_or-map, length-map, length-set}
use Rattle.std.proofs.lemmas.Bool.{cases_lt, cases_eq}
use Rattle.plan_model.specs.Blocks.{same_block}
use Rattle.plan_model.specs.declared.tiles.Piece.{Piece}
use Rattle.book_plan.specs.declared.slots.Slot.{Slot}
use Rattle.book_plan.proofs.Blocks.{other_block}
use Rattle.book_plan.specs.Slots.{marked_slot, HaveDifferentBlocks, IsFirstOfBlock, all_pieces}

-- a slot of another block is left as it was, and so is a finished one
other_left : (piece : Piece) (slot : Slot) → same_block slot.piece piece ≡ false → slot ≡ marked_slot piece slot
other_left piece slot e = ap (λ (b : Bool). let s : Slot = record { piece = slot.piece; finished = b || slot.finished } in s) (sym e)

or_true : (b : Bool) → (b || true) ≡ true
or_true true = refl
or_true false = refl

finished_left : (piece : Piece) (slot : Slot) → slot.finished ≡ true → slot ≡ marked_slot piece slot
finished_left piece slot e =
    ap (λ (b : Bool). let s : Slot = record { piece = slot.piece; finished = b } in s) (e ∙ sym (or_true (same_block slot.piece piece)) ∙ ap (λ (b : Bool). same_block slot.piece piece || b) (sym e))

this_marked : (piece : Piece) (slot : Slot) → same_block slot.piece piece ≡ true → record slot { finished = true } ≡ marked_slot piece slot
this_marked piece slot e = ap (λ (b : Bool). let s : Slot = record { piece = slot.piece; finished = b || slot.finished } in s) (sym e)

-- the blocks of two slots differ
pub apart : (slots : List Slot) (m n : ℕ) (d : Slot) → HaveDifferentBlocks slots → m < n → n < length slots → same_block (get_or slots m d).piece (get_or slots n d).piece ≡ false
apart slots m n d h before inside =
    let there : n < length (all_pieces slots) = omega (arith, length-map slots (λ (s : Slot). s.piece)) in
    let e : (i : ℕ) → i < length slots → get_or (all_pieces slots) i d.piece ≡ (get_or slots i d).piece = λ i b. get_or-map (λ (s : Slot). s.piece) slots i d d.piece b in
    ap (λ (p : Piece). same_block p (get_or slots n d).piece) (sym (e m (omega arith))) ∙ ap (λ (p : Piece). same_block (get_or (all_pieces slots) m d.piece) p) (sym (e n inside)) ∙ h m n d.piece before there

-- a slot before the first of the block is left
earlier_left : (slots : List Slot) (from n : ℕ) (piece : Piece) → IsFirstOfBlock slots from piece n → ((m : ℕ) (d : Slot) → m < from → (get_or slots m d).finished ≡ true) → (k : ℕ) (d : Slot) → k < n → get_or slots k d ≡ marked_slot piece (get_or slots k d)
earlier_left slots from n piece found finished k d before =
    elim (cases_lt k from) [
      | inl low ↦ finished_left piece (get_or slots k d) (finished k d low)
      | inr high ↦ other_left piece (get_or slots k d) (found.before k d high before)
    ]

-- each slot after one more piece is marked, where the first slot of its block is n
each_marked : (slots : List Slot) (from n : ℕ) (piece : Piece) (new : Slot) → HaveDifferentBlocks slots → IsFirstOfBlock slots from piece n → ((m : ℕ) (d : Slot) → m < from → (get_or slots m d).finished ≡ true) → n < length slots → ((d : Slot) → new ≡ record (get_or slots n d) { finished = true }) → (k : ℕ) (d : Slot) → k < length slots → get_or (set slots n new) k d ≡ marked_slot piece (get_or slots k d)
each_marked slots from n piece new blocks found finished there is k d inside =
    elim (cases_eq k n) [
      | inl e ↦
          ap (λ (i : ℕ). get_or (set slots n new) i d) e ∙ get_or-set_same slots n new d there ∙ is d ∙ this_marked piece (get_or slots n d) (found.this d there) ∙ ap (λ (i : ℕ). marked_slot piece (get_or slots i d)) (sym e)
      | inr other ↦
          get_or-set_other slots n k new d other ∙ elim (cases_lt k n) [
            | inl before ↦ earlier_left slots from n piece found finished k d before
            | inr after ↦
                other_left piece (get_or slots k d) (other_block piece (get_or slots n d).piece (get_or slots k d).piece (found.this d there) (apart slots n k d blocks (omega (arith, after, other)) inside))
          ]
    ]

-- so all slots are
pub all_marked : (slots : List Slot) (from n : ℕ) (piece : Piece) (new : Slot) → HaveDifferentBlocks slots → IsFirstOfBlock slots from piece n → ((m : ℕ) (d : Slot) → m < from → (get_or slots m d).finished ≡ true) → n < length slots → ((d : Slot) → new ≡ record (get_or slots n d) { finished = true }) → set slots n new ≡ map (marked_slot piece) slots
all_marked slots from n piece new blocks found finished there is =
    same_lists (set slots n new) (map (marked_slot piece) slots) (length-set slots n new ∙ sym (length-map slots (marked_slot piece)))
    (λ k d b.
    let inside : k < length slots = omega (arith, length-set slots n new) in
    each_marked slots from n piece new blocks found finished there is k d inside ∙ sym (get_or-map (marked_slot piece) slots k d d inside))

pub none_marked : (slots : List Slot) (from n : ℕ) (piece : Piece) → IsFirstOfBlock slots from piece n → ((m : ℕ) (d : Slot) → m < from → (get_or slots m d).finished ≡ true) → length slots ≤ n → slots ≡ map (marked_slot piece) slots
none_marked slots from n piece found finished past =
    same_lists slots (map (marked_slot piece) slots) (sym (length-map slots (marked_slot piece)))
    (λ k d b.
    earlier_left slots from n piece found finished k d (omega arith) ∙ sym (get_or-map (marked_slot piece) slots k d d b))

-- what was finished still is
pub mark_kept : (piece : Piece) (slots new : List Slot) (m : ℕ) (d : Slot) → new ≡ map (marked_slot piece) slots → m < length slots → (get_or slots m d).finished ≡ true → (get_or new m d).finished ≡ true
mark_kept piece slots new m d e inside t =
    ap (λ (xs : List Slot). (get_or xs m d).finished) e ∙ ap (λ (s : Slot). s.finished) (get_or-map (marked_slot piece) slots m d d inside) ∙ ap (λ (b : Bool). same_block (get_or slots m d).piece piece || b) t ∙ or_true (same_block (get_or slots m d).piece piece)
