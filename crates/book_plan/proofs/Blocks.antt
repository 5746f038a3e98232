-- Tests of two numbers and of two blocks.
use Rattle.std.proofs.Common.{◌≡◌, true, false, ℤ, sym, ◌∙◌, inl, inr, arith}
use Rattle.std.proofs.lemmas.Int.{ints}
use Rattle.std.proofs.lemmas.Bool.{and_parts, and_from, cases_Bool, true≢false}
use Rattle.plan_model.specs.Blocks.{same_number, same_block}
use Rattle.plan_model.specs.declared.tiles.Piece.{Piece}

one_number : (a b : ℤ) → same_number a b ≡ true → a ≡ b
unfolding same_number
one_number a b t = grind (arith, ints)

number_itself : (a b : ℤ) → a ≡ b → same_number a b ≡ true
unfolding same_number
number_itself a b e = grind (arith, ints)

pub one_block : (p q : Piece) → same_block p q ≡ true → (p.bx ≡ q.bx) × (p.by ≡ q.by)
unfolding same_block
one_block p q t =
    let parts : (same_number p.bx q.bx ≡ true) × (same_number p.by q.by ≡ true) = and_parts (same_number p.bx q.bx) (same_number p.by q.by) t in
    (one_number p.bx q.bx parts.0, one_number p.by q.by parts.1)

pub block_itself : (p q : Piece) → p.bx ≡ q.bx → p.by ≡ q.by → same_block p q ≡ true
unfolding same_block
block_itself p q e d =
    and_from (same_number p.bx q.bx) (same_number p.by q.by) (number_itself p.bx q.bx e) (number_itself p.by q.by d)

pub block_back : (p q : Piece) → same_block p q ≡ true → same_block q p ≡ true
block_back p q t = let e : (p.bx ≡ q.bx) × (p.by ≡ q.by) = one_block p q t in block_itself q p (sym e.0) (sym e.1)

pub other_back : (p q : Piece) → same_block p q ≡ false → same_block q p ≡ false
other_back p q f =
    elim (cases_Bool (same_block q p)) [
      | inl t ↦ absurd (true≢false (sym (block_back q p t) ∙ f))
      | inr e ↦ e
    ]

-- what lies in the block of q isn't in that of r, where these differ
pub other_block : (p q r : Piece) → same_block q p ≡ true → same_block q r ≡ false → same_block r p ≡ false
other_block p q r t f =
    elim (cases_Bool (same_block r p)) [
      | inl u ↦
          let a : (q.bx ≡ p.bx) × (q.by ≡ p.by) = one_block q p t in
          let b : (r.bx ≡ p.bx) × (r.by ≡ p.by) = one_block r p u in
          absurd (true≢false (sym (block_itself q r (a.0 ∙ sym b.0) (a.1 ∙ sym b.1)) ∙ f))
      | inr e ↦ e
    ]
