-- The laws of finished and unfinished pieces.
use Rattle.std.proofs.Common.{◌≡◌, ℕ, ◌+◌, Bool, true, false, not, cond, List, [], ◌∷◌, length, get_or, refl, ap, sym, ◌∙◌, inl, inr, arith}
use Rattle.std.proofs.lemmas.Bool.{cases_Bool, or_left, or_right, true≢false, false_from_ne_true}
use Rattle.std.proofs.lemmas.List.Elements.{All-nil, All-cons, All-head, All-tail, All-weaker, All-filter, All-contains_itself, filter_passes, Contains-get_or}
use Rattle.std.proofs.lemmas.List.Filters.{length-filter_both}
use Rattle.std.proofs.lemmas.List.Folds.{list_any_none}
use Rattle.std.specs.List.{All, Contains, filter, list_any}
use mathlib.Core.Path.{ap₂}
use Rattle.clip_regions.specs.declared.region.Region.{Region}
use Rattle.plan_model.specs.Blocks.{same_number, same_block}
use Rattle.plan_model.specs.Strips.{pieces}
use Rattle.plan_model.specs.Claims.{is_finished}
use Rattle.plan_model.specs.declared.tiles.Piece.{Piece}
use Rattle.plan_laws.specs.Finished.{FinishedAreFound, FinishedAndUnfinished}
use Rattle.plan_laws.proofs.PieceLaws.{one_piece_a_block}

-- a list filtered by tests that agree at each of its elements
pub filter_same : {X : Type 0} (p q : X → Bool) (xs : List X) → All (λ x. p x ≡ q x) xs → filter p xs ≡ filter q xs
filter_same p q [] h = refl
filter_same p q (x ∷ xs) h =
    ap₂ (λ (b : Bool) (rest : List _). cond b (x ∷ rest) rest) (All-head (λ y. p y ≡ q y) x xs h) (filter_same p q xs (All-tail (λ y. p y ≡ q y) x xs h))

same_itself : (p : Piece) → same_block p p ≡ true
unfolding same_block same_number
same_itself p = grind arith

-- a piece that passes is found among those that pass
found : (test : Piece → Bool) (ps : List Piece) → All (λ p. test p ≡ true → list_any (same_block p) (filter test ps) ≡ true) ps
found test [] = All-nil (λ (p : Piece). test p ≡ true → list_any (same_block p) (filter test []) ≡ true)
found test (x ∷ xs) =
    All-cons (λ (p : Piece). test p ≡ true → list_any (same_block p) (filter test (x ∷ xs)) ≡ true) x xs (λ (t : test x ≡ true). ap (λ (b : Bool). list_any (same_block x) (cond b (x ∷ filter test xs) (filter test xs))) t ∙ or_left (same_block x x) (list_any (same_block x) (filter test xs)) (same_itself x)) (All-weaker (λ (p : Piece). test p ≡ true → list_any (same_block p) (filter test xs) ≡ true) (λ (p : Piece). test p ≡ true → list_any (same_block p) (filter test (x ∷ xs)) ≡ true) (λ (p : Piece) (rest : test p ≡ true → list_any (same_block p) (filter test xs) ≡ true) (t : test p ≡ true). kept p (rest t)) xs (found test xs))
  where
    kept : (p : Piece) → list_any (same_block p) (filter test xs) ≡ true → list_any (same_block p) (filter test (x ∷ xs)) ≡ true
    kept p e =
        elim (cases_Bool (test x)) [
          | inl t ↦ ap (λ (b : Bool). list_any (same_block p) (cond b (x ∷ filter test xs) (filter test xs))) t ∙ or_right (same_block p x) (list_any (same_block p) (filter test xs)) e
          | inr t ↦ ap (λ (b : Bool). list_any (same_block p) (cond b (x ∷ filter test xs) (filter test xs))) t ∙ e
        ]

-- a piece that doesn't pass has another block than those that do
not_found : (r : Region) (test : Piece → Bool) (p : Piece) → Contains (pieces r) p → test p ≡ false → list_any (same_block p) (filter test (pieces r)) ≡ false
not_found r test p here e =
    list_any_none (same_block p) (filter test (pieces r)) (λ n d inside. other (get_or (filter test (pieces r)) n d) (filter_passes test (pieces r) n d inside) (All-filter test (Contains (pieces r)) (pieces r) (All-contains_itself (pieces r)) n d inside))
  where
    other : (q : Piece) → test q ≡ true → Contains (pieces r) q → same_block p q ≡ false
    other q t there =
        false_from_ne_true (same_block p q) (λ (s : same_block p q ≡ true). true≢false (sym t ∙ ap test (sym (one_piece_a_block r p q here there s)) ∙ e))

found_as_tested : (r : Region) (test : Piece → Bool) → All (λ p. is_finished (filter test (pieces r)) p ≡ test p) (pieces r)
unfolding is_finished
found_as_tested r test n d inside =
    let p : Piece = get_or (pieces r) n d in
    elim (cases_Bool (test (get_or (pieces r) n d))) [
      | inl t ↦ found test (pieces r) n d inside t ∙ sym t
      | inr t ↦ not_found r test (get_or (pieces r) n d) (Contains-get_or (pieces r) n d inside) t ∙ sym t
    ]

pub finished_are_found : FinishedAreFound
finished_are_found r finished test e =
    ap (λ (ps : List Piece). filter (is_finished ps) (pieces r)) e ∙ filter_same (is_finished (filter test (pieces r))) test (pieces r) (found_as_tested r test) ∙ sym e

pub finished_and_unfinished : FinishedAndUnfinished
finished_and_unfinished r finished test e =
    ap (λ (n : ℕ). n + length (filter (λ (piece : Piece). not (is_finished finished piece)) (pieces r))) (ap length (sym (finished_are_found r finished test e))) ∙ length-filter_both (is_finished finished) (λ (piece : Piece). not (is_finished finished piece)) (λ _. refl) (pieces r)
