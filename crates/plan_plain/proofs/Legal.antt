-- Legal histories, one entry longer.
use Rattle.std.proofs.Common.{◌≡◌, ℕ, ◌+◌, ◌<◌, List, [], ◌∷◌, ◌++◌, length, get_or, take, add-one, refl, ap, sym, ◌∙◌, subst}
use Rattle.std.proofs.Math.Seq.{take-suc}
use Rattle.std.proofs.lemmas.List.Sums.{fold-append}
use Rattle.plan_model.specs.States.{State}
use Rattle.plan_model.specs.Steps.{step}
use Rattle.plan_model.specs.Histories.{IsLegalFrom, state_after}
use Rattle.plan_model.specs.declared.events.Entry.{Entry}
use Rattle.plan_plain.specs.Legal.{IsNext}

pub legal_more : (st : State) (xs : List Entry) (e : Entry) → IsLegalFrom st xs → IsNext (state_after st xs) e → IsLegalFrom st (xs ++ e ∷ [])
unfolding state_after
legal_more st [] e h next = (next.pass, next.allowed, next.answer, tt)
legal_more st (x ∷ xs) e h next = (h.0, h.1, h.2, legal_more (step st x.pass x.event).state xs e h.3 next)

pub legal_last : (st : State) (xs : List Entry) (e : Entry) → IsLegalFrom st (xs ++ e ∷ []) → IsNext (state_after st xs) e
unfolding state_after
legal_last st [] e h = record { pass = h.0; allowed = h.1; answer = h.2 }
legal_last st (x ∷ xs) e h = legal_last (step st x.pass x.event).state xs e h.3

pub state_more : (st : State) (xs : List Entry) (e : Entry) → state_after st (xs ++ e ∷ []) ≡ (step (state_after st xs) e.pass e.event).state
unfolding state_after
state_more st xs e = fold-append (λ (s : State) (entry : Entry). (step s entry.pass entry.event).state) st xs (e ∷ [])

pub none_left : (st : State) → state_after st [] ≡ st
unfolding state_after
none_left st = refl

-- one more entry of a list
pub take_more : (xs : List Entry) (i : ℕ) (d : Entry) → i < length xs → take (i + 1) xs ≡ take i xs ++ get_or xs i d ∷ []
take_more xs i d h = rw add-one (take-suc xs i d h)

pub state_next : (st state next : State) (xs : List Entry) (i : ℕ) (d : Entry) → i < length xs → state ≡ state_after st (take i xs) → next ≡ (step state (get_or xs i d).pass (get_or xs i d).event).state → next ≡ state_after st (take (i + 1) xs)
state_next st state next xs i d h e g =
    g ∙ ap (λ (s : State). (step s (get_or xs i d).pass (get_or xs i d).event).state) e ∙ sym (state_more st (take i xs) (get_or xs i d)) ∙ ap (state_after st) (sym (take_more xs i d h))

pub legal_next : (st state : State) (xs : List Entry) (i : ℕ) (d : Entry) → i < length xs → state ≡ state_after st (take i xs) → IsLegalFrom st (take i xs) → IsNext state (get_or xs i d) → IsLegalFrom st (take (i + 1) xs)
legal_next st state xs i d h e legal next =
    subst (IsLegalFrom st) (sym (take_more xs i d h)) (legal_more st (take i xs) (get_or xs i d) legal (subst (λ (s : State). IsNext s (get_or xs i d)) e next))

pub illegal_next : (st state : State) (xs : List Entry) (i : ℕ) (d : Entry) → i < length xs → state ≡ state_after st (take i xs) → IsLegalFrom st (take (i + 1) xs) → IsNext state (get_or xs i d)
illegal_next st state xs i d h e legal =
    subst (λ (s : State). IsNext s (get_or xs i d)) (sym e) (legal_last st (take i xs) (get_or xs i d) (subst (IsLegalFrom st) (take_more xs i d h) legal))
