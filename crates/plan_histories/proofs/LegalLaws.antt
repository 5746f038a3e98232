-- The laws of legal lists of entries.
use Rattle.std.proofs.Common.{◌≡◌, zero, suc, List, [], ◌∷◌, ◌++◌, refl, sym, ◌∙◌, subst}
use Rattle.std.proofs.lemmas.List.Sums.{fold-append}
use Rattle.plan_model.specs.States.{State}
use Rattle.plan_model.specs.Steps.{step}
use Rattle.plan_model.specs.Histories.{IsLegalFrom, state_after}
use Rattle.plan_model.specs.declared.events.Entry.{Entry}
use Rattle.plan_histories.specs.Legal.{StatesAfterTwo, LegalTogether, LegalFronts, IsLegalNext, LegalWithOneMore, StatesAfterOneMore}

pub after_none : (st : State) → state_after st [] ≡ st
unfolding state_after
after_none st = refl

pub after_first : (st : State) (e : Entry) (rest : List Entry) → state_after st (e ∷ rest) ≡ state_after (step st e.pass e.event).state rest
unfolding state_after
after_first st e rest = refl

pub states_after_two : StatesAfterTwo
unfolding state_after
states_after_two st first second = fold-append (λ (s : State) (e : Entry). (step s e.pass e.event).state) st first second

pub states_after_one_more : StatesAfterOneMore
states_after_one_more st entries e = states_after_two st entries (e ∷ []) ∙ after_first (state_after st entries) e [] ∙ after_none (step (state_after st entries) e.pass e.event).state

first_legal : (st : State) (first second : List Entry) → IsLegalFrom st (first ++ second) → IsLegalFrom st first
first_legal st [] second h = tt
first_legal st (e ∷ first) second h = (h.0, h.1, h.2, first_legal (step st e.pass e.event).state first second h.3)

second_legal : (st : State) (first second : List Entry) → IsLegalFrom st (first ++ second) → IsLegalFrom (state_after st first) second
second_legal st [] second h = subst (λ (s : State). IsLegalFrom s second) (sym (after_none st)) h
second_legal st (e ∷ first) second h =
    subst (λ (s : State). IsLegalFrom s second) (sym (after_first st e first)) (second_legal (step st e.pass e.event).state first second h.3)

both_legal : (st : State) (first second : List Entry) → IsLegalFrom st first → IsLegalFrom (state_after st first) second → IsLegalFrom st (first ++ second)
both_legal st [] second h k = subst (λ (s : State). IsLegalFrom s second) (after_none st) k
both_legal st (e ∷ first) second h k =
    (h.0, h.1, h.2, both_legal (step st e.pass e.event).state first second h.3 (subst (λ (s : State). IsLegalFrom s second) (after_first st e first) k))

pub legal_together : LegalTogether
legal_together st first second =
    (λ (h : IsLegalFrom st (first ++ second)). (first_legal st first second h, second_legal st first second h), λ (h : IsLegalFrom st first × IsLegalFrom (state_after st first) second). both_legal st first second h.0 h.1)

pub legal_fronts : LegalFronts
legal_fronts st entries zero h = tt
legal_fronts st [] (suc n) h = tt
legal_fronts st (e ∷ rest) (suc n) h = (h.0, h.1, h.2, legal_fronts (step st e.pass e.event).state rest n h.3)

one_legal : (st : State) (e : Entry) → IsLegalFrom st (e ∷ []) → IsLegalNext st e
one_legal st e h = (h.0, h.1, h.2)

legal_one : (st : State) (e : Entry) → IsLegalNext st e → IsLegalFrom st (e ∷ [])
legal_one st e h = (h.0, h.1, h.2, tt)

pub legal_with_one_more : LegalWithOneMore
legal_with_one_more st entries e =
    (λ (h : IsLegalFrom st (entries ++ e ∷ [])). (first_legal st entries (e ∷ []) h, one_legal (state_after st entries) e (second_legal st entries (e ∷ []) h)), λ (h : IsLegalFrom st entries × IsLegalNext (state_after st entries) e). both_legal st entries (e ∷ []) h.0 (legal_one (state_after st entries) e h.1))
