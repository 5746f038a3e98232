-- How many entries and places a legal history has.
use Rattle.std.proofs.Common.{◌≡◌, ℕ, suc, ◌+◌, ◌<◌, ◌≤◌, cond, List, [], ◌∷◌, ◌++◌, length, get_or, refl, sym, ap, ◌∙◌, subst, arith, append_assoc, append-nil}
use Rattle.std.proofs.lemmas.List.{length-replicate}
use Rattle.std.proofs.lemmas.List.Elements.{All-nil, All-cons}
use Rattle.std.proofs.lemmas.List.Sums.{sum_by-cons}
use Rattle.std.specs.List.{All, count_by}
use Rattle.plan_model.specs.States.{State, Pass, start_state, pass_at, has_work}
use Rattle.plan_model.specs.Steps.{step}
use Rattle.plan_model.specs.Histories.{IsLegalFrom, IsLegalHistory, state_after, state_of_history, places}
use Rattle.plan_model.specs.declared.events.Entry.{Entry}
use Rattle.plan_model.specs.declared.events.Work.TheVariants.{Free}
use Rattle.plan_histories.proofs.LegalLaws.{legal_together, after_none, after_first}
use Rattle.plan_histories.proofs.PassLaws.{passes_are_kept}
use Rattle.plan_histories.proofs.PlaceLaws.{places_with_one_more}

-- ---- passes are below 16
low_from : (st : State) (log : List Entry) → length st.passes ≡ 16 → IsLegalFrom st log → All (λ e. e.pass < 16) log
low_from st [] many legal = All-nil (λ (e : Entry). e.pass < 16)
low_from st (e ∷ rest) many legal =
    let kept = passes_are_kept st e.pass e.event in
    All-cons (λ (d : Entry). d.pass < 16) e rest (subst (λ (n : ℕ). e.pass < n) many legal.0) (low_from (step st e.pass e.event).state rest (kept ∙ many) legal.3)

pub many_at_start : (k levels : ℕ) → length (start_state k levels).passes ≡ 16
unfolding start_state
many_at_start k levels = length-replicate {A = Pass} 16 Free

pub low_passes : (k levels : ℕ) (log : List Entry) → IsLegalHistory k levels log → All (λ e. e.pass < 16) log
low_passes k levels log legal = low_from (start_state k levels) log (many_at_start k levels) legal

many_after : (st : State) (log : List Entry) → length (state_after st log).passes ≡ length st.passes
many_after st [] = ap (λ (s : State). length s.passes) (after_none st)
many_after st (e ∷ rest) = ap (λ (s : State). length s.passes) (after_first st e rest) ∙ many_after (step st e.pass e.event).state rest ∙ passes_are_kept st e.pass e.event

pub many_passes : (k levels : ℕ) (log : List Entry) → length (state_of_history k levels log).passes ≡ 16
many_passes k levels log = many_after (start_state k levels) log ∙ many_at_start k levels

-- ---- places
pub places_grow : (k levels : ℕ) (xs ys : List Entry) → IsLegalHistory k levels (xs ++ ys) → places k levels xs ≤ places k levels (xs ++ ys)
places_grow k levels xs [] legal = let e = ap (places k levels) (append-nil xs) in omega arith
places_grow k levels xs (y ∷ ys) legal =
    let is : (xs ++ y ∷ []) ++ ys ≡ xs ++ y ∷ ys = append_assoc xs (y ∷ []) ys in
    let all : IsLegalHistory k levels ((xs ++ y ∷ []) ++ ys) = subst (IsLegalHistory k levels) (sym is) legal in
    let front : IsLegalHistory k levels (xs ++ y ∷ []) = ((legal_together (start_state k levels) (xs ++ y ∷ []) ys).0 all).0 in
    let one = places_with_one_more k levels xs y front in
    let more = places_grow k levels (xs ++ y ∷ []) ys all in
    let e = ap (places k levels) is in
    omega arith

weight : Pass → ℕ
weight w = cond (has_work w) 1 0

no_weight : (w : Pass) → w ≡ Free → weight w ≡ 0
unfolding weight
no_weight w is = ap (λ (v : Pass). cond (has_work v) 1 0) is

counted : (w : Pass) (ps : List Pass) → count_by has_work (w ∷ ps) ≡ weight w + count_by has_work ps
unfolding weight
counted w ps = sum_by-cons (λ (v : Pass). cond (has_work v) 1 0) w ps

none_work : (ps : List Pass) → ((p : ℕ) → p < length ps → get_or ps p Free ≡ Free) → count_by has_work ps ≡ 0
none_work [] h = refl
none_work (w ∷ ps) h =
    let here : w ≡ Free = h 0 (omega arith) in
    let rest : count_by has_work ps ≡ 0 = none_work ps (λ p low. h (suc p) (omega arith)) in
    let one : weight w ≡ 0 = no_weight w here in
    let sum : count_by has_work (w ∷ ps) ≡ weight w + count_by has_work ps = counted w ps in
    omega arith

-- a history that leaves each pass free takes as many places as it has entries
pub places_when_free : (k levels : ℕ) (log : List Entry) → ((p : ℕ) → p < 16 → pass_at (state_of_history k levels log) p ≡ Free) → places k levels log ≡ length log
unfolding places
places_when_free k levels log free =
    let many = many_passes k levels log in
    let none : count_by has_work (state_of_history k levels log).passes ≡ 0 = none_work (state_of_history k levels log).passes (λ p low. free p (omega arith)) in
    omega arith
