-- The frames that a history closes, pass by pass.
use Rattle.std.proofs.Common.{◌≡◌, ℕ, zero, suc, ◌+◌, ◌<◌, ◌≤◌, ◌==◌, Option, Some, None, List, [], ◌∷◌, ◌++◌, inl, inr, refl, sym, ap, ◌∙◌, subst, arith, append_assoc, append-nil}
use Rattle.std.proofs.lemmas.Bool.{cond-true, cond-false, cases_lt, cases_eq, ne_eqb, eq-eqb, lt-ltb, le-ltb}
use Rattle.std.proofs.lemmas.List.Elements.{All-nil, All-cons, All-append, All-head, All-tail, filter-append}
use Rattle.std.proofs.lemmas.List.Concat.{flat_map-append}
use Rattle.std.proofs.lemmas.List.Sorted.{IsPermutation-refl, IsPermutation-cons, IsPermutation-middle, IsPermutation-trans, IsPermutation-append_left}
use Rattle.std.specs.List.{All, filter, flat_map, range_with_len}
use Rattle.std.specs.List.Sorted.{IsPermutation}
use Rattle.std.specs.Prelude.{nat_lt}
use Rattle.plan_model.specs.States.{State, OpenFrame, start_state, pass_at, frame_of}
use Rattle.plan_model.specs.Steps.{step}
use Rattle.plan_model.specs.Histories.{HasNoEntryOf, state_after}
use Rattle.plan_model.specs.declared.events.Event.{Event}
use Rattle.plan_model.specs.declared.events.Event.TheVariants.{End}
use Rattle.plan_model.specs.declared.events.Entry.{Entry}
use Rattle.plan_histories.proofs.LegalLaws.{after_none, after_first}
use Rattle.swarm_laws.specs.Closings.{Closing, one_closing, closed_by, closings, closings_in, closings_of, closings_by}
use Rattle.swarm_laws.specs.Laws.{FramesAreThoseOfPasses}

-- ---- one history after another
pub closings_append : (st : State) (xs ys : List Entry) → closings st (xs ++ ys) ≡ closings st xs ++ closings (state_after st xs) ys
closings_append st [] ys = ap (λ (s : State). closings s ys) (sym (after_none st))
closings_append st (e ∷ xs) ys =
    let here = closed_by e.event e.pass (frame_of (pass_at st e.pass)) in
    let next : State = (step st e.pass e.event).state in
    ap (λ (cs : List Closing). here ++ cs) (closings_append next xs ys ∙ ap (λ (s : State). closings next xs ++ closings s ys) (sym (after_first st e xs))) ∙ sym (append_assoc here (closings next xs) (closings (state_after st (e ∷ xs)) ys))

one_of_pass : (p q : ℕ) (frame : Option OpenFrame) → (p ≡ q → ⊥) → closings_of q (one_closing p frame) ≡ []
one_of_pass p q None ne = refl
one_of_pass p q (Some frame) ne = cond-false (p == q) (record { pass = p; frame = frame } ∷ []) [] (ne_eqb p q ne)

closed_of_pass : (event : Event) (p q : ℕ) (frame : Option OpenFrame) → (p ≡ q → ⊥) → closings_of q (closed_by event p frame) ≡ []
closed_of_pass End p q frame ne = one_of_pass p q frame ne
closed_of_pass _ p q frame ne = refl

-- a pass without an entry closes nothing
pub none_closed : (q : ℕ) (st : State) (log : List Entry) → HasNoEntryOf q log → closings_of q (closings st log) ≡ []
none_closed q st [] h = refl
none_closed q st (e ∷ rest) h =
    filter-append (λ (c : Closing). c.pass == q) (closed_by e.event e.pass (frame_of (pass_at st e.pass))) (closings (step st e.pass e.event).state rest)
    ∙ ap (λ (cs : List Closing). cs ++ closings_of q (closings (step st e.pass e.event).state rest)) (closed_of_pass e.event e.pass q (frame_of (pass_at st e.pass)) (All-head (λ (d : Entry). ¬ (d.pass ≡ q)) e rest h))
    ∙ none_closed q (step st e.pass e.event).state rest (All-tail (λ (d : Entry). ¬ (d.pass ≡ q)) e rest h)

pub of_append : (q : ℕ) (xs ys : List Closing) → closings_of q (xs ++ ys) ≡ closings_of q xs ++ closings_of q ys
of_append q xs ys = filter-append (λ (c : Closing). c.pass == q) xs ys

-- ---- each frame is closed by a pass that has an entry
low_one : (n p : ℕ) (frame : Option OpenFrame) → p < n → All (λ c. c.pass < n) (one_closing p frame)
low_one n p None h = All-nil (λ (c : Closing). c.pass < n)
low_one n p (Some frame) h = All-cons (λ (c : Closing). c.pass < n) (record { pass = p; frame = frame }) [] h (All-nil (λ (c : Closing). c.pass < n))

low_closed : (n : ℕ) (event : Event) (p : ℕ) (frame : Option OpenFrame) → p < n → All (λ c. c.pass < n) (closed_by event p frame)
low_closed n End p frame h = low_one n p frame h
low_closed n _ p frame h = All-nil (λ (c : Closing). c.pass < n)

pub low_closings : (n : ℕ) (st : State) (log : List Entry) → All (λ e. e.pass < n) log → All (λ c. c.pass < n) (closings st log)
low_closings n st [] h = All-nil (λ (c : Closing). c.pass < n)
low_closings n st (e ∷ rest) h =
    All-append (λ (c : Closing). c.pass < n) (closed_by e.event e.pass (frame_of (pass_at st e.pass))) (closings (step st e.pass e.event).state rest)
    (low_closed n e.event e.pass (frame_of (pass_at st e.pass)) (All-head (λ (d : Entry). d.pass < n) e rest h))
    (low_closings n (step st e.pass e.event).state rest (All-tail (λ (d : Entry). d.pass < n) e rest h))

-- ---- all of them, pass after pass
abbrev below : ℕ → List Closing → List Closing
below n all = filter (λ (c : Closing). nat_lt c.pass n) all

none_below : (all : List Closing) → below 0 all ≡ []
none_below [] = refl
none_below (c ∷ rest) = cond-false (nat_lt c.pass 0) (c ∷ below 0 rest) (below 0 rest) (le-ltb c.pass 0 (omega arith)) ∙ none_below rest

all_below : (n : ℕ) (all : List Closing) → All (λ c. c.pass < n) all → below n all ≡ all
all_below n [] h = refl
all_below n (c ∷ rest) h =
    cond-true (nat_lt c.pass n) (c ∷ below n rest) (below n rest) (lt-ltb c.pass n (All-head (λ (d : Closing). d.pass < n) c rest h)) ∙ ap (λ (xs : List Closing). c ∷ xs) (all_below n rest (All-tail (λ (d : Closing). d.pass < n) c rest h))

one_pass_more : (n : ℕ) (all : List Closing) → IsPermutation (below n all ++ closings_of n all) (below (suc n) all)
one_pass_more n [] = IsPermutation-refl []
one_pass_more n (c ∷ rest) =
    let so : IsPermutation (below n rest ++ closings_of n rest) (below (suc n) rest) = one_pass_more n rest in
    elim (cases_lt c.pass n) as (λ _. IsPermutation (below n (c ∷ rest) ++ closings_of n (c ∷ rest)) (below (suc n) (c ∷ rest))) [
      | inl under ↦
          let a : below n (c ∷ rest) ≡ c ∷ below n rest = cond-true (nat_lt c.pass n) (c ∷ below n rest) (below n rest) (lt-ltb c.pass n under) in
          let b : closings_of n (c ∷ rest) ≡ closings_of n rest = cond-false (c.pass == n) (c ∷ closings_of n rest) (closings_of n rest) (ne_eqb c.pass n (λ e. absurd (omega arith))) in
          let d : below (suc n) (c ∷ rest) ≡ c ∷ below (suc n) rest = cond-true (nat_lt c.pass (suc n)) (c ∷ below (suc n) rest) (below (suc n) rest) (lt-ltb c.pass (suc n) (omega arith)) in
          rw (a, b, d) (IsPermutation-cons c (below n rest ++ closings_of n rest) (below (suc n) rest) so)
      | inr over ↦ elim (cases_eq c.pass n) as (λ _. IsPermutation (below n (c ∷ rest) ++ closings_of n (c ∷ rest)) (below (suc n) (c ∷ rest))) [
        | inl is ↦
            let a : below n (c ∷ rest) ≡ below n rest = cond-false (nat_lt c.pass n) (c ∷ below n rest) (below n rest) (le-ltb c.pass n over) in
            let b : closings_of n (c ∷ rest) ≡ c ∷ closings_of n rest = cond-true (c.pass == n) (c ∷ closings_of n rest) (closings_of n rest) (eq-eqb c.pass n is) in
            let d : below (suc n) (c ∷ rest) ≡ c ∷ below (suc n) rest = cond-true (nat_lt c.pass (suc n)) (c ∷ below (suc n) rest) (below (suc n) rest) (lt-ltb c.pass (suc n) (omega arith)) in
            rw (a, b, d) (IsPermutation-trans (below n rest ++ c ∷ closings_of n rest) (c ∷ (below n rest ++ closings_of n rest)) (c ∷ below (suc n) rest) (IsPermutation-middle (below n rest) c (closings_of n rest)) (IsPermutation-cons c (below n rest ++ closings_of n rest) (below (suc n) rest) so))
        | inr ne ↦
            let a : below n (c ∷ rest) ≡ below n rest = cond-false (nat_lt c.pass n) (c ∷ below n rest) (below n rest) (le-ltb c.pass n over) in
            let b : closings_of n (c ∷ rest) ≡ closings_of n rest = cond-false (c.pass == n) (c ∷ closings_of n rest) (closings_of n rest) (ne_eqb c.pass n ne) in
            let high : suc n ≤ c.pass = apart c.pass n over ne in
            let d : below (suc n) (c ∷ rest) ≡ below (suc n) rest = cond-false (nat_lt c.pass (suc n)) (c ∷ below (suc n) rest) (below (suc n) rest) (le-ltb c.pass (suc n) high) in
            rw (a, b, d) so
      ]
    ]
  where
    apart : (q m : ℕ) → m ≤ q → (q ≡ m → ⊥) → suc m ≤ q
    apart q m l ne = omega arith

range_more : (a n : ℕ) → range_with_len a (suc n) ≡ range_with_len a n ++ (a + n) ∷ []
range_more a zero = ap (λ (m : ℕ). m ∷ []) (omega arith)
range_more a (suc n) =
    let e : (a + 1) + n ≡ a + suc n = omega arith in
    ap (λ (ms : List ℕ). a ∷ ms) (range_more (a + 1) n ∙ ap (λ (m : ℕ). range_with_len (a + 1) n ++ m ∷ []) e)

pub passes_more : (n : ℕ) (all : List Closing) → closings_by (suc n) all ≡ closings_by n all ++ closings_of n all
passes_more n all =
    let f = λ (p : ℕ). closings_of p all in
    let e : 0 + n ≡ n = omega arith in
    ap (flat_map f) (range_more 0 n ∙ ap (λ (m : ℕ). range_with_len 0 n ++ m ∷ []) e) ∙ flat_map-append f (range_with_len 0 n) (n ∷ []) ∙ ap (λ (cs : List Closing). flat_map f (range_with_len 0 n) ++ cs) (append-nil (closings_of n all))

by_passes : (n : ℕ) (all : List Closing) → IsPermutation (closings_by n all) (below n all)
by_passes zero all = subst (λ (xs : List Closing). IsPermutation [] xs) (sym (none_below all)) (IsPermutation-refl [])
by_passes (suc n) all =
    subst (λ (xs : List Closing). IsPermutation xs (below (suc n) all)) (sym (passes_more n all))
    (IsPermutation-trans (closings_by n all ++ closings_of n all) (below n all ++ closings_of n all) (below (suc n) all)
    (IsPermutation-append_left (closings_of n all) (closings_by n all) (below n all) (by_passes n all)) (one_pass_more n all))

pub all_by_passes : (n : ℕ) (all : List Closing) → All (λ c. c.pass < n) all → IsPermutation (closings_by n all) all
all_by_passes n all h = subst (λ (xs : List Closing). IsPermutation (closings_by n all) xs) (all_below n all h) (by_passes n all)

pub frames_of_passes : FramesAreThoseOfPasses
frames_of_passes k levels n log low = all_by_passes n (closings_in k levels log) (low_closings n (start_state k levels) log low)
