-- The entries of one pass in a history, and what is true of those of each pass.
use Rattle.std.proofs.Common.{◌≡◌, ℕ, ◌==◌, Bool, true, false, cond, ◌&&◌, List, [], ◌∷◌, ◌++◌, inl, inr, refl, sym, ap, ◌∙◌, subst}
use Rattle.std.proofs.lemmas.Bool.{cases_Bool, cases_eq, cond-true, cond-false, eq-eqb, ne_eqb, and_left}
use Rattle.std.proofs.lemmas.List.Elements.{All-nil, All-cons, All-head, All-tail}
use Rattle.std.specs.List.{All, filter}
use Rattle.std.specs.Prelude.{option_map}
use Rattle.plan_model.specs.Strips.{first_of}
use Rattle.plan_model.specs.Histories.{HasNoEntryOf}
use Rattle.plan_model.specs.declared.events.Answer.{Answer}
use Rattle.plan_model.specs.declared.events.Answer.TheVariants.{Job, Frame}
use Rattle.plan_model.specs.declared.events.Entry.{Entry}
use Rattle.swarm_laws.specs.Runs.{Place, entries_of, moved_by, moves_made, is_of_pass, next_of, IsFollowed, AreFollowed}

-- ---- one entry more at the head
pub own_here : (e : Entry) (rest : List Entry) → entries_of e.pass (e ∷ rest) ≡ e ∷ entries_of e.pass rest
own_here e rest = cond-true (e.pass == e.pass) (e ∷ entries_of e.pass rest) (entries_of e.pass rest) (eq-eqb e.pass e.pass refl)

pub own_other : (p : ℕ) (e : Entry) (rest : List Entry) → (e.pass ≡ p → ⊥) → entries_of p (e ∷ rest) ≡ entries_of p rest
own_other p e rest ne = cond-false (e.pass == p) (e ∷ entries_of p rest) (entries_of p rest) (ne_eqb e.pass p ne)

-- a history without an entry of a pass has none
pub no_own : (p : ℕ) (log : List Entry) → HasNoEntryOf p log → entries_of p log ≡ []
no_own p [] h = refl
no_own p (e ∷ rest) h =
    own_other p e rest (All-head (λ (entry : Entry). ¬ (entry.pass ≡ p)) e rest h) ∙ no_own p rest (All-tail (λ (entry : Entry). ¬ (entry.pass ≡ p)) e rest h)

-- ---- what is true of each pass's entries, and also with one entry less
drop_one : (Q : List Entry → Type 0) → ((e : Entry) (xs : List Entry) → Q (e ∷ xs) → Q xs) → (b : Bool) (e : Entry) (xs : List Entry) → Q (cond b (e ∷ xs) xs) → Q xs
drop_one Q less true e xs h = less e xs h
drop_one Q less false e xs h = h

pub rest_own : (Q : List Entry → Type 0) → ((e : Entry) (xs : List Entry) → Q (e ∷ xs) → Q xs) → (e : Entry) (rest : List Entry) → ((p : ℕ) → Q (entries_of p (e ∷ rest))) → (p : ℕ) → Q (entries_of p rest)
rest_own Q less e rest h p = drop_one Q less (e.pass == p) e (entries_of p rest) (h p)

pub all_from_own : (P : Entry → Type 0) (log : List Entry) → ((p : ℕ) → All P (entries_of p log)) → All P log
all_from_own P [] h = All-nil P
all_from_own P (e ∷ rest) h =
    All-cons P e rest (All-head P e (entries_of e.pass rest) (subst (All P) (own_here e rest) (h e.pass))) (all_from_own P rest (rest_own (All P) (All-tail P) e rest h))

-- ---- the next event of a pass is that among its own
next_filter : (p : ℕ) (rest : List Entry) → filter (λ (e : Entry). (e.pass == p) && is_of_pass e.event) (entries_of p rest) ≡ filter (λ (e : Entry). (e.pass == p) && is_of_pass e.event) rest
next_filter p [] = refl
next_filter p (e ∷ rest) = elim (cases_Bool (e.pass == p)) as (λ _. filter f (entries_of p (e ∷ rest)) ≡ filter f (e ∷ rest)) [
  | inl is ↦ ap (filter f) (cond-true (e.pass == p) (e ∷ entries_of p rest) (entries_of p rest) is) ∙ ap (λ (xs : List Entry). cond (f e) (e ∷ xs) xs) (next_filter p rest)
  | inr is ↦ ap (filter f) (cond-false (e.pass == p) (e ∷ entries_of p rest) (entries_of p rest) is) ∙ next_filter p rest ∙ sym (cond-false (f e) (e ∷ filter f rest) (filter f rest) (and_left (e.pass == p) (is_of_pass e.event) is))
]
  where
    f : Entry → Bool
    f e = (e.pass == p) && is_of_pass e.event

pub next_own : (p : ℕ) (rest : List Entry) → next_of p (entries_of p rest) ≡ next_of p rest
next_own p rest = ap (λ (xs : List Entry). option_map (λ (e : Entry). e.event) (first_of xs)) (next_filter p rest)

pub followed_same : (answer : Answer) (p : ℕ) (xs ys : List Entry) → next_of p xs ≡ next_of p ys → IsFollowed answer p xs → IsFollowed answer p ys
followed_same (Job level bx by cells plan) p xs ys e h = sym e ∙ h
followed_same (Frame number) p xs ys e h = sym e ∙ h
followed_same _ p xs ys e h = tt

pub followed_from_own : (log : List Entry) → ((p : ℕ) → AreFollowed (entries_of p log)) → AreFollowed log
followed_from_own [] h = tt
followed_from_own (e ∷ rest) h =
    let here : AreFollowed (e ∷ entries_of e.pass rest) = subst AreFollowed (own_here e rest) (h e.pass) in
    (followed_same e.answer e.pass (entries_of e.pass rest) rest (next_own e.pass rest) here.0, followed_from_own rest (rest_own AreFollowed (λ _ _ k. k.1) e rest h))

-- ---- moves: only pass 0 makes some
no_moves_less : (e : Entry) (xs : List Entry) → moves_made (e ∷ xs) ≡ [] → (moved_by e.event ≡ []) × (moves_made xs ≡ [])
no_moves_less e xs h = both (moved_by e.event) (moves_made xs) h
  where
    both : (a b : List Place) → a ++ b ≡ [] → (a ≡ []) × (b ≡ [])
    both [] b h = (refl, h)
    both (x ∷ a) b h = absurd (cc)

pub moves_from_own : (log : List Entry) → ((p : ℕ) → (p ≡ 0 → ⊥) → moves_made (entries_of p log) ≡ []) → moves_made log ≡ moves_made (entries_of 0 log)
moves_from_own [] h = refl
moves_from_own (e ∷ rest) h =
    let less : moves_made rest ≡ moves_made (entries_of 0 rest) =
    moves_from_own rest (λ p ne. drop_one (λ xs. moves_made xs ≡ []) (λ d xs k. (no_moves_less d xs k).1) (e.pass == p) e (entries_of p rest) (h p ne)) in
    elim (cases_eq e.pass 0) as (λ _. moves_made (e ∷ rest) ≡ moves_made (entries_of 0 (e ∷ rest))) [
      | inl is ↦ ap (λ (ms : List Place). moved_by e.event ++ ms) less ∙ sym (ap moves_made (cond-true (e.pass == 0) (e ∷ entries_of 0 rest) (entries_of 0 rest) (eq-eqb e.pass 0 is)))
      | inr ne ↦ ap (λ (ms : List Place). ms ++ moves_made rest) (no_moves_less e (entries_of e.pass rest) (sym (ap moves_made (own_here e rest)) ∙ h e.pass ne)).0 ∙ less ∙ sym (ap moves_made (own_other 0 e rest ne))
    ]
