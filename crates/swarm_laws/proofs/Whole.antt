-- A history whose passes do their shares is a run, whole or cut.
use Rattle.std.proofs.Common.{◌≡◌, ℕ, zero, suc, ◌+◌, ◌-◌, ◌<◌, ◌==◌, Bool, cond, ◌&&◌, ◌||◌, List, [], ◌∷◌, ◌++◌, length, get_or, inl, inr, refl, sym, ap, ◌∙◌, subst, arith}
use Rattle.std.proofs.lemmas.Bool.{cond-false, cases_lt, cases_eq, ne_eqb}
use Rattle.std.proofs.lemmas.Bool.Decides.{nat_tests}
use Rattle.std.proofs.lemmas.List.{get_or_append_left, get_or-append_right, length-append}
use Rattle.std.proofs.lemmas.List.FromFn.{length-range_with_len, get_or-range_with_len}
use Rattle.std.specs.List.{All, AllPairs, range_with_len}
use Rattle.std.specs.Prelude.{nat_lt, nat_le}
use Rattle.plan_model.specs.declared.events.Entry.{Entry}
use Rattle.swarm_laws.specs.Runs.{Place, Orders, entries_of, moves_made, publishes, says_ripe, IsApt, IsOrderly, Crew, is_among, claims_due, begins_due, IsFront, IsLacking}
use Rattle.swarm_laws.specs.Shares.{share_of, DoLess, IsPart}
use Rattle.swarm_laws.specs.Laws.{WholeSharesAreRuns, CutSharesAreCutRuns}
use Rattle.swarm_laws.proofs.Own.{all_from_own, followed_from_own, moves_from_own}
use Rattle.swarm_laws.proofs.Interleaved.{count_low, count_lower}

-- ---- the passes by their numbers
in_range : (a n p : ℕ) → is_among (range_with_len a n) p ≡ (nat_le a p && nat_lt p (a + n))
in_range a zero p = grind (arith, nat_tests)
in_range a (suc n) p = let so : is_among (range_with_len (a + 1) n) p ≡ (nat_le (a + 1) p && nat_lt p ((a + 1) + n)) = in_range (a + 1) n p in ap (λ (b : Bool). (a == p) || b) so ∙ joined
  where
    joined : (a == p) || (nat_le (a + 1) p && nat_lt p ((a + 1) + n)) ≡ (nat_le a p && nat_lt p (a + suc n))
    joined = grind (arith, nat_tests)

at_place : (a n m i d : ℕ) → i < n + m → get_or (range_with_len a n ++ range_with_len (a + n) m) i d ≡ a + i
at_place a n m i d low = elim (cases_lt i n) as (λ _. get_or (range_with_len a n ++ range_with_len (a + n) m) i d ≡ a + i) [
  | inl under ↦ let l = length-range_with_len a n in
      let so : i < length (range_with_len a n) = omega arith in
      get_or_append_left (range_with_len a n) (range_with_len (a + n) m) d i so ∙ get_or-range_with_len a n i d under
  | inr over ↦ let rest : get_or (range_with_len (a + n) m) (i - n) d ≡ (a + n) + (i - n) = get_or-range_with_len (a + n) m (i - n) d (omega arith) in
      get_or-append_right (range_with_len a n) (range_with_len (a + n) m) n i d (length-range_with_len a n) over ∙ rest ∙ omega arith
]

all_apart : (a n m : ℕ) → AllPairs (λ p q. p ≡ q → ⊥) (range_with_len a n ++ range_with_len (a + n) m)
all_apart a n m i j d less low same =
    let l : length (range_with_len a n ++ range_with_len (a + n) m) ≡ length (range_with_len a n) + length (range_with_len (a + n) m) = length-append (range_with_len a n) (range_with_len (a + n) m) in
    let ln = length-range_with_len a n in
    let lm = length-range_with_len (a + n) m in
    let at_i = at_place a n m i d (omega arith) in
    let at_j = at_place a n m j d (omega arith) in
    omega arith

pub crew_of : (orders : Orders) → Crew orders
crew_of orders = record {
  claimers = range_with_len 1 orders.workers;
  beginners = range_with_len (1 + orders.workers) orders.renderers;
  workers = length-range_with_len 1 orders.workers;
  renderers = length-range_with_len (1 + orders.workers) orders.renderers;
  apart = all_apart 1 orders.workers orders.renderers;
}

due_claims : (orders : Orders) (p : ℕ) → claims_due orders (crew_of orders) p ≡ (share_of orders p).claims
unfolding crew_of
due_claims orders p = ap (λ (b : Bool). cond b orders.claims 0) (in_range 1 orders.workers p)

due_begins : (orders : Orders) (p : ℕ) → begins_due orders (crew_of orders) p ≡ (share_of orders p).begins
unfolding crew_of
due_begins orders p = ap (λ (b : Bool). cond b orders.begins 0) (in_range (1 + orders.workers) orders.renderers p)

others_stay : (orders : Orders) (p : ℕ) → (p ≡ 0 → ⊥) → (share_of orders p).moves ≡ []
others_stay orders p ne = cond-false (p == 0) orders.moves [] (ne_eqb p 0 ne)

-- ---- whole
orderly : (log : List Entry) → ((p : ℕ) → IsOrderly (entries_of p log)) → IsOrderly log
orderly log h = record {
  followed = followed_from_own log (λ p. (h p).followed);
  apt = all_from_own (λ (e : Entry). IsApt e.event e.answer) log (λ p. (h p).apt);
}

pub whole_shares : WholeSharesAreRuns
whole_shares orders log few order all = record {
  crew = crew_of orders;
  orderly = orderly log order;
  moves = moves_from_own log (λ p ne. (all p).moves ∙ others_stay orders p ne) ∙ (all 0).moves;
  claims = λ p. (all p).claims ∙ sym (due_claims orders p);
  begins = λ p. (all p).begins ∙ sym (due_begins orders p);
  publications = λ level.
      let f = λ (e : Entry). publishes level e.event in
      let g = λ (e : Entry). says_ripe level e.answer in
      let most = count_low f g log 16 few (λ p. let e = (all p).publications level in omega arith) in
      let least = count_low g f log 16 few (λ p. let e = (all p).publications level in omega arith) in
      omega arith;
}

-- ---- cut
front_of_none : (ms ns : List Place) → IsFront ms ns → ns ≡ [] → ms ≡ []
front_of_none [] ns f e = refl
front_of_none (m ∷ ms) ns f e = let h = sym f.is ∙ e in absurd (cc)

one_moves : (orders : Orders) (log : List Entry) → ((p : ℕ) → IsPart (share_of orders p) (entries_of p log)) → moves_made log ≡ moves_made (entries_of 0 log)
one_moves orders log parts =
    moves_from_own log (λ p ne. front_of_none (moves_made (entries_of p log)) (share_of orders p).moves (parts p).bound.moves (others_stay orders p ne))

lacking : (orders : Orders) (log : List Entry) → All (λ e. e.pass < 16) log → ((p : ℕ) → IsPart (share_of orders p) (entries_of p log)) → (p : ℕ) → p < 16 → DoLess (share_of orders p) (entries_of p log) → IsLacking orders (crew_of orders) log
lacking orders log few parts p low (inl less) = elim (cases_eq p 0) as (λ _. IsLacking orders (crew_of orders) log) [
  | inl is ↦ let here : length (moves_made (entries_of 0 log)) < length orders.moves = subst (λ q. length (moves_made (entries_of q log)) < length (share_of orders q).moves) is less in
      inl (let e = ap length (one_moves orders log parts) in omega arith)
  | inr ne ↦ let none = ap length (others_stay orders p ne) in absurd (omega arith)
]
lacking orders log few parts p low (inr (inl less)) = inr (inl (p, let e = due_claims orders p in omega arith))
lacking orders log few parts p low (inr (inr (inl less))) = inr (inr (inl (p, let e = due_begins orders p in omega arith)))
lacking orders log few parts p low (inr (inr (inr (level, less)))) =
    inr (inr (inr (level, count_lower (λ (e : Entry). publishes level e.event) (λ (e : Entry). says_ripe level e.answer) log 16 p few (λ q. (parts q).bound.publications level) low less)))

pub cut_shares : CutSharesAreCutRuns
cut_shares orders log few parts p low less = record {
  crew = crew_of orders;
  orderly = orderly log (λ q. (parts q).orderly);
  moves = subst (λ (ms : List Place). IsFront ms orders.moves) (sym (one_moves orders log parts)) (parts 0).bound.moves;
  claims = λ q. let b = (parts q).bound.claims in let e = due_claims orders q in omega arith;
  begins = λ q. let b = (parts q).bound.begins in let e = due_begins orders q in omega arith;
  publications = λ level. count_low (λ (e : Entry). publishes level e.event) (λ (e : Entry). says_ripe level e.answer) log 16 few (λ q. (parts q).bound.publications level);
  lacking = lacking orders log few parts p low less;
}
