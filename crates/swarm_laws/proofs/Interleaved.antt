-- Counts over a history are sums of those of its passes.
use Rattle.std.proofs.Common.{◌≡◌, ℕ, zero, suc, ◌+◌, ◌<◌, ◌≤◌, ◌==◌, Bool, true, false, cond, List, [], ◌∷◌, inl, inr, refl, ap, ◌∙◌, subst, arith}
use Rattle.std.proofs.lemmas.Bool.{cond-true, cond-false, lt-ltb, le-ltb, cases_lt}
use Rattle.std.proofs.lemmas.Bool.Decides.{nat_tests}
use Rattle.std.proofs.lemmas.List.Elements.{All-head, All-tail}
use Rattle.std.proofs.lemmas.List.Sums.{sum_by-cons}
use Rattle.std.specs.List.{All, count_by, filter}
use Rattle.std.specs.Prelude.{nat_lt}
use Rattle.plan_model.specs.declared.events.Entry.{Entry}
use Rattle.swarm_laws.specs.Runs.{entries_of}

-- the entries of the passes below n
abbrev below : ℕ → List Entry → List Entry
below n log = filter (λ (e : Entry). nat_lt e.pass n) log

none_below : (log : List Entry) → below 0 log ≡ []
none_below [] = refl
none_below (e ∷ rest) = cond-false (nat_lt e.pass 0) (e ∷ below 0 rest) (below 0 rest) (le-ltb e.pass 0 (omega arith)) ∙ none_below rest

all_below : (n : ℕ) (log : List Entry) → All (λ e. e.pass < n) log → below n log ≡ log
all_below n [] h = refl
all_below n (e ∷ rest) h =
    cond-true (nat_lt e.pass n) (e ∷ below n rest) (below n rest) (lt-ltb e.pass n (All-head (λ (d : Entry). d.pass < n) e rest h)) ∙ ap (λ (xs : List Entry). e ∷ xs) (all_below n rest (All-tail (λ (d : Entry). d.pass < n) e rest h))

one : Bool → ℕ
one b = cond b 1 0

count_kept : (f : Entry → Bool) (b : Bool) (e : Entry) (xs : List Entry) → count_by f (cond b (e ∷ xs) xs) ≡ cond b (cond (f e) 1 0) 0 + count_by f xs
count_kept f true e xs = sum_by-cons (λ (d : Entry). cond (f d) 1 0) e xs
count_kept f false e xs = omega arith

parted : (q n x : ℕ) → cond (nat_lt q (suc n)) x 0 ≡ cond (nat_lt q n) x 0 + cond (q == n) x 0
parted q n x = grind (arith, nat_tests)

one_pass_more : (f : Entry → Bool) (n : ℕ) (log : List Entry) → count_by f (below (suc n) log) ≡ count_by f (below n log) + count_by f (entries_of n log)
one_pass_more f n [] = refl
one_pass_more f n (e ∷ rest) =
    let x : ℕ = cond (f e) 1 0 in
    let more = count_kept f (nat_lt e.pass (suc n)) e (below (suc n) rest) in
    let less = count_kept f (nat_lt e.pass n) e (below n rest) in
    let own = count_kept f (e.pass == n) e (entries_of n rest) in
    let so = one_pass_more f n rest in
    let parts : cond (nat_lt e.pass (suc n)) (cond (f e) 1 0) 0 ≡ cond (nat_lt e.pass n) (cond (f e) 1 0) 0 + cond (e.pass == n) (cond (f e) 1 0) 0 = parted e.pass n (cond (f e) 1 0) in
    omega arith

-- ---- two counts, of which one is the lesser in each pass
module _ (f g : Entry → Bool) (log : List Entry) where
  low : (n : ℕ) → ((p : ℕ) → count_by f (entries_of p log) ≤ count_by g (entries_of p log)) → count_by f (below n log) ≤ count_by g (below n log)
  low zero h = let a = ap (count_by f) (none_below log) in omega arith
  low (suc n) h =
      let a : count_by f (below (suc n) log) ≡ count_by f (below n log) + count_by f (entries_of n log) = one_pass_more f n log in
      let b : count_by g (below (suc n) log) ≡ count_by g (below n log) + count_by g (entries_of n log) = one_pass_more g n log in
      let so = low n h in
      let here = h n in
      omega arith

  lower : (n p : ℕ) → ((q : ℕ) → count_by f (entries_of q log) ≤ count_by g (entries_of q log)) → p < n → count_by f (entries_of p log) < count_by g (entries_of p log) → count_by f (below n log) < count_by g (below n log)
  lower zero p h in' less = absurd (omega arith)
  lower (suc n) p h in' less =
      let a : count_by f (below (suc n) log) ≡ count_by f (below n log) + count_by f (entries_of n log) = one_pass_more f n log in
      let b : count_by g (below (suc n) log) ≡ count_by g (below n log) + count_by g (entries_of n log) = one_pass_more g n log in
      elim (cases_lt p n) as (λ _. count_by f (below (suc n) log) < count_by g (below (suc n) log)) [
        | inl under ↦ let so = lower n p h under less in let here = h n in omega arith
        | inr over ↦ let same : p ≡ n = omega arith in
            let here : count_by f (entries_of n log) < count_by g (entries_of n log) = subst (λ q. count_by f (entries_of q log) < count_by g (entries_of q log)) same less in
            let so = low n h in
            omega arith
      ]

  pub count_low : (n : ℕ) → All (λ e. e.pass < n) log → ((p : ℕ) → count_by f (entries_of p log) ≤ count_by g (entries_of p log)) → count_by f log ≤ count_by g log
  count_low n all h = subst (λ (xs : List Entry). count_by f xs ≤ count_by g xs) (all_below n log all) (low n h)

  pub count_lower : (n p : ℕ) → All (λ e. e.pass < n) log → ((q : ℕ) → count_by f (entries_of q log) ≤ count_by g (entries_of q log)) → p < n → count_by f (entries_of p log) < count_by g (entries_of p log) → count_by f log < count_by g log
  count_lower n p all h in' less = subst (λ (xs : List Entry). count_by f xs < count_by g xs) (all_below n log all) (lower n p h in' less)
