-- Numbers that are left to give.
use Rattle.std.proofs.Common.{◌≡◌, ℕ, zero, suc, ◌+◌, ◌-◌, ◌<◌, ◌≤◌, Bool, true, false, List, ◌∷◌, ◌++◌, replicate, refl, ap, ◌∙◌, arith}
use Rattle.gate_rule.specs.Flags.{flag, without, least, how_many}
use Rattle.swarm_passes.specs.Playing.{left_from}

abbrev given : ℕ → ℕ → List Bool
given n m = replicate n false ++ replicate m true

one_more : (n : ℕ) → 1 + n ≡ suc n
one_more n = omega arith

first_given : (n m : ℕ) → least (given n (suc m)) ≡ n
first_given zero m = refl
first_given (suc n) m = ap (λ (k : ℕ). 1 + k) (first_given n m) ∙ one_more n

given_more : (n m : ℕ) → without (given n (suc m)) n ≡ given (suc n) m
given_more zero m = refl
given_more (suc n) m = ap (λ (fs : List Bool). false ∷ fs) (given_more n m)

still_given : (n m p : ℕ) → n ≤ p → p < n + m → flag (given n m) p ≡ true
still_given zero zero p low high = absurd (omega arith)
still_given zero (suc m) zero low high = refl
still_given zero (suc m) (suc p) low high = still_given zero m p (omega arith) (omega arith)
still_given (suc n) m zero low high = absurd (omega arith)
still_given (suc n) m (suc p) low high = still_given n m p (omega arith) (omega arith)

some_given : (n m : ℕ) → 0 < how_many (given n (suc m))
some_given zero m = omega arith
some_given (suc n) m = let so = some_given n m in omega arith

rest : (n : ℕ) → n < 16 → left_from n ≡ given n (suc (15 - n))
rest n low = let e : 16 - n ≡ suc (15 - n) = omega arith in ap (given n) e

pub least_left : (n : ℕ) → n < 16 → least (left_from n) ≡ n
least_left n low = ap least (rest n low) ∙ first_given n (15 - n)

pub left_more : (n : ℕ) → n < 16 → without (left_from n) n ≡ left_from (suc n)
left_more n low =
    let e : 15 - n ≡ 16 - suc n = omega arith in
    ap (λ (fs : List Bool). without fs n) (rest n low) ∙ given_more n (15 - n) ∙ ap (given (suc n)) e

pub left_flag : (n p : ℕ) → n ≤ p → p < 16 → flag (left_from n) p ≡ true
left_flag n p low high = still_given n (16 - n) p low (omega arith)

pub some_left : (n : ℕ) → n < 16 → how_many (left_from n) ≡ 0 → ⊥
some_left n low none = let some = some_given n (15 - n) in let e = ap how_many (rest n low) in omega arith
