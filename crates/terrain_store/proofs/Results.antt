-- An answer is no refusal.
use Rattle.std.proofs.Common.{◌≡◌, ◌⊎◌, Bool, true, false, Result, Ok, Err, ap, ⊎_elim}

is_ok : {T E : Type 0} → Result T E → Bool
is_ok (Ok x) = true
is_ok (Err e) = false

pub no_fault : {T E : Type 0} (x : T) (a b : E) → (Ok x ≡ Err a) ⊎ (Ok x ≡ Err b) → ⊥
unfolding is_ok
no_fault x a b either =
    ⊎_elim
    (λ (e : Ok x ≡ Err a). let no : true ≡ false = ap is_ok e in absurd cc)
    (λ (e : Ok x ≡ Err b). let no : true ≡ false = ap is_ok e in absurd cc)
    either
