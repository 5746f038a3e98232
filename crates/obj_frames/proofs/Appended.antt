-- What a text is after pieces were appended to it one after another.
use Rattle.std.proofs.Common.{◌≡◌, ℕ, List, [], ◌++◌, ap, ◌∙◌, append_assoc}
use Rattle.std.specs.Prelude.{Result, OnOk}
use Rattle.std.proofs.lemmas.Result.{on_ok_weaker}

-- one piece more
pub appended : (old a b mid new : List ℕ) → mid ≡ old ++ a → new ≡ mid ++ b → new ≡ old ++ (a ++ b)
appended old a b mid new before last = last ∙ ap (λ text. text ++ b) before ∙ append_assoc old a b

-- one piece more, where the call that appends it may fail
pub appended_last : {T E : Type 0} (r : Result T E) (old a b mid new : List ℕ) → mid ≡ old ++ a → OnOk r (new ≡ mid ++ b) → OnOk r (new ≡ old ++ (a ++ b))
appended_last r old a b mid new before last = on_ok_weaker r (appended old a b mid new before) last

-- four pieces
pub four_pieces : (t0 t1 t2 t3 t4 a b d e : List ℕ) → t0 ≡ [] → t1 ≡ t0 ++ a → t2 ≡ t1 ++ b → t3 ≡ t2 ++ d → t4 ≡ t3 ++ e → t4 ≡ ((a ++ b) ++ d) ++ e
four_pieces t0 t1 t2 t3 t4 a b d e none first second third fourth =
    appended t0 ((a ++ b) ++ d) e t3 t4 (appended t0 (a ++ b) d t2 t3 (appended t0 a b t1 t2 first second) third) fourth
    ∙ ap (λ text. text ++ (((a ++ b) ++ d) ++ e)) none
