-- The facts that residuals keep, through a push.
use Rattle.std.proofs.Common.{◌≡◌, ℕ, ◌+◌, ℤ, pos, List, drop, set, All, sym, ◌∙◌, subst, arith}
use Rattle.std.proofs.lemmas.List.{drop-set-lt, drop-drop}
use Rattle.std.proofs.lemmas.List.Elements.{All-set, All-drop, All-same}
use Rattle.rice_residuals.specs.Code.{IsResidual}

pub all_in_range_set : (xs : List ℤ) (i : ℕ) (v w : ℤ) → w ≡ v → IsResidual v → All IsResidual xs → All IsResidual (set xs i w)
all_in_range_set xs i v w e p h = All-set IsResidual xs i w (subst (λ (x : ℤ). IsResidual x) (sym e) p) h

pub all_zero_set : (xs : List ℤ) (n i : ℕ) (w : ℤ) → i ≡ n → All (λ (x : ℤ). x ≡ pos 0) (drop n xs) → All (λ (x : ℤ). x ≡ pos 0) (drop (n + 1) (set xs i w))
all_zero_set xs n i w e h =
    let same : drop (n + 1) (set xs i w) ≡ drop 1 (drop n xs) = drop-set-lt (n + 1) xs i w (omega arith) ∙ sym (drop-drop 1 n xs) in
    All-same (λ (x : ℤ). x ≡ pos 0) (drop (n + 1) (set xs i w)) (drop 1 (drop n xs)) same (All-drop (λ (x : ℤ). x ≡ pos 0) 1 (drop n xs) h)
