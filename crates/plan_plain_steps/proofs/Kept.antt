-- Those of a list that pass a test are no more than all.
use Rattle.std.proofs.Common.{◌≡◌, ◌+◌, ◌≤◌, Bool, not, List, filter, length, refl, arith}
use Rattle.std.proofs.lemmas.List.Filters.{length-filter_both}

pub kept_few : {X : Type 0} (p : X → Bool) (xs : List X) → length (filter p xs) ≤ length xs
kept_few {X = X} p xs =
    let both : length (filter p xs) + length (filter (λ (x : X). not (p x)) xs) ≡ length xs = length-filter_both p (λ (x : X). not (p x)) (λ x. refl) xs in
    omega arith
