-- One more number of a range, at its end or counted down.
use Rattle.std.proofs.Common.{◌≡◌, ℕ, ◌+◌, ◌-◌, ◌≤◌, List, [], ◌∷◌, ◌++◌, ap, sym, ◌∙◌, arith}
use Rattle.std.specs.List.{range_with_len}
use Rattle.std.proofs.lemmas.List.FromFn.{map-range_with_len_more}
use Rattle.std.proofs.lemmas.List.{map-id}

-- one more number of a range that begins anywhere
pub ranged_from : (a i : ℕ) → a ≤ i → range_with_len a (i + 1 - a) ≡ range_with_len a (i - a) ++ i ∷ []
ranged_from a i h =
    let next : i + 1 - a ≡ (i - a) + 1 = omega arith in
    ap (range_with_len a) next ∙ sym (map-id (range_with_len a ((i - a) + 1))) ∙ map-range_with_len_more (λ (n : ℕ). n) a (i - a) i (omega arith) ∙ ap (λ (xs : List ℕ). xs ++ i ∷ []) (map-id (range_with_len a (i - a)))
