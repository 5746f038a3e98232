-- One more number of a range, at its end or counted down.
use Rattle.std.proofs.Common.{◌≡◌, ℕ, suc, ◌+◌, ◌-◌, ◌<◌, ◌≤◌, List, [], ◌∷◌, ◌++◌, flat_map, reverse, ap, sym, ◌∙◌, arith}
use Rattle.std.specs.List.{range_with_len}
use Rattle.std.proofs.lemmas.List.FromFn.{map-range_with_len_more}
use Rattle.std.proofs.lemmas.List.{map-id, flat_map_more, reverse-append}

pub ranged : (i : ℕ) → range_with_len 0 (i + 1) ≡ range_with_len 0 i ++ i ∷ []
ranged i =
    sym (map-id (range_with_len 0 (i + 1))) ∙ map-range_with_len_more (λ (n : ℕ). n) 0 i i (omega arith) ∙ ap (λ (xs : List ℕ). xs ++ i ∷ []) (map-id (range_with_len 0 i))

counted_down : (l m : ℕ) → reverse (range_with_len l (suc m)) ≡ reverse (range_with_len (l + 1) m) ++ l ∷ []
counted_down l m = reverse-append (l ∷ []) (range_with_len (l + 1) m)

-- one more number of a range that is counted down
pub down : (l n : ℕ) → l < n → reverse (range_with_len l (n - l)) ≡ reverse (range_with_len (l + 1) (n - (l + 1))) ++ l ∷ []
down l n h =
    let e : n - l ≡ suc (n - (l + 1)) = omega arith in
    ap (λ (m : ℕ). reverse (range_with_len l m)) e ∙ counted_down l (n - (l + 1))

-- and of what is made of each
pub down_more : {X : Type 0} (f : ℕ → List X) (l n : ℕ) (old new : List X) → l < n → old ≡ flat_map f (reverse (range_with_len (l + 1) (n - (l + 1)))) → new ≡ old ++ f l → new ≡ flat_map f (reverse (range_with_len l (n - l)))
down_more {X = X} f l n old new h e g =
    g ∙ ap (λ (xs : List X). xs ++ f l) e ∙ flat_map_more f [] (reverse (range_with_len (l + 1) (n - (l + 1)))) l ∙ ap (flat_map f) (sym (down l n h))

-- the same from the last number that was counted
pub down_from : {X : Type 0} (f : ℕ → List X) (j n : ℕ) (old new : List X) → 0 < j → j ≤ n → old ≡ flat_map f (reverse (range_with_len j (n - j))) → new ≡ old ++ f (j - 1) → new ≡ flat_map f (reverse (range_with_len (j - 1) (n - (j - 1))))
down_from {X = X} f j n old new some few e g =
    let back : j ≡ (j - 1) + 1 = omega arith in
    let below : j - 1 < n = omega arith in
    down_more f (j - 1) n old new below (e ∙ ap (λ (i : ℕ). flat_map f (reverse (range_with_len i (n - i)))) back) g
