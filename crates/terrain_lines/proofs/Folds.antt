-- The least and the greatest of a list are what a fold over it finds.
use Rattle.std.proofs.Common.{◌≡◌, ℤ, pos, ◌<◌, ◌≤ℤ◌, List, length, get_or, fold, refl, sym, subst, ⊎_elim, Contains, arith}
use Rattle.std.specs.Int.{int_min, int_max}
use Rattle.std.proofs.lemmas.Int.{ints, fold-int_min_bounds, fold-int_min_reached, fold-int_max_bounds, fold-int_max_reached}
use Rattle.height_pyramid.specs.Extremes.{IsLeast, IsGreatest}
use Rattle.terrain_lines.specs.Extremes.{least_of, most_of}

pub least_is : (v : ℤ) (xs : List ℤ) → IsLeast v xs → v ≡ least_of xs
unfolding least_of
least_is v xs least =
    let first = get_or xs 0 (pos 0) in
    let r = fold int_min first xs in
    let below = (fold-int_min_bounds first xs r refl).1 in
    let at = least.reached in
    let some : 0 < length xs = omega (arith, at.1) in
    let r_low : r ≤ℤ v = subst (λ z. r ≤ℤ z) at.2 (below at.0 v at.1) in
    let v_low : v ≤ℤ r =
    ⊎_elim (λ (e : r ≡ first). subst (λ z. v ≤ℤ z) (sym e) (least.none_below 0 (pos 0) some))
    (λ (there : Contains xs r). subst (λ z. v ≤ℤ z) there.2 (least.none_below there.0 r there.1))
    (fold-int_min_reached first xs r refl) in
    omega (arith, ints, r_low, v_low)

pub most_is : (v : ℤ) (xs : List ℤ) → IsGreatest v xs → v ≡ most_of xs
unfolding most_of
most_is v xs most =
    let first = get_or xs 0 (pos 0) in
    let r = fold int_max first xs in
    let above = (fold-int_max_bounds first xs r refl).1 in
    let at = most.reached in
    let some : 0 < length xs = omega (arith, at.1) in
    let v_low : v ≤ℤ r = subst (λ z. z ≤ℤ r) at.2 (above at.0 v at.1) in
    let r_low : r ≤ℤ v =
    ⊎_elim (λ (e : r ≡ first). subst (λ z. z ≤ℤ v) (sym e) (most.none_above 0 (pos 0) some))
    (λ (there : Contains xs r). subst (λ z. z ≤ℤ v) there.2 (most.none_above there.0 r there.1))
    (fold-int_max_reached first xs r refl) in
    omega (arith, ints, r_low, v_low)
