-- The least and the greatest of a list that a fold has found.
use Rattle.std.proofs.Common.{◌≡◌, ℤ, pos, ◌<◌, List, length, get_or, fold, sym, ◌∙◌, ⊎_elim, Contains}
use Rattle.std.specs.Int.{int_min, int_max}
use Rattle.std.proofs.lemmas.Int.{fold-int_min_bounds, fold-int_min_reached, fold-int_max_bounds, fold-int_max_reached}
use Rattle.std.proofs.lemmas.List.{get_or_default}
use Rattle.height_pyramid.specs.Extremes.{IsLeast, IsGreatest}

-- the first element is an element
first_is_there : (xs : List ℤ) (r : ℤ) → 0 < length xs → r ≡ get_or xs 0 (pos 0) → Contains xs r
first_is_there xs r some first = (0, some, get_or_default xs 0 r (pos 0) some ∙ sym first)

pub least_by_fold : (xs : List ℤ) (r : ℤ) → 0 < length xs → r ≡ fold int_min (get_or xs 0 (pos 0)) xs → IsLeast r xs
least_by_fold xs r some found = record {
  reached = ⊎_elim (λ (first : r ≡ get_or xs 0 (pos 0)). first_is_there xs r some first) (λ (there : Contains xs r). there) (fold-int_min_reached (get_or xs 0 (pos 0)) xs r found);
  none_below = (fold-int_min_bounds (get_or xs 0 (pos 0)) xs r found).1;
}

pub greatest_by_fold : (xs : List ℤ) (r : ℤ) → 0 < length xs → r ≡ fold int_max (get_or xs 0 (pos 0)) xs → IsGreatest r xs
greatest_by_fold xs r some found = record {
  reached = ⊎_elim (λ (first : r ≡ get_or xs 0 (pos 0)). first_is_there xs r some first) (λ (there : Contains xs r). there) (fold-int_max_reached (get_or xs 0 (pos 0)) xs r found);
  none_above = (fold-int_max_bounds (get_or xs 0 (pos 0)) xs r found).1;
}
