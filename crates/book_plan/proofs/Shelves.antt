-- The levels of a desk, and those of its state.
use Rattle.std.proofs.Common.{◌≡◌, ℕ, zero, suc, List, [], ◌∷◌, map, get_or, refl, ap}
use Rattle.plan_model.specs.States.{Level, empty_level}
use Rattle.book_plan.specs.Slots.{Shelf, empty_shelf, level_of}

pub level_is : (levels : List Shelf) (l : ℕ) → get_or (map level_of levels) l empty_level ≡ level_of (get_or levels l empty_shelf)
level_is [] l = refl
level_is (s ∷ levels) zero = refl
level_is (s ∷ levels) (suc l) = level_is levels l

pub filled_is : (levels : List Shelf) (l : ℕ) → (get_or (map level_of levels) l empty_level).filled ≡ (get_or levels l empty_shelf).filled
filled_is levels l = ap (λ (level : Level). level.filled) (level_is levels l)

pub plan_is : (levels : List Shelf) (l : ℕ) → (get_or (map level_of levels) l empty_level).plan ≡ (get_or levels l empty_shelf).plan
plan_is levels l = ap (λ (level : Level). level.plan) (level_is levels l)
