-- The strips and the least region by cases on what is empty, and the first of a list.
use Rattle.std.proofs.Common.{◌≡◌, true, false, [], ◌∷◌, filter}
use Rattle.clip_regions.specs.declared.region.Region.{Region}
use Rattle.clip_regions.specs.Regions.{is_empty}
use Rattle.plan_model.specs.Strips.{has_cell, left_of, right_of, above, below, strips, hull}
use Rattle.strip_planner.specs.Spans.{span}

pub strips_none : (filled window : Region) → is_empty filled ≡ true → strips filled window ≡ window ∷ []
unfolding strips
strips_none filled window h = rw h

pub strips_around : (filled window : Region) → is_empty filled ≡ false → strips filled window ≡ filter has_cell (left_of filled window ∷ right_of filled window ∷ above filled window ∷ below filled window ∷ [])
unfolding strips
strips_around filled window h = rw h

pub hull_right : (a b : Region) → is_empty a ≡ true → hull a b ≡ b
unfolding hull
hull_right a b h = rw h

pub hull_left : (a b : Region) → is_empty a ≡ false → is_empty b ≡ true → hull a b ≡ a
unfolding hull
hull_left a b h g = rw (h, g)

pub hull_both : (a b : Region) → is_empty a ≡ false → is_empty b ≡ false → hull a b ≡ span a b
unfolding hull span
hull_both a b h g = rw (h, g)
