-- Where the filled regions of a desk lie.
use Rattle.std.proofs.Common.{ℕ, ◌<◌, ◌^◌, length, sym, subst, inl, inr, arith}
use Rattle.std.proofs.lemmas.Int.{ints}
use Rattle.std.proofs.lemmas.List.{length-map}
use Rattle.clip_regions.specs.declared.region.Region.{Region}
use Rattle.clip_regions.specs.Regions.{empty_region, IsWithin}
use Rattle.plan_model.specs.States.{window_at}
use Rattle.plan_model.specs.Sound.{IsInside, IsPartOf, IsSoundLevel}
use Rattle.plan_sound.specs.Laws.{WindowsAreNear}
use Rattle.book_plan.specs.Slots.{level_of}
use Rattle.book_plan.specs.Desks.{Desk, state_of, shelf_at, IsStanding}
use Rattle.book_plan.proofs.Shelves.{level_is}

inside_placed : (window r : Region) → IsWithin (2 ^ 24) window → IsInside window r → IsWithin (2 ^ 28) r
inside_placed window r w h = record {
  x0_low = omega (arith, ints, w.x0_low, h.west);
  x0_high = omega (arith, ints, w.x1_high, h.columns, h.east);
  y0_low = omega (arith, ints, w.y0_low, h.north);
  y0_high = omega (arith, ints, w.y1_high, h.rows, h.south);
  x1_low = omega (arith, ints, w.x0_low, h.west, h.columns);
  x1_high = omega (arith, ints, w.x1_high, h.east);
  y1_low = omega (arith, ints, w.y0_low, h.north, h.rows);
  y1_high = omega (arith, ints, w.y1_high, h.south);
}

empty_placed : IsWithin (2 ^ 28) empty_region
empty_placed = record {
  x0_low = omega (arith, ints);
  x0_high = omega (arith, ints);
  y0_low = omega (arith, ints);
  y0_high = omega (arith, ints);
  x1_low = omega (arith, ints);
  x1_high = omega (arith, ints);
  y1_low = omega (arith, ints);
  y1_high = omega (arith, ints);
}

part_placed : (window r : Region) → IsWithin (2 ^ 24) window → IsPartOf window r → IsWithin (2 ^ 28) r
part_placed window r w (inl e) = subst (IsWithin (2 ^ 28)) (sym e) empty_placed
part_placed window r w (inr i) = inside_placed window r w i.inside

pub level_there : (d : Desk) (level : ℕ) → level < length d.levels → level < length (state_of d).levels
level_there d level h = omega (arith, length-map d.levels level_of, h)

pub shelf_sound : (d : Desk) (level : ℕ) → IsStanding d → level < length d.levels → IsSoundLevel (2 ^ 63) (window_at (state_of d) level) (level_of (shelf_at d level))
shelf_sound d level h there =
    subst (IsSoundLevel (2 ^ 63) (window_at (state_of d) level)) (level_is d.levels level) (h.sound.levels level (level_there d level there))

pub filled_placed : WindowsAreNear → (d : Desk) (level : ℕ) → IsStanding d → level < length d.levels → IsWithin (2 ^ 28) (shelf_at d level).filled
filled_placed near d level h there =
    part_placed (window_at (state_of d) level) (shelf_at d level).filled (near d.k level d.x d.y h.size h.viewer.column h.viewer.row) (shelf_sound d level h there).filled
