use Rattle.std.proofs.Common.{◌≡◌, ℕ, ◌-◌, ℤ, ap, ◌∙◌}
use mathlib.Core.Path.{ap₂}
use lib.Bits.{bit_and}
use Rattle.clip_regions.specs.FloorDivision.{floor_rem}
use Rattle.strip_planner.proofs.Masks.{masked}
use Rattle.strip_planner.proofs.tiles.tile_place.Goals as goal
use Rattle.clip_regions.proofs.Numbers.{read_back}

pub returns-clause-value : goal.returns-clause-value
returns-clause-value c =
    let place : c.place_of_32.result ≡ floor_rem c.args.b 32 = c.place_of_32.ensures ∙ ap (λ (z : ℤ). floor_rem z 32) (read_back c.args.b c.ranges.b) in
    ap₂ (λ (n m : ℕ). bit_and n (m - 1)) place c.tiles_per_side.ensures.value ∙ masked c.args.b c.args.k c.requires.low c.requires.high
