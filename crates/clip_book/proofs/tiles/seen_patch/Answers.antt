use Rattle.std.proofs.Common.{ap, ◌∙◌}
use mathlib.Core.Path.{ap₂}
use Rattle.clip_regions.proofs.Numbers.{read_back}
use Rattle.std.proofs.Common.{ℤ, pos, ◌+ℤ◌}
use Rattle.clip_book.specs.Tiles.{seen}
use Rattle.clip_book.proofs.tiles.seen_patch.Goals as goal

pub returns-clause-heights : goal.returns-clause-heights
returns-clause-heights c = λ a b l m.
    c.seen_square-h.ensures a b l m
    ∙ ap₂ (λ (x y : ℤ). seen c.args.torus.now c.args.region (x +ℤ pos a) (y +ℤ pos b)) (read_back c.args.i0 c.ranges.i0) (read_back c.args.j0 c.ranges.j0)
