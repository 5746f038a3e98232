-- The three places are those of the definition.
use Rattle.std.proofs.Common.{[], ◌∷◌}
use Rattle.stitches.specs.Sides.{stitch_after}
use Rattle.stitches.proofs.sides.stitch.Goals as goal

pub returns : goal.returns
unfolding stitch_after
returns c = λ t. c.place_after.ensures t ∷ c.place_after-2.ensures t ∷ c.place_after-3.ensures t ∷ []
