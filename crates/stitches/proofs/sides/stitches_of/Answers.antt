-- Between even corners the number of steps is even.
use Rattle.std.proofs.Common.{◌*◌, ◌/◌, ap, ◌∙◌}
use Rattle.stitches.proofs.Ways.{even_steps}
use Rattle.stitches.proofs.sides.stitches_of.Goals as goal

pub returns-clause-value : goal.returns-clause-value
returns-clause-value c =
    ap (λ n. 2 * (n / 2)) c.steps_of.ensures.value ∙ even_steps c.args.ring.now c.args.side c.requires.border
