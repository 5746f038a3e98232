use Rattle.std.proofs.Common.{ap, ◌∙◌}
use Rattle.tile_pins.specs.Pinned.{Pinned, first_frame}
use Rattle.tile_pins.proofs.pins.Pins.first_frame.Goals as goal

pub returns : goal.returns
unfolding first_frame
returns c = c.least_on.ensures ∙ ap (λ (p : Pinned). first_frame p c.args.tile) c.self.view_is
