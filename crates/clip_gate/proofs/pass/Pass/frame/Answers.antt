use Rattle.std.proofs.Common.{◌∙◌, ap}
use Rattle.plan_model.specs.States.{frame_of}
use Rattle.clip_gate.specs.Passes.{PassView, part_of}
use Rattle.clip_gate.proofs.Seatings.{sound_of}
use Rattle.clip_gate.proofs.pass.Pass.frame.Goals as goal

pub returns-clause-value : goal.returns-clause-value
returns-clause-value c = c.self.invariant.holds.frame ∙ ap (λ (q : PassView). frame_of (part_of q)) c.self.view_is

pub returns-clause-sound : goal.returns-clause-sound
returns-clause-sound c = sound_of c.self.inside.seat.table_id c.self.inside.seat.me c.args.self.now c.self.invariant.rests c.self.view_is
