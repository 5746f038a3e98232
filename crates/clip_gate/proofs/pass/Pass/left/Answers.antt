use Rattle.clip_gate.proofs.Seatings.{sound_of}
use Rattle.clip_gate.proofs.pass.Pass.left.Goals as goal

pub returns-clause-sound : goal.returns-clause-sound
returns-clause-sound c = sound_of c.self.inside.seat.table_id c.self.inside.seat.me c.args.self.now c.self.invariant.rests c.self.view_is
