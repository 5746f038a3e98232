use Rattle.clip_gate.proofs.Seatings.{closes_of, all_of}
use Rattle.std.proofs.Common.{ap, ◌∙◌}
use Rattle.clip_gate.proofs.clip.Clip.close.Goals as goal

pub returns-in-Ok-clause-closes : goal.returns-in-Ok-clause-closes
returns-in-Ok-clause-closes c = closes_of c.pass.inside.seat.table_id c.pass.inside.seat.me.0 c.args.pass c.in-Ok.field-0 c.pass.view_is c.in-Ok.ensures.ends

pub returns-in-Ok-clause-whole : goal.returns-in-Ok-clause-whole
returns-in-Ok-clause-whole c all =
    c.in-Ok.ensures.whole (all_of c.pass.inside.seat.table_id c.pass.inside.seat.me.0 c.args.pass c.pass.view_is all) ∙ ap (λ q. q.history) c.pass.view_is
