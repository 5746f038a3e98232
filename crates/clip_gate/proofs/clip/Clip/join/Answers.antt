use Rattle.std.proofs.Common.{subst}
use Rattle.clip_gate.specs.Passes.{PassView, pass_of}
use Rattle.clip_gate.specs.Calls.{IsJoined}
use Rattle.clip_gate.proofs.Seatings.{joined_whole, joined_is}
use Rattle.clip_gate.proofs.clip.Clip.join.Goals as goal

pub invariant_of-pass : goal.invariant_of-pass
invariant_of-pass g c =
    joined_whole c.pass.inside.seat.table_id c.take_over.new.seat.table_id c.pass.inside.seat.me c.other.inside.seat.me c.take_over.new.seat.me c.pass.inside.number c.pass.inside.left c.other.inside.left c.add.new.flags c.pass.inside.part c.pass.invariant c.other.invariant.giving c.take_over.ensures.taken c.add.ensures

pub returns : goal.returns
returns g c =
    let table = c.pass.inside.seat.table_id in
    let theirs = c.other.inside.seat in
    let after = c.take_over.new.seat in
    record {
      joined =
          subst (λ (q : PassView). IsJoined q c.args.other (pass_of after.table_id after.me.0)) c.pass.view_is
          (subst (λ (q : PassView). IsJoined (pass_of table c.pass.inside.seat.me.0) q (pass_of after.table_id after.me.0)) c.other.view_is
          (joined_is table after.table_id theirs.table_id c.pass.inside.seat.me theirs.me after.me c.take_over.ensures.table c.pass.invariant.rests c.take_over.ensures.taken));
    }
