use Rattle.std.proofs.Common.{◌≡◌, suc, ◌+◌, ap, ◌∙◌, arith}
use Rattle.swarm_passes.specs.Playing.{left_from}
use Rattle.swarm_passes.proofs.Started.{none_out, split_started}
use Rattle.clip_swarm.proofs.passes.split_off.Goals as goal

pub unreachable-requires : goal.unreachable-requires
unreachable-requires c = none_out c.args.number c.args.first.now c.requires.low c.requires.left c.in-Err.ensures.none

pub returns-clause-left : goal.returns-clause-left
returns-clause-left c =
    let next : suc c.args.number ≡ c.args.number + 1 = omega arith in
    (split_started c.args.clip.now c.args.number c.args.first.now c.split.new.pass c.in-Ok.other c.requires.low c.requires.first c.requires.left c.in-Ok.ensures.split).left ∙ ap left_from next

pub returns-clause-other : goal.returns-clause-other
returns-clause-other c =
    (split_started c.args.clip.now c.args.number c.args.first.now c.split.new.pass c.in-Ok.other c.requires.low c.requires.first c.requires.left c.in-Ok.ensures.split).other
