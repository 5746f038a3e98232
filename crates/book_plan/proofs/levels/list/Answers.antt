use Rattle.std.proofs.Common.{◌<◌, length, arith}
use Rattle.plan_model.specs.Strips.{pieces}
use Rattle.book_plan.specs.Slots.{fresh_slot}
use Rattle.book_plan.proofs.Lists.{some_left}
use Rattle.book_plan.proofs.levels.list.Goals as goal

pub push_reserved-requires : goal.push_reserved-requires
push_reserved-requires c =
    let room : length c.loop-piece.slots.items < 1089 = some_left fresh_slot c.loop-piece.slots.items c.in-Some.piece c.next.new.self c.loop-piece.piece-iterator (pieces c.args.strip) 1089 c.in-Some.ensures.steps c.loop-piece.invariant.2 c.requires.few in
    omega (arith, room, c.loop-piece.invariant.3, c.loop-piece.slots.ok.0)
