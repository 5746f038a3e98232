use Rattle.std.proofs.Common.{rules}
use Rattle.gate_rule.specs.Steps.{ground_in}
use Rattle.gate_rule.proofs.Seats.{splits}
use Rattle.gate_rule.proofs.Calls.{given_rests}
use Rattle.gate_rule.proofs.turns.split.Goals as goal

pub split_seat-requires : goal.split_seat-requires
split_seat-requires c =
    let seat = c.args.seat.now in
    (c.requires.table.same, search rules, splits (ground_in c.args.table.now.shared.key) seat.id seat.me.0 c.requires.rests.live c.requires.rests.ticket c.requires.some)

pub returns-clause-given_rests : goal.returns-clause-given_rests
returns-clause-given_rests c =
    given_rests c.args.seat.now.me _ c.requires.rests c.requires.some c.split_seat.ensures.4
