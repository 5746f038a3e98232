use Rattle.std.proofs.Common.{rules}
use Rattle.gate_rule.specs.Steps.{ground_in}
use Rattle.gate_rule.proofs.Seats.{joins}
use Rattle.gate_rule.proofs.Calls.{in_turn_of}
use Rattle.gate_rule.proofs.turns.take_over.Goals as goal

pub join_seat-requires : goal.join_seat-requires
join_seat-requires g c =
    let seat = c.enter-desk.new.seat in
    let t = in_turn_of c.args.seat.now.me seat.me c.enter-desk.result c.enter-desk.ensures.entered in
    (search rules, c.requires.other_table.same, c.requires.other_rests.slots, search rules, joins (ground_in c.args.table.now.shared.key) seat.id c.args.other.id seat.me.0 c.args.other.me.0 t.desk.turn c.requires.other_rests.live c.requires.other_rests.ticket c.requires.free)
