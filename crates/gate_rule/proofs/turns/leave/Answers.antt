use Rattle.std.proofs.Common.{rules, ap}
use Rattle.gate_rule.specs.Steps.{ground_in}
use Rattle.gate_rule.proofs.TurnSteps.{passes_on}
use Rattle.gate_rule.proofs.Calls.{may_pass, left_of}
use Rattle.gate_rule.proofs.turns.leave.Goals as goal

pub fetch_add-requires : goal.fetch_add-requires
fetch_add-requires c =
    let seat = c.exchange.new.seat in (
      search rules,
      search rules,
      passes_on (ground_in c.args.table.now.shared.key) c.args.table.now.shared.table_id.slots seat.id seat.me (may_pass c.args.seat.now.me seat.me c.args.desk c.requires.turn c.requires.stands c.exchange.ensures.3),
    )

pub returns-clause-left : goal.returns-clause-left
returns-clause-left c = left_of c.args.seat.now.me c.exchange.new.seat.me c.fetch_add.new.seat.me (ap (λ m. m.0) c.exchange.ensures.3) c.fetch_add.ensures.2
