use Rattle.std.proofs.Common.{rules, subst, ◌+◌, ◌%◌, ◌^◌}
use Rattle.atomic_table.specs.Table.{Allows}
use Rattle.gate_rule.specs.Rule.{Kept}
use Rattle.gate_rule.specs.Plays.{Counted}
use Rattle.gate_rule.specs.Steps.{ground_in}
use Rattle.gate_rule.proofs.TurnSteps.{counts}
use Rattle.gate_rule.proofs.turns.count.Goals as goal

pub fetch_add-requires : goal.fetch_add-requires
fetch_add-requires g c =
    let seat = c.args.seat.now in (
      c.requires.table.same,
      search rules,
      subst (λ d. Allows (Kept (ground_in c.args.table.now.shared.key)) c.args.table.now.shared.table_id.slots seat.id seat.me 2 (λ n. (n + 1) % 2 ^ 64) (λ found after. Counted d seat.me after)) c.requires.said
          (counts (ground_in c.args.table.now.shared.key) c.args.table.now.shared.table_id.slots seat.id seat.me c.args.entry c.args.desk.now c.requires.turn c.requires.adds),
    )
