use Rattle.std.proofs.Common.{rules, ◌≡◌, List, Option, Some, [], ◌∷◌, subst, sym}
use Rattle.atomic_table.specs.Table.{opening}
use Rattle.gate_rule.specs.Rule.{Kept, first_view}
use Rattle.gate_rule.specs.Steps.{ground_in, Rests}
use Rattle.gate_rule.specs.declared.journal.Desk.{Desk}
use Rattle.gate_rule.proofs.Seats.{opens}
use Rattle.gate_rule.proofs.Calls.{first_rests}
use Rattle.gate_rule.proofs.turns.open.Goals as goal

pub new-requires : goal.new-requires
new-requires c =
    let gr = ground_in c.args.key.now in
    let slots : c.push_reserved.new.self.items ≡ Some c.args.desk ∷ [] = search rules in
    subst (λ (xs : List (Option Desk)). Kept gr (opening (0 ∷ 0 ∷ 0 ∷ []) xs (first_view gr))) (sym slots) (opens gr c.args.desk c.requires)

pub returns-in-Ok-new-clause-rests : goal.returns-in-Ok-new-clause-rests
returns-in-Ok-new-clause-rests c =
    let is : c.in-Ok-new.both.1.me ≡ (first_view (ground_in c.args.key.now), []) = search rules in
    subst Rests (sym is) (first_rests (ground_in c.args.key.now))
