use Rattle.std.proofs.Common.{sym, ◌∙◌}
use Rattle.plan_plain.proofs.SameAnswers.{same_answers}
use Rattle.plan_plain.proofs.histories.same_answer.Goals as goal

pub returns : goal.returns
returns c = record { value = (λ e. (same_answers c.args.a c.args.b).0 (sym c.eq.ensures ∙ e), λ e. c.eq.ensures ∙ (same_answers c.args.a c.args.b).1 e) }
