use Rattle.std.proofs.Common.{ℤ, pos, ◌+ℤ◌, ◌∙◌, arith}
use Rattle.std.specs.Int.{int_gap}
use Rattle.std.proofs.lemmas.Int.{ints}
use mathlib.Core.Path.{ap₂}
use Rattle.plan_plain_pieces.proofs.Rows.{count_is}
use Rattle.plan_plain_pieces.proofs.strip_pieces.column_count.Goals as goal

pub returns-clause-value : goal.returns-clause-value
returns-clause-value c =
    count_is c.args.region.x0 c.args.region.x1 c.first_column-first.result c.last_column-last.result _ (record { below = c.first_column-first.ensures.below; above = c.first_column-first.ensures.above }) (record { below = c.last_column-last.ensures.below; above = c.last_column-last.ensures.above }) c.requires.order (omega (arith, ints)) ∙ ap₂ (λ (a b : ℤ). int_gap a (b +ℤ pos 1)) c.first_column-first.ensures.value c.last_column-last.ensures.value

pub returns-clause-inside : goal.returns-clause-inside
returns-clause-inside c = omega (arith, ints, c.first_column-first.ensures.value)
