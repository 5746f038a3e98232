use Rattle.std.proofs.Common.{ℤ, pos, ◌+ℤ◌, ◌∙◌, arith}
use Rattle.std.specs.Int.{int_gap}
use Rattle.std.proofs.lemmas.Int.{ints}
use mathlib.Core.Path.{ap₂}
use Rattle.plan_plain_pieces.proofs.Rows.{count_is}
use Rattle.plan_plain_pieces.proofs.strip_pieces.row_count.Goals as goal

pub returns-clause-value : goal.returns-clause-value
returns-clause-value c =
    count_is c.args.region.y0 c.args.region.y1 c.first_row-first.result c.last_row-last.result _ (record { below = c.first_row-first.ensures.below; above = c.first_row-first.ensures.above }) (record { below = c.last_row-last.ensures.below; above = c.last_row-last.ensures.above }) c.requires.order (omega (arith, ints)) ∙ ap₂ (λ (a b : ℤ). int_gap a (b +ℤ pos 1)) c.first_row-first.ensures.value c.last_row-last.ensures.value

pub returns-clause-inside : goal.returns-clause-inside
returns-clause-inside c = omega (arith, ints, c.first_row-first.ensures.value)
