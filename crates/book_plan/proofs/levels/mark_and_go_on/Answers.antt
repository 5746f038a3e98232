use Rattle.std.proofs.Common.{arith}
use Rattle.book_plan.proofs.Marks.{mark_kept}
use Rattle.book_plan.proofs.levels.mark_and_go_on.Goals as goal

pub next_open-requires-clause-before : goal.next_open-requires-clause-before
next_open-requires-clause-before c =
    λ n d b. mark_kept c.args.piece c.args.slots.now c.mark.new.slots n d c.mark.ensures (omega (arith, c.requires.inside)) (c.requires.before n d b)
