use Rattle.std.proofs.Common.{◌≡◌, ◌<◌, length, get_or, ap, ◌∙◌, arith}
use Rattle.std.proofs.lemmas.List.{get_or_default, length-set}
use Rattle.book_plan.specs.Slots.{Shelf, empty_shelf}
use Rattle.book_plan.proofs.Filled.{one_more, all_filled}
use Rattle.book_plan.proofs.frames.filled_regions.Goals as goal

pub loop-l-preserved : goal.loop-l-preserved
loop-l-preserved c =
    let inside : c.loop-l.l < length c.loop-l.filled = omega (arith, c.loop-l-test.true, c.requires, c.loop-l.invariant.0) in
    let here : c.filled.result ≡ (get_or c.args.levels.now c.loop-l.l empty_shelf).filled = c.filled.ensures ∙ ap (λ (s : Shelf). s.filled) (c.index-levels-l.is ∙ get_or_default c.args.levels.now c.loop-l.l c.index-levels-l.result empty_shelf c.loop-l-test.true) in
    (length-set c.loop-l.filled c.loop-l.l c.filled.result ∙ c.loop-l.invariant.0, one_more c.loop-l.filled c.args.levels.now c.loop-l.l c.filled.result inside here c.loop-l.invariant.1)

pub returns : goal.returns
returns c =
    all_filled c.loop-l.filled c.args.levels.now c.loop-l.l (omega (arith, c.requires, c.loop-l.invariant.0)) c.loop-l-test.false c.loop-l.invariant.1
