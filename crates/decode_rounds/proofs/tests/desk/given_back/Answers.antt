use Rattle.std.proofs.Common.{List, ◌∙◌, subst}
use Rattle.std.specs.Vec.Iter.{into_iter_items}
use Rattle.decode_rounds.specs.declared.tasks.Done.{Done}
use Rattle.decode_rounds.specs.Homes.{AllGoBack}
use Rattle.decode_rounds.proofs.tests.desk.given_back.Goals as goal

pub one_back-requires-clause-back : goal.one_back-requires-clause-back
one_back-requires-clause-back g c =
    (subst (λ (all : List Done). AllGoBack c.loop-done.book c.loop-done.pass all) c.in-Some.ensures.steps.0 c.loop-done.invariant.1).0

pub loop-done-preserved : goal.loop-done-preserved
loop-done-preserved g c =
    let left = subst (λ (all : List Done). AllGoBack c.loop-done.book c.loop-done.pass all) c.in-Some.ensures.steps.0 c.loop-done.invariant.1 in
    (c.one_back.ensures.land ∙ c.loop-done.invariant.0, c.one_back.ensures.rest (into_iter_items c.next.new.self) left.1)
