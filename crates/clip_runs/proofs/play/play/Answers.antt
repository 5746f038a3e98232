use Rattle.std.proofs.Common.{refl, ap}
use Rattle.plan_model.specs.States.{start_state}
use Rattle.book_plan.specs.Books.{PlanView}
use Rattle.run_actions.specs.declared.halt.Halt.TheVariants as halt
use Rattle.run_actions.proofs.Ends.{ran_none, within_none}
use Rattle.clip_runs.proofs.play.play.Goals as goal

pub take_steps-requires-clause-begun : goal.take_steps-requires-clause-begun
unfolding start_state
take_steps-requires-clause-begun g c _ _ = ap (λ (plan : PlanView). plan.state.begun) c.in-Ok.ensures.plan

pub returns-in-Err-clause-ran : goal.returns-in-Err-clause-ran
returns-in-Err-clause-ran g c =
    ran_none g.S.Shelf.leaves 0 _ halt.NoMemory (g.S.Shelf.told c.args.shelf.now) (g.S.Shelf.told c.args.shelf.now) (g.K.Sink.told c.args.out.now) refl
    (within_none (g.S.Shelf.told c.args.shelf.now).calls (g.S.Shelf.told c.args.shelf.now).calls refl)
