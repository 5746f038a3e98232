use Rattle.std.proofs.Common.{◌≡◌, Ok, Err, ap, refl, sym, ◌∙◌, subst}
use Rattle.std.proofs.lemmas.Result.{err_from_is_err_and}
use Rattle.plan_model.specs.Limits.{IsLevelCount}
use Rattle.plan_model.specs.States.{start_state}
use Rattle.plan_flights.specs.Flights.{IsAtRest}
use Rattle.terrain_store.specs.Shapes.{Land}
use Rattle.book_plan.specs.Books.{PlanView}
use Rattle.run_actions.specs.declared.halt.Halt.TheVariants as halt
use Rattle.run_actions.proofs.Ends.{ran_none, within_none}
use Rattle.clip_rounds.proofs.OneEvent.{same_place}
use Rattle.clip_flights.proofs.LongFlights.{flown_start, start_rests, started_ran, started_tally}
use Rattle.clip_flights.proofs.flying.fly.Goals as goal

pub take_lines-requires-clause-rest : goal.take_lines-requires-clause-rest
take_lines-requires-clause-rest g c _ _ =
    let many = subst IsLevelCount (c.requires.levels ∙ ap (λ (l : Land). l.levels) (sym c.shape.ensures.names)) c.requires.sizes.many in
    subst IsAtRest (sym (ap (λ (plan : PlanView). plan.state) c.in-Ok.ensures.plan)) (start_rests c.flights_end_at_rest.ensures c.args.script.now.k c.shape.result.levels c.requires.sizes.size many)

pub take_lines-requires-clause-moves : goal.take_lines-requires-clause-moves
take_lines-requires-clause-moves g c _ _ = ap (λ (plan : PlanView). plan.moves) c.in-Ok.ensures.plan

pub take_lines-requires-clause-begun : goal.take_lines-requires-clause-begun
unfolding start_state
take_lines-requires-clause-begun g c _ _ = ap (λ (plan : PlanView). plan.state.begun) c.in-Ok.ensures.plan

pub returns-in_default-clause-ran : goal.returns-in_default-clause-ran
returns-in_default-clause-ran g c =
    ran_none g.S.Shelf.leaves 0 _ halt.NoMemory (g.S.Shelf.told c.args.shelf.now) (g.S.Shelf.told c.args.shelf.now) (g.K.Sink.told c.args.out.now) refl (within_none (g.S.Shelf.told c.args.shelf.now).calls (g.S.Shelf.told c.args.shelf.now).calls refl)

pub returns-clause-ran : goal.returns-clause-ran
returns-clause-ran g c =
    let script = c.args.script.now in
    let flew = rw c.as_slice-lines.ensures.value at c.in_ok-take_lines.ensures.flew in
    let start = same_place _ _ _ _ (ap (λ (plan : PlanView). plan.state) c.in-Ok.ensures.plan ∙ ap (start_state script.k) (ap (λ (l : Land). l.levels) c.shape.ensures.names ∙ sym c.requires.levels)) c.none.ensures in
    started_ran g.S.Shelf.leaves (g.F.Filler.land c.args.means.now.filler.now).terrain c.args.means.now.name.now script.k script.levels c.args.workers script.lines.items _ _ (g.S.Shelf.told c.args.shelf.now) (g.S.Shelf.told c.take_lines.new.shelf) (g.K.Sink.told c.args.out.now) (g.K.Sink.told c.take_lines.new.out)
    (flown_start g.S.Shelf.leaves (g.F.Filler.land c.args.means.now.filler.now) c.in-Ok.book.land c.args.means.now.name.now script.k script.levels c.args.workers script.lines.items _ _ (Ok tt) (Ok c.take_lines.new.flight.tally) (g.S.Shelf.told c.args.shelf.now) (g.S.Shelf.told c.take_lines.new.shelf) (g.K.Sink.told c.args.out.now) (g.K.Sink.told c.take_lines.new.out)
    (c.in-Ok.ensures.land ∙ c.shape.ensures.names) start tt flew)

pub returns-clause-tally : goal.returns-clause-tally
returns-clause-tally g c =
    let script = c.args.script.now in
    let flew = rw c.as_slice-lines.ensures.value at c.in_ok-take_lines.ensures.flew in
    let start = same_place _ _ _ _ (ap (λ (plan : PlanView). plan.state) c.in-Ok.ensures.plan ∙ ap (start_state script.k) (ap (λ (l : Land). l.levels) c.shape.ensures.names ∙ sym c.requires.levels)) c.none.ensures in
    started_tally g.S.Shelf.leaves (g.F.Filler.land c.args.means.now.filler.now).terrain c.args.means.now.name.now script.k script.levels c.args.workers script.lines.items _ c.take_lines.new.flight.tally (g.S.Shelf.told c.args.shelf.now) (g.S.Shelf.told c.take_lines.new.shelf) (g.K.Sink.told c.args.out.now) (g.K.Sink.told c.take_lines.new.out)
    (flown_start g.S.Shelf.leaves (g.F.Filler.land c.args.means.now.filler.now) c.in-Ok.book.land c.args.means.now.name.now script.k script.levels c.args.workers script.lines.items _ _ (Ok tt) (Ok c.take_lines.new.flight.tally) (g.S.Shelf.told c.args.shelf.now) (g.S.Shelf.told c.take_lines.new.shelf) (g.K.Sink.told c.args.out.now) (g.K.Sink.told c.take_lines.new.out)
    (c.in-Ok.ensures.land ∙ c.shape.ensures.names) start tt flew)

pub returns-in_err-take_lines-clause-ran : goal.returns-in_err-take_lines-clause-ran
returns-in_err-take_lines-clause-ran g c =
    let script = c.args.script.now in
    let flew = rw c.as_slice-lines.ensures.value at c.in_err-take_lines.ensures.flew in
    let start = same_place _ _ _ _ (ap (λ (plan : PlanView). plan.state) c.in-Ok.ensures.plan ∙ ap (start_state script.k) (ap (λ (l : Land). l.levels) c.shape.ensures.names ∙ sym c.requires.levels)) c.none.ensures in
    let p = err_from_is_err_and c.from_residual.result c.from_residual.ensures.1 in
    rw (p.1, p.2) (started_ran g.S.Shelf.leaves (g.F.Filler.land c.args.means.now.filler.now).terrain c.args.means.now.name.now script.k script.levels c.args.workers script.lines.items _ _ (g.S.Shelf.told c.args.shelf.now) (g.S.Shelf.told c.take_lines.new.shelf) (g.K.Sink.told c.args.out.now) (g.K.Sink.told c.take_lines.new.out)
    (flown_start g.S.Shelf.leaves (g.F.Filler.land c.args.means.now.filler.now) c.in-Ok.book.land c.args.means.now.name.now script.k script.levels c.args.workers script.lines.items _ _ (Err _) (Err _) (g.S.Shelf.told c.args.shelf.now) (g.S.Shelf.told c.take_lines.new.shelf) (g.K.Sink.told c.args.out.now) (g.K.Sink.told c.take_lines.new.out)
    (c.in-Ok.ensures.land ∙ c.shape.ensures.names) start refl flew))
