use Rattle.std.proofs.Common.{◌≡◌, ℕ, IsTrue, ap, sym, ◌∙◌}
use Rattle.plan_model.specs.States.{State}
use Rattle.plan_model.specs.Histories.{run_from}
use Rattle.plan_model.specs.Rounds.{is_settled, rounds, settle}
use Rattle.clip_rounds.specs.Parts.{Place, after_part, place_of}
use Rattle.clip_rounds.proofs.Flown.{flew_same, on_done}
use Rattle.clip_flights.proofs.settling.settle.Goals as goal

pub returns-clause-flew : goal.returns-clause-flew
unfolding settle
returns-clause-flew g c =
    let old = c.args.flight.now in
    flew_same g.S.Shelf.leaves old.book.land.terrain c.args.means.now.name.now (rounds c.cells_to_fill-most.result c.args.workers) (settle c.args.workers) c.fly_rounds.result (place_of old) (place_of c.fly_rounds.new.flight)
    (g.S.Shelf.told c.args.shelf.now) (g.S.Shelf.told c.fly_rounds.new.shelf) (g.K.Sink.told c.args.out.now) (g.K.Sink.told c.fly_rounds.new.out)
    (ap (λ (n : ℕ). rounds n c.args.workers (run_from old.book.plan.state)) (sym c.cells_to_fill-most.ensures)) c.fly_rounds.ensures.flew

pub returns-clause-settled : goal.returns-clause-settled
unfolding settle
returns-clause-settled g c =
    let old = c.args.flight.now in
    on_done c.fly_rounds.result (place_of c.fly_rounds.new.flight ≡ after_part old.book.land.terrain (rounds c.cells_to_fill-most.result c.args.workers) (place_of old)) (IsTrue (is_settled c.fly_rounds.new.flight.book.plan.state))
    (λ leads. ap (λ (at : Place). is_settled at.state) leads ∙ ap (λ (n : ℕ). is_settled (rounds n c.args.workers (run_from old.book.plan.state)).state) c.cells_to_fill-most.ensures
    ∙ c.settles_end.ensures c.args.workers (run_from old.book.plan.state) c.requires.some c.requires.workers c.requires.rest) c.fly_rounds.ensures.flew.leads
