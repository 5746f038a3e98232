use Rattle.std.proofs.Common.{Err, refl}
use Rattle.std.specs.List.{range_with_len}
use Rattle.std.proofs.lemmas.Result.{err_from_is_err_and}
use Rattle.plan_model.specs.Rounds.{claims, ending, finishes, publishes, round}
use Rattle.run_actions.specs.declared.halt.Halt.TheVariants as halt
use Rattle.clip_desk.specs.Desks.{Stays}
use Rattle.clip_desk.proofs.Stays.{stays_then}
use Rattle.clip_rounds.specs.Parts.{place_of}
use Rattle.clip_rounds.proofs.Flown.{flew_halted, flew_more, flew_over, flew_then, flew_wanting, on_done}
use Rattle.clip_rounds.proofs.Parts.{claims_part, home_part}
use Rattle.clip_rounds.proofs.rounds.fly_round.Goals as goal

pub returns-in-Ok-clause-flew : goal.returns-in-Ok-clause-flew
unfolding round
returns-in-Ok-clause-flew g c =
    let name = c.args.means.now.name.now in
    let old = c.args.flight.now in
    let claimed = c.claim_jobs.new.flight in
    let s = g.S.Shelf.told c.args.shelf.now in
    flew_then g.S.Shelf.leaves old.book.land.terrain name (λ run. claims run (range_with_len 0 c.args.workers)) (λ run. publishes (ending (finishes run))) (round c.args.workers) (claims_part (range_with_len 0 c.args.workers)) home_part (place_of old) refl
    c.in_ok-tasks.tasks c.take_home.result (place_of claimed) (place_of c.take_home.new.flight) s s (g.S.Shelf.told c.take_home.new.shelf) (g.K.Sink.told c.args.out.now) (g.K.Sink.told c.claim_jobs.new.out) (g.K.Sink.told c.take_home.new.out)
    (flew_more g.S.Shelf.leaves (c.in_ok-tasks.ensures.flew s name))
    (flew_over g.S.Shelf.leaves claimed.book.land old.book.land name (λ run. publishes (ending (finishes run))) c.take_home.result (place_of claimed) (place_of c.take_home.new.flight) s (g.S.Shelf.told c.take_home.new.shelf) (g.K.Sink.told c.claim_jobs.new.out) (g.K.Sink.told c.take_home.new.out) c.in_ok-tasks.ensures.stays.land c.take_home.ensures.flew)

pub returns-in-Err-clause-flew : goal.returns-in-Err-clause-flew
unfolding round
returns-in-Err-clause-flew g c =
    let name = c.args.means.now.name.now in
    let old = c.args.flight.now in
    let claimed = c.claim_jobs.new.flight in
    let s = g.S.Shelf.told c.args.shelf.now in
    let k1 = g.K.Sink.told c.claim_jobs.new.out in
    flew_then g.S.Shelf.leaves old.book.land.terrain name (λ run. claims run (range_with_len 0 c.args.workers)) (λ run. publishes (ending (finishes run))) (round c.args.workers) (claims_part (range_with_len 0 c.args.workers)) home_part (place_of old) refl
    c.in_ok-tasks.tasks (Err halt.NoMemory) (place_of claimed) (place_of claimed) s s s (g.K.Sink.told c.args.out.now) k1 k1
    (flew_more g.S.Shelf.leaves (c.in_ok-tasks.ensures.flew s name)) (flew_wanting g.S.Shelf.leaves old.book.land.terrain name (λ run. publishes (ending (finishes run))) (place_of claimed) (place_of claimed) s k1)

pub returns-in_err-tasks-clause-flew : goal.returns-in_err-tasks-clause-flew
unfolding round
returns-in_err-tasks-clause-flew g c =
    let name = c.args.means.now.name.now in
    let old = c.args.flight.now in
    let s = g.S.Shelf.told c.args.shelf.now in
    let p = err_from_is_err_and c.from_residual.result c.from_residual.ensures.1 in
    rw (p.1, p.2) (flew_halted g.S.Shelf.leaves old.book.land.terrain name (λ run. claims run (range_with_len 0 c.args.workers)) (λ run. publishes (ending (finishes run))) (round c.args.workers) (claims_part (range_with_len 0 c.args.workers)) home_part (place_of old) refl
    _ (place_of c.claim_jobs.new.flight) (place_of c.claim_jobs.new.flight) s s (g.K.Sink.told c.args.out.now) (g.K.Sink.told c.claim_jobs.new.out) (flew_more g.S.Shelf.leaves (c.in_err-tasks.ensures.flew s name)))

pub returns-in-Ok-clause-stays : goal.returns-in-Ok-clause-stays
returns-in-Ok-clause-stays g c =
    on_done c.take_home.result (Stays c.claim_jobs.new.flight.book c.take_home.new.flight.book) (Stays c.args.flight.now.book c.take_home.new.flight.book)
    (stays_then c.args.flight.now.book c.claim_jobs.new.flight.book c.take_home.new.flight.book c.in_ok-tasks.ensures.stays) c.take_home.ensures.stays
