use Rattle.std.proofs.Common.{Ok, Err, refl, ◌∙◌}
use Rattle.std.proofs.lemmas.Result.{err_from_is_err_and}
use Rattle.plan_model.specs.Rounds.{ending, finishes, publishes}
use Rattle.clip_desk.specs.Desks.{Stays}
use Rattle.clip_desk.proofs.Stays.{stays_then}
use Rattle.clip_rounds.specs.Parts.{place_of}
use Rattle.clip_rounds.proofs.Flown.{always, flew_halted, flew_more, flew_over, flew_then, on_done}
use Rattle.clip_rounds.proofs.Parts.{ending_part, finishes_part, publishes_part, then_part}
use Rattle.clip_rounds.proofs.RoundSteps.{drawn_stays}
use Rattle.clip_rounds.proofs.rounds.take_home.Goals as goal

pub end_frame-requires-clause-mesh : goal.end_frame-requires-clause-mesh
end_frame-requires-clause-mesh g c _ _ = drawn_stays c.args.flight.now.book c.give_jobs.new.flight.book c.args.worked.mesh c.in_ok-give_jobs.ensures.stays c.in_ok-give_jobs.ensures.frame c.requires.mesh

pub returns-clause-flew : goal.returns-clause-flew
returns-clause-flew g c =
    let name = c.args.means.now.name.now in
    let old = c.args.flight.now in
    let given = c.give_jobs.new.flight in
    let ended = c.end_frame.new.flight in
    let last = c.publish_ripe.new.flight in
    let s = g.S.Shelf.told c.args.shelf.now in
    let s1 = g.S.Shelf.told c.end_frame.new.shelf in
    let k = g.K.Sink.told c.args.out.now in
    let k1 = g.K.Sink.told c.give_jobs.new.out in
    let k2 = g.K.Sink.told c.end_frame.new.out in
    let k3 = g.K.Sink.told c.publish_ripe.new.out in
    let land = old.book.land in
    flew_then g.S.Shelf.leaves land.terrain name finishes (λ run. publishes (ending run)) (λ run. publishes (ending (finishes run))) finishes_part (then_part ending publishes ending_part publishes_part) (place_of old) refl
    tt c.publish_ripe.result (place_of given) (place_of last) s s s1 k k1 k3 (flew_more g.S.Shelf.leaves (c.in_ok-give_jobs.ensures.flew s name))
    (flew_then g.S.Shelf.leaves land.terrain name ending publishes (λ run. publishes (ending run)) ending_part publishes_part (place_of given) refl
    tt c.publish_ripe.result (place_of ended) (place_of last) s s1 s1 k1 k2 k3
    (flew_over g.S.Shelf.leaves given.book.land land name ending (Ok tt) (place_of given) (place_of ended) s s1 k1 k2 c.in_ok-give_jobs.ensures.stays.land c.in_ok-end_frame.ensures.flew)
    (flew_over g.S.Shelf.leaves ended.book.land land name publishes c.publish_ripe.result (place_of ended) (place_of last) s1 s1 k2 k3 (c.in_ok-end_frame.ensures.stays.land ∙ c.in_ok-give_jobs.ensures.stays.land) (flew_more g.S.Shelf.leaves (c.publish_ripe.ensures.flew s1 name))))

pub returns-in_err-end_frame-clause-flew : goal.returns-in_err-end_frame-clause-flew
returns-in_err-end_frame-clause-flew g c =
    let name = c.args.means.now.name.now in
    let old = c.args.flight.now in
    let given = c.give_jobs.new.flight in
    let ended = c.end_frame.new.flight in
    let s = g.S.Shelf.told c.args.shelf.now in
    let s1 = g.S.Shelf.told c.end_frame.new.shelf in
    let k = g.K.Sink.told c.args.out.now in
    let k1 = g.K.Sink.told c.give_jobs.new.out in
    let k2 = g.K.Sink.told c.end_frame.new.out in
    let land = old.book.land in
    let p = err_from_is_err_and c.from_residual-in_err-end_frame.result c.from_residual-in_err-end_frame.ensures.1 in
    rw (p.1, p.2) (flew_then g.S.Shelf.leaves land.terrain name finishes (λ run. publishes (ending run)) (λ run. publishes (ending (finishes run))) finishes_part (then_part ending publishes ending_part publishes_part) (place_of old) refl
    tt (Err _) (place_of given) (place_of ended) s s s1 k k1 k2 (flew_more g.S.Shelf.leaves (c.in_ok-give_jobs.ensures.flew s name))
    (flew_halted g.S.Shelf.leaves land.terrain name ending publishes (λ run. publishes (ending run)) ending_part publishes_part (place_of given) refl
    _ (place_of ended) (place_of ended) s s1 k1 k2
    (flew_over g.S.Shelf.leaves given.book.land land name ending (Err _) (place_of given) (place_of ended) s s1 k1 k2 c.in_ok-give_jobs.ensures.stays.land c.in_err-end_frame.ensures.flew)))

pub returns-in_err-give_jobs-clause-flew : goal.returns-in_err-give_jobs-clause-flew
returns-in_err-give_jobs-clause-flew g c =
    let name = c.args.means.now.name.now in
    let s = g.S.Shelf.told c.args.shelf.now in
    let p = err_from_is_err_and c.from_residual.result c.from_residual.ensures.1 in
    rw (p.1, p.2) (flew_halted g.S.Shelf.leaves c.args.flight.now.book.land.terrain name finishes (λ run. publishes (ending run)) (λ run. publishes (ending (finishes run))) finishes_part (then_part ending publishes ending_part publishes_part) (place_of c.args.flight.now) refl
    _ (place_of c.give_jobs.new.flight) (place_of c.give_jobs.new.flight) s s (g.K.Sink.told c.args.out.now) (g.K.Sink.told c.give_jobs.new.out) (flew_more g.S.Shelf.leaves (c.in_err-give_jobs.ensures.flew s name)))

pub returns-clause-stays : goal.returns-clause-stays
returns-clause-stays g c =
    on_done c.publish_ripe.result (Stays c.end_frame.new.flight.book c.publish_ripe.new.flight.book) (Stays c.args.flight.now.book c.publish_ripe.new.flight.book)
    (λ last. stays_then c.args.flight.now.book c.give_jobs.new.flight.book c.publish_ripe.new.flight.book c.in_ok-give_jobs.ensures.stays (stays_then c.give_jobs.new.flight.book c.end_frame.new.flight.book c.publish_ripe.new.flight.book c.in_ok-end_frame.ensures.stays last))
    (always c.publish_ripe.result c.publish_ripe.ensures.stays)
