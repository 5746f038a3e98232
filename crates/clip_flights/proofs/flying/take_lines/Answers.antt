use Rattle.std.proofs.lemmas.List.{at_drop_more, drop_all}
use Rattle.std.proofs.lemmas.Result.{err_from_is_err_and}
use Rattle.plan_model.specs.Histories.{run_from}
use Rattle.clip_flights.proofs.LongFlights.{flyable, flying_end, flying_halted, flying_more, flying_start}
use Rattle.clip_flights.proofs.flying.take_lines.Goals as goal

pub take_line-requires-clause-line : goal.take_line-requires-clause-line
take_line-requires-clause-line g c _ _ = c.requires.lines c.loop-line.line-index _ c.loop-line-test.true

pub loop-line-init : goal.loop-line-init
loop-line-init g c =
    flying_start g.S.Shelf.leaves c.args.means.now.name.now c.args.flight.now c.args.workers c.args.lines.now (g.S.Shelf.told c.args.shelf.now) (g.K.Sink.told c.args.out.now) c.requires.rest c.requires.moves c.requires.begun

pub loop-line-preserved : goal.loop-line-preserved
loop-line-preserved g c =
    flying_more g.S.Shelf.leaves c.args.means.now.name.now c.args.flight.now c.loop-line.flight c.args.workers c.args.lines.now c.loop-line.line-index
    (g.S.Shelf.told c.args.shelf.now) (g.S.Shelf.told c.loop-line.shelf) (g.K.Sink.told c.args.out.now) (g.K.Sink.told c.loop-line.out) c.loop-line.invariant
    c.take_line.new.flight _ (g.S.Shelf.told c.take_line.new.shelf) (g.K.Sink.told c.take_line.new.out) (at_drop_more (λ l. l) c.args.lines.now c.loop-line.line-index _ c.loop-line-test.true) c.in_ok-take_line.ensures.flew
    (c.lines_keep_rest.ensures c.args.workers (run_from c.loop-line.flight.book.plan.state) _ c.requires.workers (flyable _ (c.requires.lines c.loop-line.line-index _ c.loop-line-test.true)) c.loop-line.invariant.rest)
    c.in_ok-take_line.ensures.goes_on

pub returns-in_err-take_line : goal.returns-in_err-take_line
returns-in_err-take_line g c =
    let p = err_from_is_err_and c.from_residual.result c.from_residual.ensures.1 in
    record {
      flew =
          rw (p.1, p.2) (flying_halted g.S.Shelf.leaves c.args.means.now.name.now c.args.flight.now c.loop-line.flight c.args.workers c.args.lines.now c.loop-line.line-index
          (g.S.Shelf.told c.args.shelf.now) (g.S.Shelf.told c.loop-line.shelf) (g.K.Sink.told c.args.out.now) (g.K.Sink.told c.loop-line.out) c.loop-line.invariant
          c.take_line.new.flight _ (g.S.Shelf.told c.take_line.new.shelf) (g.K.Sink.told c.take_line.new.out) (at_drop_more (λ l. l) c.args.lines.now c.loop-line.line-index _ c.loop-line-test.true) _ c.in_err-take_line.ensures.flew);
    }

pub returns : goal.returns
returns g c = record {
  flew =
      flying_end g.S.Shelf.leaves c.args.means.now.name.now c.args.flight.now c.loop-line.flight c.args.workers c.args.lines.now c.loop-line.line-index
      (g.S.Shelf.told c.args.shelf.now) (g.S.Shelf.told c.loop-line.shelf) (g.K.Sink.told c.args.out.now) (g.K.Sink.told c.loop-line.out) c.loop-line.invariant
      (drop_all c.loop-line.line-index c.args.lines.now c.loop-line-test.false);
}
