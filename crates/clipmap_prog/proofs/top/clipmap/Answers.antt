use Rattle.std.proofs.Common.{map, string_bytes}
use Rattle.clipmap_prog.specs.Commands.{outcome}
use Rattle.clipmap_prog.proofs.Standing.{stands_of, complete_of, shelf_calls_of, sink_calls_of}
use Rattle.clipmap_prog.proofs.top.clipmap.Goals as goal

pub returns-clause-stands_where_told : goal.returns-clause-stands_where_told
returns-clause-stands_where_told g c = λ verdict right.
    stands_of g.S.Shelf.leaves (outcome verdict (map string_bytes c.args.words.now)) (g.S.Shelf.told c.args.shelf.now) (g.S.Shelf.told c.run_words.new.shelf) (g.K.Sink.told c.args.out.now) (g.K.Sink.told c.run_words.new.out)
    c.run_words.result c.status.result c.status.ensures.value c.run_words.ensures.small (c.run_words.ensures.runs verdict right)

pub returns-clause-complete_where_told : goal.returns-clause-complete_where_told
returns-clause-complete_where_told g c = λ verdict right.
    complete_of g.S.Shelf.leaves (outcome verdict (map string_bytes c.args.words.now)) (g.S.Shelf.told c.args.shelf.now) (g.S.Shelf.told c.run_words.new.shelf) (g.K.Sink.told c.args.out.now) (g.K.Sink.told c.run_words.new.out)
    c.run_words.result c.status.result c.status.ensures.value c.run_words.ensures.reason (c.run_words.ensures.runs verdict right)

pub returns-clause-shelf_calls_where_told : goal.returns-clause-shelf_calls_where_told
returns-clause-shelf_calls_where_told g c = λ verdict right.
    shelf_calls_of g.S.Shelf.leaves (outcome verdict (map string_bytes c.args.words.now)) (g.S.Shelf.told c.args.shelf.now) (g.S.Shelf.told c.run_words.new.shelf) (g.K.Sink.told c.args.out.now) (g.K.Sink.told c.run_words.new.out)
    c.run_words.result (c.run_words.ensures.runs verdict right)

pub returns-clause-sink_calls_where_told : goal.returns-clause-sink_calls_where_told
returns-clause-sink_calls_where_told g c = λ verdict right.
    sink_calls_of g.S.Shelf.leaves (outcome verdict (map string_bytes c.args.words.now)) (g.S.Shelf.told c.args.shelf.now) (g.S.Shelf.told c.run_words.new.shelf) (g.K.Sink.told c.args.out.now) (g.K.Sink.told c.run_words.new.out)
    c.run_words.result (c.run_words.ensures.runs verdict right)
