use Rattle.std.proofs.Common.{◌∷◌, [], string_bytes, arith}
use Rattle.run_actions.specs.Actions.{Write}
use Rattle.run_actions.proofs.Writing.{reason_after, write_and}
use Rattle.clipmap_prog.proofs.info.write_lines.Goals as goal

pub returns-clause-ran : goal.returns-clause-ran
returns-clause-ran g c = λ shelf.
    let lines = c.args.lines.now in
    let two = rw (c.as_str.ensures.value, c.as_str-2.ensures.value) at c.write_two.ensures.ran shelf in
    write_and (string_bytes lines.terrain) (Write (string_bytes lines.heights) ∷ Write (string_bytes lines.source) ∷ []) c.as_bytes.result.now c.write_two.result shelf
    (g.K.Sink.told c.args.out.now) (g.K.Sink.told c.write.new.out) (g.K.Sink.told c.write_two.new.out) c.as_bytes.ensures.value c.in_ok-write.ensures.ends c.in_ok-write.ensures.calls two

pub returns-clause-reason : goal.returns-clause-reason
returns-clause-reason g c = λ shelf.
    reason_after c.write_two.result shelf shelf shelf (g.K.Sink.told c.args.out.now) (g.K.Sink.told c.write.new.out) (g.K.Sink.told c.write_two.new.out)
    (omega arith) c.in_ok-write.ensures.faults_stay (c.write_two.ensures.reason shelf)
