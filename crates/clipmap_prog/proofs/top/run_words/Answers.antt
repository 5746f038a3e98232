use Rattle.std.proofs.Common.{Option, IfSome, subst}
use Rattle.clipmap_words.specs.Commands.{CommandView}
use Rattle.clipmap_prog.specs.Commands.{outcome_of, store_inputs_of}
use Rattle.clipmap_prog.specs.Promise.{Runs}
use Rattle.clipmap_prog.specs.Stores.{IsVerdictOn, Verdict}
use Rattle.clipmap_prog.proofs.top.run_words.Goals as goal

pub returns-in-Some-clause-runs : goal.returns-in-Some-clause-runs
returns-in-Some-clause-runs g c =
    let s = g.S.Shelf.told c.args.shelf.now in
    let s1 = g.S.Shelf.told c.run.new.shelf in
    let k = g.K.Sink.told c.args.out.now in
    let k1 = g.K.Sink.told c.run.new.out in
    let Of : Option CommandView → Type 0 = λ command.
    (verdict : Verdict) → IfSome s.files (λ m. IsVerdictOn (store_inputs_of command) m verdict) → Runs g.S.Shelf.leaves (outcome_of verdict command) c.run.result s s1 k k1 in
    subst Of c.in-Some.ensures.value c.run.ensures.runs
