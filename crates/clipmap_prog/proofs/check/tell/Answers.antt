use Rattle.std.proofs.Common.{List, ℕ, ◌∷◌, [], ◌∙◌, subst}
use Rattle.run_actions.specs.Actions.{Write}
use Rattle.run_actions.specs.Runs.{Ran, leaves_nothing}
use Rattle.run_actions.proofs.Ends.{ran_write}
use Rattle.clipmap_prog.proofs.check.tell.Goals as goal

pub returns-in-Ok-clause-ran : goal.returns-in-Ok-clause-ran
returns-in-Ok-clause-ran g c = λ shelf.
    let k = g.K.Sink.told c.args.out.now in
    let k1 = g.K.Sink.told c.write.new.out in
    let Written : List ℕ → Type 0 = λ line. Ran leaves_nothing 0 (Write line ∷ []) c.write.result shelf shelf k k1 in
    subst Written (c.as_bytes.ensures.value ∙ c.in-Ok.ensures.line)
    (ran_write leaves_nothing c.as_bytes.result.now c.write.result shelf k k1 c.write.ensures.ends c.write.ensures.calls)
