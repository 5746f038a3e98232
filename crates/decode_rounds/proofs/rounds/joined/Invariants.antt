use Rattle.decode_rounds.specs.Parts.{JoinsAll}
use Rattle.decode_rounds.proofs.rounds.joined.Given as goal

abbrev pub invariant-loop-part : goal.invariant-loop-part
invariant-loop-part l = JoinsAll l.yielded l.all.items
