use Rattle.std.proofs.Common.{◌≡◌, ◌+◌, length}
use Rattle.swarm_passes.specs.Playing.{left_from, IsStarted, AreStarted}
use Rattle.clip_swarm.proofs.passes.others_of.Given as goal

abbrev pub invariant-loop-made : goal.invariant-loop-made
invariant-loop-made l = record {
  first : IsStarted l.clip 0 l.first;
  left : l.first.left ≡ left_from (1 + l.made);
  many : length l.all.items ≡ l.made;
  others : AreStarted l.clip 1 l.all.items;
}
