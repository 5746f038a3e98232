use Rattle.std.proofs.Common.{◌≡◌, ◌+◌, length}
use Rattle.std.specs.Vec.Iter.{into_iter_items}
use Rattle.clip_swarm.specs.Playing.{asked_of, passes_of, ArePlayed, IsGathered}
use Rattle.clip_swarm.proofs.gathering.gathered.Given as goal

abbrev pub invariant-loop-done : goal.invariant-loop-done
invariant-loop-done g l = record {
  gathered : IsGathered (asked_of l.script l.crew) l.clip (passes_of l.crew) l.number l.all;
  left : ArePlayed (asked_of l.script l.crew) l.clip l.number (into_iter_items l.done-iterator);
  many : l.number + length (into_iter_items l.done-iterator) ≡ passes_of l.crew;
}
