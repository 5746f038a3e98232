use Rattle.std.proofs.Common.{rules}
use Rattle.std.proofs.lemmas.List.Sorted.{IsNonDecreasingBy-from_sort_by_key}
use Rattle.swarm_passes.specs.Frames.{FrameView}
use Rattle.clip_swarm.proofs.running.sorted.Goals as goal

pub returns-clause-rising : goal.returns-clause-rising
returns-clause-rising c = IsNonDecreasingBy-from_sort_by_key (λ (frame : FrameView). frame.number) _ c.sort_unstable_by_key.ensures.sorted (λ a r q k. search rules)
