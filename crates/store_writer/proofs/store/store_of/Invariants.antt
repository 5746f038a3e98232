use Rattle.std.proofs.Common.{◌≡◌, ◌-◌, ◌<◌}
use Rattle.store_writer.specs.Coarser.{coarser_height, AreRestored}
use Rattle.store_writer.proofs.Steps.{front}
use Rattle.store_writer.proofs.store.store_of.Given as goal

abbrev pub invariant-loop-n : goal.invariant-loop-n
invariant-loop-n l = record {
  bytes : l.out.items ≡ front l.version l.grid l.levels l.step l.n;
  coarser : l.n < l.levels → AreRestored (coarser_height l.coarser) l.grid l.levels l.step (l.levels - l.n);
}
