use Rattle.std.proofs.Common.{◌≡◌, ℕ, ◌+◌, ◌*◌, ◌/◌, ◌<◌, take, get_or}
use Rattle.mesh_check.proofs.Counts.{times}
use Rattle.mesh_check.proofs.runs.first_run.Given as goal

abbrev pub invariant-loop-key : goal.invariant-loop-key
invariant-loop-key l = record {
  counted : l.there + l.back ≡ l.key-index;
  there : l.there ≡ times (2 * l.pair) (take l.key-index l.keys);
  back : l.back ≡ times (2 * l.pair + 1) (take l.key-index l.keys);
  front : (k : ℕ) → k < l.key-index → get_or l.keys k 0 / 2 ≡ l.pair;
}
