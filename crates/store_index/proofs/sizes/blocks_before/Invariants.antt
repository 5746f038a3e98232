use Rattle.std.proofs.Common.{◌≡◌, ◌*◌, ◌^◌, ◌≤◌}
use Rattle.store_reader.specs.Headers.{head_of}
use Rattle.store_index.specs.Places.{blocks_before}
use Rattle.store_index.proofs.sizes.blocks_before.Given as goal

abbrev pub invariant-loop-m : goal.invariant-loop-m
invariant-loop-m l = record {
  value : l.count ≡ blocks_before (head_of l.header) l.m;
  few : l.count ≤ l.m * 2 ^ 26;
}
