use Rattle.std.proofs.Common.{refl, arith}
use Rattle.store_reader.specs.Headers.{head_of}
use Rattle.store_index.proofs.Counts.{none_before, one_more_before}
use Rattle.store_index.proofs.sizes.blocks_before.Goals as goal

pub loop-m-init : goal.loop-m-init
loop-m-init c = record { value = none_before (head_of c.args.header); few = omega arith }

pub loop-m-preserved : goal.loop-m-preserved
loop-m-preserved c =
    let i = c.loop-m in
    let more = c.level_blocks-count.ensures.few in
    let low = i.invariant.few in
    record {
      value = one_more_before (head_of c.args.header) i.m _ i.count c.level_blocks-count.result i.invariant.value refl c.level_blocks-count.ensures.value;
      few = omega arith;
    }
