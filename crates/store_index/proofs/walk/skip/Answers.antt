use Rattle.store_index.proofs.Marks.{behind_none, next_behind, block_whole}
use Rattle.store_index.proofs.walk.skip.Goals as goal

pub loop-n-init : goal.loop-n-init
loop-n-init c = behind_none c.args.bytes.now c.args.first

pub next-at-requires : goal.next-at-requires
next-at-requires c =
    block_whole c.args.bytes.now c.args.first c.args.count c.loop-n._n c.loop-n.at c.requires c.loop-n-test.true c.loop-n.invariant

pub loop-n-preserved : goal.loop-n-preserved
loop-n-preserved c =
    next_behind c.args.bytes.now c.args.first c.loop-n.at c.loop-n._n c.next-at.result c.loop-n.invariant c.next-at.ensures
