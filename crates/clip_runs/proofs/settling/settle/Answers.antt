use Rattle.clip_runs.proofs.Settles.{settling_more, to_do_less}
use Rattle.clip_runs.proofs.settling.settle.Goals as goal

pub loop-filling-preserved : goal.loop-filling-preserved
loop-filling-preserved g c =
    settling_more c.laws_below.ensures c.args.desk.now c.loop-filling.desk c.fill_next-filling.new.desk c.loop-filling.filling c.fill_next-filling.result c.loop-filling.invariant
    c.fill_next-filling.ensures.filled c.fill_next-filling.ensures.offered c.fill_next-filling.ensures.settled c.fill_next-filling.ensures.same c.fill_next-filling.ensures.stays

pub loop-filling-smaller : goal.loop-filling-smaller
loop-filling-smaller g c =
    to_do_less c.laws_below.ensures c.loop-filling.desk c.fill_next-filling.new.desk c.loop-filling.filling c.fill_next-filling.result c.loop-filling-test.true c.loop-filling.invariant.rest
    c.fill_next-filling.ensures.filled c.fill_next-filling.ensures.offered c.fill_next-filling.ensures.same
