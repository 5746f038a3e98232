use Rattle.std.proofs.Common.{rules}
use Rattle.four_point.proofs.BlockLemmas.{sum_read, sum_size}
use Rattle.four_point.proofs.block.sums_down.Goals as goal

pub returns-clause-sums : goal.returns-clause-sums
returns-clause-sums c = record {
  p = sum_read c.args.before.p c.args.near.p c.args.far.p c.args.beyond.p c.weighted.result (search rules) (search rules) (search rules) (search rules) (record { sfits = c.weighted.type_inv }) c.weighted.ensures.value;
  q = sum_read c.args.before.q c.args.near.q c.args.far.q c.args.beyond.q c.weighted-2.result (search rules) (search rules) (search rules) (search rules) (record { sfits = c.weighted-2.type_inv }) c.weighted-2.ensures.value;
  r = sum_read c.args.before.r c.args.near.r c.args.far.r c.args.beyond.r c.weighted-3.result (search rules) (search rules) (search rules) (search rules) (record { sfits = c.weighted-3.type_inv }) c.weighted-3.ensures.value;
  s = sum_read c.args.before.s c.args.near.s c.args.far.s c.args.beyond.s c.weighted-4.result (search rules) (search rules) (search rules) (search rules) (record { sfits = c.weighted-4.type_inv }) c.weighted-4.ensures.value;
}

pub returns-clause-size : goal.returns-clause-size
returns-clause-size c = λ n before near far beyond. record {
  p = sum_size n c.args.before.p c.args.near.p c.args.far.p c.args.beyond.p c.weighted.result (search rules) (search rules) (search rules) (search rules) (record { sfits = c.weighted.type_inv }) before.p near.p far.p beyond.p c.weighted.ensures.size;
  q = sum_size n c.args.before.q c.args.near.q c.args.far.q c.args.beyond.q c.weighted-2.result (search rules) (search rules) (search rules) (search rules) (record { sfits = c.weighted-2.type_inv }) before.q near.q far.q beyond.q c.weighted-2.ensures.size;
  r = sum_size n c.args.before.r c.args.near.r c.args.far.r c.args.beyond.r c.weighted-3.result (search rules) (search rules) (search rules) (search rules) (record { sfits = c.weighted-3.type_inv }) before.r near.r far.r beyond.r c.weighted-3.ensures.size;
  s = sum_size n c.args.before.s c.args.near.s c.args.far.s c.args.beyond.s c.weighted-4.result (search rules) (search rules) (search rules) (search rules) (record { sfits = c.weighted-4.type_inv }) before.s near.s far.s beyond.s c.weighted-4.ensures.size;
}
