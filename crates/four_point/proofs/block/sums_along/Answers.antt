use Rattle.std.proofs.Common.{get_or, pos, rules}
use Rattle.std.specs.Int.{w16}
use mir.Val.{SFits}
use Rattle.four_point.proofs.BlockLemmas.{sum_read_16}
use Rattle.four_point.proofs.block.sums_along.Goals as goal

pub returns-clause-sums : goal.returns-clause-sums
returns-clause-sums c =
    let row = c.args.row in
    let f0 : SFits w16 (get_or row 0 (pos 0)) = search rules in
    let f1 : SFits w16 (get_or row 1 (pos 0)) = search rules in
    let f2 : SFits w16 (get_or row 2 (pos 0)) = search rules in
    let f3 : SFits w16 (get_or row 3 (pos 0)) = search rules in
    let f4 : SFits w16 (get_or row 4 (pos 0)) = search rules in
    let f5 : SFits w16 (get_or row 5 (pos 0)) = search rules in
    let f6 : SFits w16 (get_or row 6 (pos 0)) = search rules in
    record {
      p = sum_read_16 _ _ _ _ c.sum_of.result f0 f1 f2 f3 (record { sfits = c.sum_of.type_inv }) c.sum_of.ensures.value;
      q = sum_read_16 _ _ _ _ c.sum_of-2.result f1 f2 f3 f4 (record { sfits = c.sum_of-2.type_inv }) c.sum_of-2.ensures.value;
      r = sum_read_16 _ _ _ _ c.sum_of-3.result f2 f3 f4 f5 (record { sfits = c.sum_of-3.type_inv }) c.sum_of-3.ensures.value;
      s = sum_read_16 _ _ _ _ c.sum_of-4.result f3 f4 f5 f6 (record { sfits = c.sum_of-4.type_inv }) c.sum_of-4.ensures.value;
    }
