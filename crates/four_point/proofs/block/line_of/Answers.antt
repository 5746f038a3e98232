use Rattle.std.proofs.Common.{get_or, pos, rules}
use Rattle.std.specs.Int.{w16}
use mir.Val.{SFits}
use Rattle.four_point.proofs.BlockLemmas.{short_at_most}
use Rattle.four_point.proofs.block.line_of.Goals as goal

pub returns-clause-size : goal.returns-clause-size
returns-clause-size c =
    let row = c.args.row in
    let f1 : SFits w16 (get_or row 1 (pos 0)) = search rules in
    let f2 : SFits w16 (get_or row 2 (pos 0)) = search rules in
    let f3 : SFits w16 (get_or row 3 (pos 0)) = search rules in
    let f4 : SFits w16 (get_or row 4 (pos 0)) = search rules in
    record {
      heights = record {
        p = short_at_most _ c.from.result f1 (record { sfits = c.from.type_inv }) c.from.ensures;
        q = short_at_most _ c.from-2.result f2 (record { sfits = c.from-2.type_inv }) c.from-2.ensures;
        r = short_at_most _ c.from-3.result f3 (record { sfits = c.from-3.type_inv }) c.from-3.ensures;
        s = short_at_most _ c.from-4.result f4 (record { sfits = c.from-4.type_inv }) c.from-4.ensures;
      };
      sums = c.sums_along.ensures.size;
    }
