use Rattle.std.proofs.Common.{◌∙◌, SFits, w32, of_z, to_z, length, refl, sym, ap, arith, rules}
use Rattle.std.proofs.lemmas.Int.{to_z-of_z}
use Rattle.rice_residuals.specs.List.{residual_list}
use Rattle.rice_residuals.proofs.CodeRead.{pushed_length, codes_more, codes_begun}
use Rattle.rice_residuals.proofs.decoding.read_codes.Goals as goal

pub loop-found-init : goal.loop-found-init
loop-found-init c = record {
  within = omega (arith, c.none-found.ensures.count);
  counted = ap length c.none-found.ensures.list ∙ sym c.none-found.ensures.count;
  codes = codes_begun c.args.parameter (residual_list c.none-found.result) c.args.reader.now.left c.none-found.ensures.list;
  end = refl;
}

pub loop-found-preserved : goal.loop-found-preserved
loop-found-preserved c =
    let fits : SFits w32 c.unfold.result = search rules in
    record {
      within = omega arith;
      counted = pushed_length (residual_list c.loop-found.found) (residual_list c.push.new.self) (to_z w32 (of_z w32 c.unfold.result)) c.loop-found.found.count c.push.new.self.count c.push.ensures.list c.loop-found.invariant.counted c.push.ensures.count;
      codes = codes_more c.args.parameter (residual_list c.loop-found.found) (residual_list c.push.new.self) c.unfold.result (to_z w32 (of_z w32 c.unfold.result)) c.in_ok-code.code c.args.reader.now.left c.loop-found.reader.left c.read_code.new.reader.left c.push.ensures.list (to_z-of_z w32 c.unfold.result fits) c.unfold.ensures.code c.loop-found.invariant.codes c.in_ok-code.ensures.code;
      end = c.in_ok-code.ensures.end ∙ c.loop-found.invariant.end;
    }
