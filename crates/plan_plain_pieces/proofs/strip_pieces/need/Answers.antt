-- Corner by corner.
use Rattle.std.proofs.Common.{ℤ, pos, ◌+ℤ◌, ◌-ℤ◌, ap, ◌∙◌, rules, arith}
use Rattle.std.proofs.lemmas.Int.{ints}
use mir.Syntax.{w32}
use mir.Val.{SFits}
use Rattle.clip_regions.specs.FloorDivision.{floor_div}
use Rattle.plan_model.specs.Strips.{need}
use Rattle.plan_plain_pieces.proofs.strip_pieces.need.Goals as goal
use Rattle.clip_regions.proofs.Numbers.{read_back}
use Rattle.clip_regions.proofs.Cells.{same_corners}

pub returns-clause-value : goal.returns-clause-value
unfolding need
returns-clause-value c =
    let x0 : SFits w32 c.args.cells.x0 = search rules in
    let y0 : SFits w32 c.args.cells.y0 = search rules in
    let x1 : SFits w32 c.args.cells.x1 = search rules in
    let y1 : SFits w32 c.args.cells.y1 = search rules in
    same_corners _ (need c.args.cells) (read_back c.need_from-west.result (record { sfits = c.need_from-west.type_inv }) ∙ c.need_from-west.ensures.value ∙ ap (λ (v : ℤ). floor_div v 2 -ℤ pos 1) (read_back c.args.cells.x0 x0)) (read_back c.need_from-north.result (record { sfits = c.need_from-north.type_inv }) ∙ c.need_from-north.ensures.value ∙ ap (λ (v : ℤ). floor_div v 2 -ℤ pos 1) (read_back c.args.cells.y0 y0)) (read_back c.need_to-east.result (record { sfits = c.need_to-east.type_inv }) ∙ c.need_to-east.ensures.value ∙ ap (λ (v : ℤ). floor_div (v +ℤ pos 1) 2 +ℤ pos 1) (read_back c.args.cells.x1 x1)) (read_back c.need_to-south.result (record { sfits = c.need_to-south.type_inv }) ∙ c.need_to-south.ensures.value ∙ ap (λ (v : ℤ). floor_div (v +ℤ pos 1) 2 +ℤ pos 1) (read_back c.args.cells.y1 y1))

pub returns-clause-within : goal.returns-clause-within
returns-clause-within c = record {
  x0_low = omega (arith, ints);
  x0_high = omega (arith, ints);
  y0_low = omega (arith, ints);
  y0_high = omega (arith, ints);
  x1_low = omega (arith, ints);
  x1_high = omega (arith, ints);
  y1_low = omega (arith, ints);
  y1_high = omega (arith, ints);
}
