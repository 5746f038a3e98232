use Rattle.std.proofs.Common.{◌≡◌, pos, ◌+ℤ◌, ◌∙◌, rules, arith}
use Rattle.std.proofs.lemmas.Int.{ints}
use mathlib.Core.Path.{ap₂}
use mir.Syntax.{w32}
use mir.Val.{SFits, of_z, to_z}
use Rattle.clip_regions.specs.FloorDivision.{floor_div}
use Rattle.plan_model.specs.Strips.{piece_in}
use Rattle.plan_plain_pieces.proofs.strip_pieces.piece_at.Goals as goal
use Rattle.clip_regions.proofs.Numbers.{read_back}

pub returns : goal.returns
returns c =
    let fits : SFits w32 c.args.row.by = search rules in
    let bx : to_z w32 (of_z w32 (to_z w32 (of_z w32 c.first_column.result) +ℤ to_z w32 c.args.i)) ≡ floor_div c.args.region.x0 8 +ℤ pos c.args.i = omega (arith, ints, c.first_column.ensures.value) in
    record { value = c.piece_in.ensures.value ∙ ap₂ (piece_in c.args.region) bx (read_back c.args.row.by fits) }
