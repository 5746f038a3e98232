use Rattle.std.proofs.Common.{ℤ, ap, ◌∙◌, rules}
use mir.Syntax.{w32}
use mir.Val.{SFits}
use Rattle.clip_regions.specs.FloorDivision.{floor_div}
use Rattle.plan_plain_pieces.proofs.strip_pieces.last_row.Goals as goal
use Rattle.clip_regions.proofs.Numbers.{read_back}

pub returns-clause-value : goal.returns-clause-value
returns-clause-value c =
    let fits : SFits w32 c.args.region.y1 = search rules in
    read_back c.floor_div.result (record { sfits = c.floor_div.type_inv }) ∙ c.floor_div.ensures.value ∙ ap (λ (v : ℤ). floor_div v 8) (read_back c.args.region.y1 fits)
