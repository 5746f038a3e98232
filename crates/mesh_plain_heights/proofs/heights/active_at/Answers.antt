-- A level that is there has its region whatever stands past the end.
use Rattle.std.proofs.Common.{ℕ, get_or, ap, ◌∙◌, arith}
use Rattle.std.proofs.lemmas.List.{get_or_default}
use Rattle.clip_regions.specs.Regions.{empty_region}
use Rattle.mesh_model.specs.Height.{active_at}
use Rattle.mesh_plain_heights.proofs.heights.active_at.Goals as goal

pub returns : goal.returns
unfolding active_at
returns c =
    get_or_default c.args.actives.now c.from.result _ empty_region (omega arith)
    ∙ ap (λ (n : ℕ). get_or c.args.actives.now n empty_region) c.from.ensures
