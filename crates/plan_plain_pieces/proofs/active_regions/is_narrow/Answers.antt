use Rattle.std.proofs.Common.{◌≡◌, ℤ, pos, ◌-ℤ◌, ap, arith}
use Rattle.std.proofs.lemmas.Int.{ints}
use lib.Signed.{lt_z}
use mir.Syntax.{w32}
use mir.Val.{of_z, to_z}
use Rattle.plan_plain_pieces.proofs.active_regions.is_narrow.Goals as goal

pub returns : goal.returns
returns c =
    let side : to_z w32 (of_z w32 (to_z w32 (of_z w32 c.args.region.x1) -ℤ to_z w32 (of_z w32 c.args.region.x0))) ≡ c.args.region.x1 -ℤ c.args.region.x0 = omega (arith, ints) in
    ap (λ (width : ℤ). lt_z width (pos 2)) side
