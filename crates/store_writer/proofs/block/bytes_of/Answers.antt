use Rattle.std.proofs.Common.{ℤ, ◌∙◌, ap}
use Rattle.std.specs.Int.{w16, to_be_bytes}
use Rattle.std.proofs.lemmas.Int.{to_z-of_z}
use mir.Val.{of_z}
use Rattle.store_writer.proofs.Heights.{bytes_are}
use Rattle.store_writer.proofs.block.bytes_of.Goals as goal

pub returns : goal.returns
returns c =
    c.to_be_bytes.ensures
    ∙ ap (λ (z : ℤ). to_be_bytes w16 (of_z w16 z)) (to_z-of_z w16 c.args.height c.ranges.height)
    ∙ bytes_are c.args.height c.ranges.height
