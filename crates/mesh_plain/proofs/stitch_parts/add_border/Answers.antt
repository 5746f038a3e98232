-- The four parts one after another.
use Rattle.std.proofs.Common.{rules, append_assoc}
use Rattle.mesh_plain.proofs.Borders.{four_stitch_parts}
use Rattle.mesh_plain.proofs.stitch_parts.add_border.Goals as goal

pub returns : goal.returns
returns c =
    rw (four_stitch_parts c.args.vertices.now c.args.level c.args.active.now c.requires.some) (search (rules, append_assoc))
