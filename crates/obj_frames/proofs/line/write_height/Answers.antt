-- The pieces, one before another.
use Rattle.std.proofs.Common.{append_assoc, rules}
use Rattle.std.proofs.lemmas.Int.{to_z-of_z}
use Rattle.mesh_model.specs.Text.{height_text}
use Rattle.obj_frames.proofs.line.write_height.Goals as goal

pub returns-clause-written : goal.returns-clause-written
unfolding height_text
returns-clause-written c =
    rw (c.write_sign.ensures.written, c.write_number-whole.ensures.written, c.write_byte-point.ensures.written, c.write_five-part.ensures.written)
    (search (rules, append_assoc, to_z-of_z))
