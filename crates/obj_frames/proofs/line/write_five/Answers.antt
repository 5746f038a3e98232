-- The digits, one before another.
use Rattle.mesh_model.specs.Text.{five_digits}
use Rattle.obj_frames.proofs.line.write_five.Goals as goal

pub returns-clause-written : goal.returns-clause-written
unfolding five_digits
returns-clause-written c =
    rw (c.write_byte.ensures.written, c.write_byte-second.ensures.written, c.write_byte-third.ensures.written, c.write_byte-fourth.ensures.written, c.write_byte-fifth.ensures.written)
