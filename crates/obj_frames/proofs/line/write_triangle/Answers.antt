-- The pieces, one before another.
use Rattle.std.proofs.Common.{◌≡◌, [], drop, arith}
use Rattle.std.proofs.lemmas.List.{drop_all}
use Rattle.mesh_model.specs.Text.{triangle_line}
use Rattle.obj_frames.proofs.Pieces.{triangle_pieces}
use Rattle.obj_frames.proofs.line.write_triangle.Goals as goal

pub returns-clause-written : goal.returns-clause-written
unfolding triangle_line
returns-clause-written c =
    let none : drop 96 c.args.line.now ≡ [] = drop_all 96 c.args.line.now (omega arith) in
    rw (c.write_byte.ensures.written, c.write_byte-before_first.ensures.written, c.write_number-first.ensures.written, c.write_byte-before_second.ensures.written, c.write_number-second.ensures.written, c.write_byte-before_third.ensures.written, c.write_number-third.ensures.written, c.write_byte-end.ensures.written, none, c.from-3.ensures, c.from-2.ensures, c.from.ensures)
    (triangle_pieces _ _ _)
