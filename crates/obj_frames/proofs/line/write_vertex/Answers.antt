-- The pieces, one before another.
use Rattle.std.proofs.Common.{◌≡◌, [], drop, arith, rules, w32}
use Rattle.std.proofs.lemmas.Int.{to_z-of_z}
use Rattle.std.proofs.lemmas.List.{drop_all}
use Rattle.mesh_model.specs.Text.{vertex_line}
use Rattle.obj_frames.proofs.Pieces.{vertex_pieces}
use Rattle.obj_frames.proofs.line.write_vertex.Goals as goal
use mir.Val.{SFits}

pub returns-clause-written : goal.returns-clause-written
unfolding vertex_line
returns-clause-written c =
    let x_fits : SFits w32 c.args.vertex.now.x = search rules in
    let z_fits : SFits w32 c.args.vertex.now.z = search rules in
    let height_fits : SFits w32 c.args.vertex.now.height = search rules in
    let none : drop 96 c.args.line.now ≡ [] = drop_all 96 c.args.line.now (omega arith) in
    rw (c.write_byte.ensures.written, c.write_byte-before_x.ensures.written, c.write_signed-x.ensures.written, c.write_byte-before_height.ensures.written, c.write_height-height.ensures.written, c.write_byte-before_z.ensures.written, c.write_signed-z.ensures.written, c.write_byte-end.ensures.written, none, to_z-of_z w32 c.args.vertex.now.x x_fits, to_z-of_z w32 c.args.vertex.now.height height_fits, to_z-of_z w32 c.args.vertex.now.z z_fits)
    (vertex_pieces _ _ _)
