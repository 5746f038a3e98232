-- The pieces of the line, one after another.
use Rattle.std.proofs.Common.{rules, append_assoc}
use Rattle.std.proofs.lemmas.Result.{IfOk-equal}
use Rattle.mesh_model.specs.Seen.{kept_line}
use Rattle.obj_frames.proofs.lines.append_kept.Goals as goal

pub returns : goal.returns
unfolding kept_line
returns c = search (rules, IfOk-equal, append_assoc)
