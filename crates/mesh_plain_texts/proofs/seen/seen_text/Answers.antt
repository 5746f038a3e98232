-- The head, the kept line, the vertices and the triangles, one after another.
use Rattle.std.proofs.Common.{rules, append_assoc}
use Rattle.mesh_model.specs.Seen.{parts_text}
use Rattle.mesh_plain_texts.proofs.seen.seen_text.Goals as goal

pub returns : goal.returns
unfolding parts_text
returns c = search (rules, append_assoc)
