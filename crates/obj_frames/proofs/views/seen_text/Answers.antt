-- The parts whose flag is set are those that the view keeps.
use Rattle.std.proofs.Common.{ap, ◌∙◌}
use Rattle.mesh_model.specs.Seen.{flagged_parts, parts_text}
use Rattle.mesh_model.proofs.Outside.{flags_keep}
use Rattle.obj_frames.proofs.views.seen_text.Goals as goal

pub returns-clause-views : goal.returns-clause-views
returns-clause-views c = λ view flags.
    c.in_ok-culled.ensures.text
    ∙ ap (parts_text c.args.header.now.number c.args.header.now.x c.args.header.now.y c.args.header.now.actives c.args.mesh.now) (ap (λ keep. flagged_parts keep c.args.mesh.now.parts) flags ∙ flags_keep view c.args.mesh.now.parts)
