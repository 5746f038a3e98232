-- A text has the lists of its mesh, and these are watertight.
use Rattle.plan_model.specs.Actives.{actives}
use Rattle.active_region.proofs.Kept.{actives_are_drawn}
use Rattle.frame_verdicts.proofs.Texts.{text_judged}
use Rattle.frame_verdicts.proofs.laws.frame_texts_are_judged_watertight.Goals as goal

pub returns-clause-plans : goal.returns-clause-plans
returns-clause-plans c = λ terrain k number x y finest filled is size small column row many shown.
    text_judged c.frames_say_their_mesh.ensures.lists c.meshes_are_judged_watertight.ensures.frames terrain k number x y (actives k finest filled) is size small column row
    (actives_are_drawn c.windows_are_near.ensures c.actives_are_as_many.ensures c.actives_lie_in_windows.ensures c.actives_are_nested.ensures k finest filled size many shown)

pub returns-clause-frames : goal.returns-clause-frames
returns-clause-frames c = text_judged c.frames_say_their_mesh.ensures.lists c.meshes_are_judged_watertight.ensures.frames
