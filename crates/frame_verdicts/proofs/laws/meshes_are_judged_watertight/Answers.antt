-- A watertight mesh has closed edges and flat stitches, so no edge is open and no face tilted.
use Rattle.plan_model.specs.Window.{margin}
use Rattle.plan_model.specs.Actives.{actives}
use Rattle.frame_verdicts.proofs.Judged.{mesh_judged}
use Rattle.frame_verdicts.proofs.laws.meshes_are_judged_watertight.Goals as goal

pub returns-clause-plans : goal.returns-clause-plans
returns-clause-plans c = λ terrain k finest filled size shapes.
    mesh_judged c.parts_have_ring_squares.ensures.squares terrain k (actives k finest filled)
    (c.drawn_mesh.ensures.names terrain k finest filled shapes) (c.meshes_are_watertight.ensures.plans terrain k finest filled size shapes)

pub returns-clause-frames : goal.returns-clause-frames
returns-clause-frames c = λ terrain k actives size drawn.
    mesh_judged c.parts_have_ring_squares.ensures.squares terrain k actives
    (c.nested_names.ensures terrain k (margin k) actives drawn.even drawn.nested) (c.meshes_are_watertight.ensures.frames terrain k actives size drawn)
