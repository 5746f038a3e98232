-- All four points, for a plan's margin.
use Rattle.plan_model.specs.Actives.{actives}
use Rattle.active_region.proofs.Drawn.{actives_wide}
use Rattle.watertight_laws.proofs.Whole.{watertight}
use Rattle.watertight_laws.proofs.laws.meshes_are_watertight.Goals as goal

pub returns-clause-plans : goal.returns-clause-plans
returns-clause-plans c = λ terrain k finest filled size shapes.
    watertight c.parts_have_ring_squares.ensures.squares c.parts_have_ring_squares.ensures.once c.nested_names.ensures
    c.vertices_apart.ensures.positions c.vertices_apart.ensures.places terrain k (actives k finest filled) size
    (c.actives_have_even_corners.ensures k finest filled shapes) (actives_wide k finest filled) (c.actives_are_nested.ensures k finest filled)

pub returns-clause-frames : goal.returns-clause-frames
returns-clause-frames c = λ terrain k actives size drawn.
    watertight c.parts_have_ring_squares.ensures.squares c.parts_have_ring_squares.ensures.once c.nested_names.ensures
    c.vertices_apart.ensures.positions c.vertices_apart.ensures.places terrain k actives size drawn.even drawn.wide drawn.nested
