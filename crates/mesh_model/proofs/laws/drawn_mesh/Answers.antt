-- The laws of nested regions, at the active regions of a plan and its margin.
use Rattle.plan_model.specs.Window.{margin}
use Rattle.plan_model.specs.Actives.{actives}
use Rattle.mesh_model.proofs.laws.drawn_mesh.Goals as goal

pub returns-clause-names : goal.returns-clause-names
returns-clause-names c = λ terrain k finest filled shapes.
    c.nested_names.ensures terrain k (margin k) (actives k finest filled) (c.actives_have_even_corners.ensures k finest filled shapes) (c.actives_are_nested.ensures k finest filled)

pub returns-clause-apart : goal.returns-clause-apart
returns-clause-apart c = λ terrain k finest filled.
    c.vertices_apart.ensures.positions terrain k (margin k) (actives k finest filled) (c.actives_are_nested.ensures k finest filled)
