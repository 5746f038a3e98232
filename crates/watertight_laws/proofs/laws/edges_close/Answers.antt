-- The closed form of the counts, edge by edge; a plan's active regions are nested, with even corners and wide sides.
use Rattle.plan_model.specs.Window.{margin}
use Rattle.plan_model.specs.Actives.{actives}
use Rattle.watertight_laws.proofs.Whole.{all_edges, some_margin}
use Rattle.watertight_laws.proofs.laws.edges_close.Goals as goal
use Rattle.active_region.proofs.Drawn.{actives_wide}

pub returns-clause-nested : goal.returns-clause-nested
returns-clause-nested c = λ terrain k e actives some evens wides nested.
    all_edges c.parts_have_ring_squares.ensures.squares c.parts_have_ring_squares.ensures.once c.nested_names.ensures
    c.vertices_apart.ensures.positions c.vertices_apart.ensures.places terrain k e some actives evens wides nested

pub returns-clause-drawn : goal.returns-clause-drawn
returns-clause-drawn c = λ terrain k finest filled shapes.
    all_edges c.parts_have_ring_squares.ensures.squares c.parts_have_ring_squares.ensures.once c.nested_names.ensures
    c.vertices_apart.ensures.positions c.vertices_apart.ensures.places terrain k (margin k) (some_margin k) (actives k finest filled)
    (c.actives_have_even_corners.ensures k finest filled shapes) (actives_wide k finest filled) (c.actives_are_nested.ensures k finest filled)

pub returns-clause-active : goal.returns-clause-active
returns-clause-active c = λ terrain k actives active.
    all_edges c.parts_have_ring_squares.ensures.squares c.parts_have_ring_squares.ensures.once c.nested_names.ensures
    c.vertices_apart.ensures.positions c.vertices_apart.ensures.places terrain k (margin active.k) (some_margin active.k) actives
    active.drawn.even active.drawn.wide active.drawn.nested
