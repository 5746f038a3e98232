-- Each number of the mesh is in its range, so that the text says it.
use Rattle.frame_lists.proofs.Meshes.{meshes_printed, frames_say_mesh}
use Rattle.frame_lists.proofs.laws.frames_say_their_mesh.Goals as goal

pub returns-clause-printed : goal.returns-clause-printed
returns-clause-printed c =
    meshes_printed c.actives_are_in_reach.ensures.regions c.actives_are_in_reach.ensures.cells c.heights_are_small.ensures c.meshes_are_small.ensures.vertices
    c.parts_have_ring_squares.ensures.squares c.nested_names.ensures
    c.vertices_apart.ensures.positions c.vertices_apart.ensures.places

pub returns-clause-lists : goal.returns-clause-lists
returns-clause-lists c =
    frames_say_mesh
    (meshes_printed c.actives_are_in_reach.ensures.regions c.actives_are_in_reach.ensures.cells c.heights_are_small.ensures c.meshes_are_small.ensures.vertices
    c.parts_have_ring_squares.ensures.squares c.nested_names.ensures
    c.vertices_apart.ensures.positions c.vertices_apart.ensures.places)
    c.texts_say_their_lists.ensures
