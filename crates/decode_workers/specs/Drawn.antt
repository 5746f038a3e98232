-- The mesh of a frame of a book.
use Rattle.std.specs.Prelude.{◌≡◌, ℕ}
use Rattle.plan_model.specs.States.{OpenFrame}
use Rattle.plan_holds.specs.Kept.{HasFrame}
use Rattle.mesh_model.specs.Mesh.{MeshLists, mesh}
use Rattle.clip_book.specs.Books.{BookView}

-- the mesh is that of the active regions of the pass's frame, over the book's terrain
abbrev pub IsFrameMesh : BookView → ℕ → MeshLists → Type 0
IsFrameMesh book p made =
    (frame : OpenFrame) → HasFrame book.plan.state p frame →
    made ≡ mesh book.land.terrain book.plan.state.k frame.actives
