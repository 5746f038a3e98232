-- A vertex that stands elsewhere is passed over.
use Rattle.std.proofs.Common.{◌≡◌, ℕ, ◌+◌, ◌<◌, false, ◌&&◌, List, length, get_or, drop, ℤ, refl, ◌∙◌}
use Rattle.std.specs.Ordering.{int_eq}
use Rattle.std.proofs.lemmas.List.{at_drop_more}
use Rattle.mesh_model.specs.declared.shapes.Vertex.{Vertex}
use Rattle.mesh_model.specs.Vertices.{place_of}

pub passed : (vertices : List Vertex) (i : ℕ) (x z : ℤ) (d : Vertex) → i < length vertices → (int_eq (get_or vertices i d).x x && int_eq (get_or vertices i d).z z) ≡ false → place_of (drop i vertices) x z ≡ place_of (drop (i + 1) vertices) x z + 1
passed vertices i x z d here elsewhere = at_drop_more (λ rest. place_of rest x z) vertices i d here ∙ rw elsewhere refl
