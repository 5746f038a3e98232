-- The vertex at the place of a corner stands at the corner's position, where the place is one of a vertex.
use Rattle.std.proofs.Common.{◌≡◌, ℕ, ◌+◌, ◌^◌, ◌<◌, true, cond, Bool, ◌&&◌, List, ℤ, pos, ◌*ℤ◌, length, get_or, refl, ap, subst, ◌∙◌, arith}
use Rattle.std.specs.List.{position_or_len}
use Rattle.std.specs.Ordering.{int_eq}
use Rattle.std.proofs.lemmas.Bool.{and_parts}
use Rattle.std.proofs.lemmas.List.Recursion.{is_position_or_len}
use Rattle.std.proofs.lemmas.List.Sums.{passes_at_first}
use Rattle.mesh_model.specs.declared.shapes.Vertex.{Vertex}
use Rattle.mesh_model.specs.Vertices.{place_of, vertex_of_place}
use Rattle.mesh_model.specs.Parts.{corner_place}
use Rattle.watertight_laws.proofs.Picks.{same_from}

-- the vertex stands at this column and row
pub record StandsAt (vertex : Vertex) (x z : ℤ) : Type 0 where
  pub column : vertex.x ≡ x
  pub row : vertex.z ≡ z

abbrev stands : ℤ → ℤ → Vertex → Bool
stands x z vertex = int_eq vertex.x x && int_eq vertex.z z

abbrev none : Vertex
none = record { x = pos 0; z = pos 0; height = pos 0 }

one_more : (n : ℕ) → n + 1 ≡ 1 + n
one_more n = omega arith

-- the place of a position is that of the first vertex that stands there
place_is_first : (vertices : List Vertex) (x z : ℤ) → place_of vertices x z ≡ position_or_len (stands x z) vertices
place_is_first vertices x z =
    is_position_or_len (λ (vs : List Vertex). place_of vs x z) (stands x z) refl
    (λ vertex vs. ap (λ n. cond (stands x z vertex) 0 n) (one_more (place_of vs x z))) vertices

there : (vertices : List Vertex) (x z : ℤ) → place_of vertices x z < length vertices → StandsAt (vertex_of_place vertices (place_of vertices x z)) x z
there vertices x z low =
    let first : place_of vertices x z ≡ position_or_len (stands x z) vertices = place_is_first vertices x z in
    let passes : stands x z (get_or vertices (position_or_len (stands x z) vertices) none) ≡ true =
    passes_at_first (stands x z) vertices none (subst (λ n. n < length vertices) first low) in
    let vertex : Vertex = get_or vertices (place_of vertices x z) none in
    let both : (int_eq vertex.x x ≡ true) × (int_eq vertex.z z ≡ true) =
    and_parts (int_eq vertex.x x) (int_eq vertex.z z) (ap (λ n. stands x z (get_or vertices n none)) first ∙ passes) in
    record { column = same_from vertex.x x both.0; row = same_from vertex.z z both.1 }

pub corner_there : (vertices : List Vertex) (level : ℕ) (i j : ℤ) → corner_place vertices level i j < length vertices →
    StandsAt (vertex_of_place vertices (corner_place vertices level i j)) (i *ℤ pos (2 ^ level)) (j *ℤ pos (2 ^ level))
unfolding corner_place
corner_there vertices level i j low = there vertices (i *ℤ pos (2 ^ level)) (j *ℤ pos (2 ^ level)) low
