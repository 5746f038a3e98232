-- Edges with their direction as numbers, in whose order an edge stands beside the same edge the other way.
use Rattle.std.specs.Prelude.{ℕ, ◌+◌, ◌*◌, ◌/◌, ◌%◌, ◌^◌, ◌<◌, ◌==◌, Bool, if◌then◌else◌, nat_lt, List, [], ◌∷◌, flat_map, count_by, slice_index}
use Rattle.clip_regions.specs.declared.region.Region.{Region}
use Rattle.mesh_model.specs.declared.shapes.Vertex.{Vertex}
use Rattle.mesh_model.specs.Vertices.{vertex_of_place}
use Rattle.mesh_model.specs.Watertight.{is_on_side, is_closed_by}

-- the pair of two places, the first of them the lesser
abbrev pub pair_key : ℕ → ℕ → ℕ
pair_key a b = a * 2 ^ 32 + b

-- the edge from one place to another: twice its pair, and 1 more where it goes back to the lesser place
unfoldable pub edge_key : ℕ → ℕ → ℕ
edge_key a b = if nat_lt a b then 2 * pair_key a b else 2 * pair_key b a + 1

-- the places of a triangle are small
pub record AreSmall (triangle : List ℕ) : Type 0 where
  pub first : slice_index triangle 0 < 2 ^ 31
  pub second : slice_index triangle 1 < 2 ^ 31
  pub third : slice_index triangle 2 < 2 ^ 31

-- the three edges of a triangle
unfoldable pub triangle_keys : List ℕ → List ℕ
triangle_keys triangle =
    let a = slice_index triangle 0 in
    let b = slice_index triangle 1 in
    let c = slice_index triangle 2 in
    edge_key a b ∷ edge_key b c ∷ edge_key c a ∷ []

-- the edges of some triangles
unfoldable pub edge_keys : List (List ℕ) → List ℕ
edge_keys triangles = flat_map triangle_keys triangles

-- a number is that of a pair of two places below a count
pub record IsPairOf (count pair : ℕ) : Type 0 where
  pub rise : pair / 2 ^ 32 < pair % 2 ^ 32
  pub below : pair % 2 ^ 32 < count

-- a number is that of an edge between them
abbrev pub IsEdgeOf : ℕ → ℕ → Type 0
IsEdgeOf count key = IsPairOf count (key / 2)

-- the vertices of a pair stand on one side of the region
unfoldable pub on_side : Region → List Vertex → ℕ → Bool
on_side border vertices pair =
    is_on_side border (vertex_of_place vertices (pair / 2 ^ 32)) (vertex_of_place vertices (pair % 2 ^ 32))

-- the edges of a pair among these close
unfoldable pub is_closed_pair : Region → List Vertex → List ℕ → ℕ → Bool
is_closed_pair border vertices keys pair =
    is_closed_by (count_by (λ key. key == 2 * pair) keys) (count_by (λ key. key == 2 * pair + 1) keys)
    (on_side border vertices pair)
