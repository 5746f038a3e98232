-- The text of the parts of a frame that a view keeps. A view is a list of half-spaces, at most six.
use Rattle.std.specs.Prelude.{ℕ, Bool, not, ◌&&◌, ◌==◌, ℤ, pos, ◌+ℤ◌, ◌*ℤ◌, List, [], ◌∷◌, ◌++◌, length, map, filter, flat_map, codes, decimal, int_lt, if◌then◌else◌}
use Rattle.std.specs.List.{range_with_len, list_any}
use Rattle.clip_regions.specs.declared.region.Region.{Region}
use Rattle.mesh_model.specs.declared.shapes.Bounds.{Bounds}
use Rattle.mesh_model.specs.declared.shapes.Part.{Part}
use Rattle.mesh_model.specs.declared.shapes.HalfSpace.{HalfSpace}
use Rattle.mesh_model.specs.Vertices.{vertex_of_place}
use Rattle.mesh_model.specs.Mesh.{MeshLists}
use Rattle.mesh_model.specs.Conditions.{triangles_of_part}
use Rattle.mesh_model.specs.Text.{head_text, vertex_line, triangle_line}

-- 32 times a x + b h + c z + d, with the height in thirty-seconds of a metre: it is negative outside the half-space
unfoldable pub corner_value : HalfSpace → ℤ → ℤ → ℤ → ℤ
corner_value space x height z =
    pos 32 *ℤ (space.a *ℤ x) +ℤ space.b *ℤ height +ℤ pos 32 *ℤ (space.c *ℤ z) +ℤ pos 32 *ℤ space.d

-- the point lies outside the half-space
unfoldable pub is_point_outside : HalfSpace → ℤ → ℤ → ℤ → Bool
is_point_outside space x height z = int_lt (corner_value space x height z) (pos 0)

-- all eight corners of the box lie outside the half-space
unfoldable pub is_box_outside : HalfSpace → Bounds → Bool
is_box_outside space box =
    let out = is_point_outside space in
    let edge = λ (height z : ℤ). out box.x0 height z && out box.x1 height z in
    (edge box.low box.z0 && edge box.high box.z0) && (edge box.low box.z1 && edge box.high box.z1)

-- the box lies outside no half-space of the view
unfoldable pub is_box_kept : List HalfSpace → Bounds → Bool
is_box_kept view box = not (list_any (λ space. is_box_outside space box) view)

-- the view keeps the part
abbrev pub is_kept : List HalfSpace → Part → Bool
is_kept view part = is_box_kept view part.bounds

-- the parts that the view keeps, in their order
abbrev pub kept_parts : List HalfSpace → List Part → List Part
kept_parts view parts = filter (is_kept view) parts

-- the parts whose flag is set, where each part has a flag, in their order
abbrev pub flagged_parts : List Bool → List Part → List Part
flagged_parts [] parts = []
flagged_parts (flag ∷ flags) [] = []
flagged_parts (flag ∷ flags) (part ∷ parts) =
    if flag then part ∷ flagged_parts flags parts else flagged_parts flags parts

-- the triangles of some parts of a mesh
abbrev pub triangles_of_parts : List (List ℕ) → List Part → List (List ℕ)
triangles_of_parts triangles parts = flat_map (triangles_of_part triangles) parts

-- does one of the triangles have the vertex at this place?
unfoldable pub is_named : List (List ℕ) → ℕ → Bool
is_named triangles place = list_any (λ triangle. list_any (λ corner. corner == place) triangle) triangles

-- the places below a count that the triangles have, in their order
unfoldable pub named_places : List (List ℕ) → ℕ → List ℕ
named_places triangles count = filter (is_named triangles) (range_with_len 0 count)

-- a place numbered anew: how many of the places before it the triangles have
unfoldable pub new_place : List (List ℕ) → ℕ → ℕ
new_place triangles place = length (named_places triangles place)

-- how many vertices some parts of a mesh have, each counted once, and how many triangles
abbrev pub seen_vertices : MeshLists → List Part → ℕ
seen_vertices lists parts = length (named_places (triangles_of_parts lists.triangles parts) (length lists.vertices))

abbrev pub seen_triangles : MeshLists → List Part → ℕ
seen_triangles lists parts = length (triangles_of_parts lists.triangles parts)

-- `# kept P of Q`
unfoldable pub kept_line : ℕ → ℕ → List ℕ
kept_line kept whole = codes "# kept " ++ decimal kept ++ codes " of " ++ decimal whole ++ codes "\n"

-- the text of a frame with these of its parts: their triangles in their order, and only the vertices that these have
unfoldable pub parts_text : ℕ → ℤ → ℤ → List Region → MeshLists → List Part → List ℕ
parts_text number x y actives lists parts =
    let triangles = triangles_of_parts lists.triangles parts in
    head_text number x y actives
    ++ kept_line (length parts) (length lists.parts)
    ++ flat_map (λ place. vertex_line (vertex_of_place lists.vertices place))
    (named_places triangles (length lists.vertices))
    ++ flat_map (λ triangle. triangle_line (map (new_place triangles) triangle)) triangles

-- the text of a frame with the parts that a view keeps
abbrev pub seen_text : ℕ → ℤ → ℤ → List Region → MeshLists → List HalfSpace → List ℕ
seen_text number x y actives lists view = parts_text number x y actives lists (kept_parts view lists.parts)
