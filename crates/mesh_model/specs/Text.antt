-- The text of a frame, as a Wavefront OBJ file with comment lines at its head.
use Rattle.std.specs.Prelude.{ℕ, ◌+◌, ◌*◌, ◌/◌, ◌%◌, ℤ, pos, negsuc, List, [], ◌∷◌, ◌++◌, flat_map, codes, decimal, unsigned_abs, slice_index, if◌then◌else◌}
use Rattle.std.specs.Fmt.{signed_decimal}
use Rattle.clip_regions.specs.declared.region.Region.{Region}
use Rattle.clip_regions.specs.Regions.{is_empty}
use Rattle.mesh_model.specs.declared.shapes.Vertex.{Vertex}
use Rattle.mesh_model.specs.Mesh.{MeshLists}

-- `# clipmap frame N`
unfoldable pub frame_line : ℕ → List ℕ
frame_line number = codes "# clipmap frame " ++ decimal number ++ codes "\n"

-- `# viewer X Y`
unfoldable pub viewer_line : ℤ → ℤ → List ℕ
viewer_line x y = codes "# viewer " ++ signed_decimal x ++ codes " " ++ signed_decimal y ++ codes "\n"

-- ` active x0 y0 x1 y1`, or ` empty`
unfoldable pub region_text : Region → List ℕ
region_text r =
    if is_empty r then codes " empty"
    else codes " active " ++ signed_decimal r.x0 ++ codes " " ++ signed_decimal r.y0
    ++ codes " " ++ signed_decimal r.x1 ++ codes " " ++ signed_decimal r.y1

-- `# level L` and its active region
unfoldable pub level_line : ℕ → Region → List ℕ
level_line level active = codes "# level " ++ decimal level ++ region_text active ++ codes "\n"

-- the lines of these regions, from this level on
abbrev pub level_lines : ℕ → List Region → List ℕ
level_lines level [] = []
level_lines level (active ∷ coarser) = level_line level active ++ level_lines (level + 1) coarser

-- a number below 100,000 as five digits
unfoldable pub five_digits : ℕ → List ℕ
five_digits n =
    (48 + n / 10000) ∷ (48 + n / 1000 % 10) ∷ (48 + n / 100 % 10) ∷ (48 + n / 10 % 10) ∷ (48 + n % 10) ∷ []

-- `-` before a negative number
abbrev pub sign_text : ℤ → List ℕ
sign_text (pos n) = []
sign_text (negsuc n) = codes "-"

-- thirty-seconds of a metre as metres, with five digits after the point
unfoldable pub height_text : ℤ → List ℕ
height_text height =
    let size = unsigned_abs height in
    sign_text height ++ decimal (size / 32) ++ codes "." ++ five_digits (size % 32 * 3125)

-- `v x h y`
unfoldable pub vertex_line : Vertex → List ℕ
vertex_line vertex =
    codes "v " ++ signed_decimal vertex.x ++ codes " " ++ height_text vertex.height
    ++ codes " " ++ signed_decimal vertex.z ++ codes "\n"

-- `f a b c`, with the places of the three vertices counted from 1
unfoldable pub triangle_line : List ℕ → List ℕ
triangle_line triangle =
    codes "f " ++ decimal (slice_index triangle 0 + 1) ++ codes " " ++ decimal (slice_index triangle 1 + 1)
    ++ codes " " ++ decimal (slice_index triangle 2 + 1) ++ codes "\n"

-- the lines at the head of a frame's text: the frame's number, the viewer at its beginning, and the active region of
-- each level
unfoldable pub head_text : ℕ → ℤ → ℤ → List Region → List ℕ
head_text number x y actives = frame_line number ++ viewer_line x y ++ level_lines 0 actives

-- the text of a frame: its head, a line for each vertex, and a line for each triangle
unfoldable pub frame_text : ℕ → ℤ → ℤ → List Region → MeshLists → List ℕ
frame_text number x y actives lists =
    head_text number x y actives ++ flat_map vertex_line lists.vertices ++ flat_map triangle_line lists.triangles
