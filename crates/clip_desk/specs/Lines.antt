-- The lines that tell of a view and of a frame's text.
use Rattle.std.specs.Prelude.{ℕ, List, ◌++◌, codes, decimal, flat_map, length}
use Rattle.std.specs.Fmt.{signed_decimal}
use Rattle.mesh_model.specs.declared.shapes.HalfSpace.{HalfSpace}
use Rattle.mesh_model.specs.Mesh.{MeshLists}
use Rattle.mesh_model.specs.Seen.{kept_parts, named_places, triangles_of_parts}

-- ` vertices V triangles T`, and the end of the line
abbrev pub counts_text : ℕ → ℕ → List ℕ
counts_text vertices triangles =
    codes " vertices " ++ (decimal vertices ++ (codes " triangles " ++ (decimal triangles ++ codes "\n")))

-- the line that tells of a frame that was drawn alone: its number, and how many vertices and triangles its text has
abbrev pub told_line : ℕ → ℕ → ℕ → List ℕ
told_line number vertices triangles = codes "frame " ++ (decimal number ++ counts_text vertices triangles)

-- the line of the end of a frame: its pass, its number, and how many vertices and triangles its text has
unfoldable pub closed_line : ℕ → ℕ → ℕ → ℕ → List ℕ
closed_line p number vertices triangles =
    codes "end " ++ (decimal p ++ (codes ": closed " ++ (decimal number ++ counts_text vertices triangles)))

-- `endseen P: closed f kept P of Q`
unfoldable pub kept_text : ℕ → ℕ → ℕ → ℕ → List ℕ
kept_text p number kept parts =
    codes "endseen " ++ (decimal p ++ (codes ": closed " ++ (decimal number
    ++ (codes " kept " ++ (decimal kept ++ (codes " of " ++ decimal parts))))))

-- the line of the end of a frame of which some parts are written: how many of how many, and how many vertices and
-- triangles these have
unfoldable pub closed_seen_line : ℕ → ℕ → ℕ → ℕ → ℕ → ℕ → List ℕ
closed_seen_line p number kept parts vertices triangles =
    kept_text p number kept parts ++ counts_text vertices triangles

-- the line of such an end of a pass without a frame
unfoldable pub unseen_line : ℕ → List ℕ
unseen_line p = codes "endseen " ++ (decimal p ++ codes ": noframe\n")

-- the line of the end of a frame whose mesh has these lists
abbrev pub mesh_line : ℕ → ℕ → MeshLists → List ℕ
mesh_line p number lists = closed_line p number (length lists.vertices) (length lists.triangles)

-- the triangles of the parts that a view keeps, and how many vertices they have
abbrev pub kept_triangles : List HalfSpace → MeshLists → List (List ℕ)
kept_triangles view lists = triangles_of_parts lists.triangles (kept_parts view lists.parts)

abbrev pub kept_vertices : List HalfSpace → MeshLists → ℕ
kept_vertices view lists = length (named_places (kept_triangles view lists) (length lists.vertices))

-- the line of the end of a frame whose mesh has these lists, of the parts that a view keeps
abbrev pub seen_line : ℕ → ℕ → List HalfSpace → MeshLists → List ℕ
seen_line p number view lists =
    closed_seen_line p number (length (kept_parts view lists.parts)) (length lists.parts) (kept_vertices view lists)
    (length (kept_triangles view lists))

-- ` a b c d`
unfoldable pub space_text : HalfSpace → List ℕ
space_text space =
    codes " " ++ signed_decimal space.a ++ codes " " ++ signed_decimal space.b ++ codes " " ++ signed_decimal space.c
    ++ codes " " ++ signed_decimal space.d

-- the line of a view: its half-spaces, and how many they are
unfoldable pub view_line : List HalfSpace → List ℕ
view_line view = codes "see" ++ flat_map space_text view ++ (codes ": view " ++ (decimal (length view) ++ codes "\n"))
