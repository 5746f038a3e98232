-- The number of triangles does not depend on the vertices.
use Rattle.std.proofs.Common.{◌≡◌, ℕ, ◌+◌, ◌*◌, Bool, true, false, List, [], ◌∷◌, ◌++◌, length, reverse, ℤ, refl, ap, ap₂, sym, ◌∙◌, arith, length-append}
use Rattle.std.specs.List.{flat_map}
use Rattle.std.proofs.lemmas.List.{length-map, length-reverse}
use Rattle.std.proofs.lemmas.List.Concat.{flat_map-append}
use Rattle.clip_regions.specs.declared.region.Region.{Region}
use Rattle.clip_regions.specs.Regions.{is_empty, empty_region, cells, columns, rows, numbers_from}
use Rattle.terrain_model.specs.Terrain.{Terrain}
use Rattle.mesh_model.specs.declared.shapes.Vertex.{Vertex}
use Rattle.mesh_model.specs.declared.shapes.PartKind.{PartKind}
use Rattle.mesh_model.specs.declared.shapes.PartKind.TheVariants.{Whole, North, West, East, South, StitchNorth, StitchEast, StitchSouth, StitchWest}
use Rattle.mesh_model.specs.Vertices.{hole, mesh_vertices, listed_vertices, vertex_at}
use Rattle.mesh_model.specs.Parts.{PartTriangles, corner_place, square_triangles, corners_at, squares_in, square_part, square_parts, stitches_from, stitches_along, places_in_row, places_in_column, stitch_part, stitch_parts, square_parts_from, stitch_parts_from, all_stitch_parts, parts_of_regions}
use Rattle.mesh_model.specs.Mesh.{mesh, mesh_of_parts}
use Rattle.mesh_plain.proofs.Borders.{no_stitch_parts, four_stitch_parts}
use Rattle.mesh_plain.proofs.SquareParts.{no_square_parts, one_square_part, four_square_parts, parts_around}

-- how many triangles some parts have
abbrev pub triangles_in : List PartTriangles → ℕ
triangles_in parts = length (flat_map (λ part. part.triangles) parts)

in_two : (a b : List PartTriangles) → triangles_in (a ++ b) ≡ triangles_in a + triangles_in b
in_two a b =
    ap (length {A = List ℕ}) (flat_map-append (λ part. part.triangles) a b)
    ∙ length-append (flat_map (λ part. part.triangles) a) (flat_map (λ part. part.triangles) b)

in_first : (part : PartTriangles) (parts : List PartTriangles) → triangles_in (part ∷ parts) ≡ length part.triangles + triangles_in parts
in_first part parts = length-append part.triangles (flat_map (λ part. part.triangles) parts)

pairs : {A B : Type 0} (f : A → List B) (xs : List A) → ((x : A) → length (f x) ≡ 2) → length (flat_map f xs) ≡ 2 * length xs
pairs f [] two = refl
pairs f (x ∷ xs) two = omega (arith, length-append (f x) (flat_map f xs), two x, pairs f xs two)

two_triangles : (vertices : List Vertex) (level : ℕ) (cell : ℤ × ℤ) → length (square_triangles vertices level cell.0 cell.1) ≡ 2
unfolding square_triangles
two_triangles vertices level cell = refl

in_squares : (v w : List Vertex) (level : ℕ) (kind : PartKind) (squares : Region) → length (square_part v level kind squares).triangles ≡ length (square_part w level kind squares).triangles
unfolding square_part
in_squares v w level kind squares =
    pairs (λ (cell : ℤ × ℤ). square_triangles v level cell.0 cell.1) (cells squares) (two_triangles v level)
    ∙ sym (pairs (λ (cell : ℤ × ℤ). square_triangles w level cell.0 cell.1) (cells squares) (two_triangles w level))

-- one part more on both sides
alike : (p q : PartTriangles) (a b : List PartTriangles) → length p.triangles ≡ length q.triangles → triangles_in a ≡ triangles_in b → triangles_in (p ∷ a) ≡ triangles_in (q ∷ b)
alike p q a b first rest = in_first p a ∙ ap₂ ◌+◌ first rest ∙ sym (in_first q b)

-- four parts on both sides
four_alike : (p1 p2 p3 p4 q1 q2 q3 q4 : PartTriangles) → length p1.triangles ≡ length q1.triangles → length p2.triangles ≡ length q2.triangles → length p3.triangles ≡ length q3.triangles → length p4.triangles ≡ length q4.triangles → triangles_in (p1 ∷ p2 ∷ p3 ∷ p4 ∷ []) ≡ triangles_in (q1 ∷ q2 ∷ q3 ∷ q4 ∷ [])
four_alike p1 p2 p3 p4 q1 q2 q3 q4 a b c d =
    alike p1 q1 (p2 ∷ p3 ∷ p4 ∷ []) (q2 ∷ q3 ∷ q4 ∷ []) a (alike p2 q2 (p3 ∷ p4 ∷ []) (q3 ∷ q4 ∷ []) b (alike p3 q3 (p4 ∷ []) (q4 ∷ []) c (alike p4 q4 [] [] d refl)))

around_alike : (v w : List Vertex) (level : ℕ) (active gap : Region) → triangles_in (parts_around v level active gap) ≡ triangles_in (parts_around w level active gap)
around_alike v w level active gap =
    let north = λ (u : List Vertex). square_part u level North (squares_in (corners_at active.x0 active.y0 active.x1 gap.y0)) in
    let west = λ (u : List Vertex). square_part u level West (squares_in (corners_at active.x0 gap.y0 gap.x0 gap.y1)) in
    let east = λ (u : List Vertex). square_part u level East (squares_in (corners_at gap.x1 gap.y0 active.x1 gap.y1)) in
    let south = λ (u : List Vertex). square_part u level South (squares_in (corners_at active.x0 gap.y1 active.x1 active.y1)) in
    four_alike (north v) (west v) (east v) (south v) (north w) (west w) (east w) (south w)
    (in_squares v w level North (squares_in (corners_at active.x0 active.y0 active.x1 gap.y0)))
    (in_squares v w level West (squares_in (corners_at active.x0 gap.y0 gap.x0 gap.y1)))
    (in_squares v w level East (squares_in (corners_at gap.x1 gap.y0 active.x1 gap.y1)))
    (in_squares v w level South (squares_in (corners_at active.x0 gap.y1 active.x1 active.y1)))

square_parts_alike : (v w : List Vertex) (level : ℕ) (finer active : Region) (b c : Bool) → is_empty active ≡ b → is_empty (hole finer) ≡ c → triangles_in (square_parts v level finer active) ≡ triangles_in (square_parts w level finer active)
square_parts_alike v w level finer active true c e f =
    ap triangles_in (no_square_parts v level finer active e ∙ sym (no_square_parts w level finer active e))
square_parts_alike v w level finer active false true e f =
    let squares = squares_in active in
    ap triangles_in (one_square_part v level finer active e f)
    ∙ alike (square_part v level Whole squares) (square_part w level Whole squares) [] [] (in_squares v w level Whole squares) refl
    ∙ sym (ap triangles_in (one_square_part w level finer active e f))
square_parts_alike v w level finer active false false e f =
    ap triangles_in (four_square_parts v level finer active e f)
    ∙ around_alike v w level active (hole finer)
    ∙ sym (ap triangles_in (four_square_parts w level finer active e f))

from_alike : (p q : ℕ) (walk other : List ℕ) → length walk ≡ length other → length (stitches_from p walk) ≡ length (stitches_from q other)
from_alike p q [] [] e = refl
from_alike p q [] (n ∷ other) e = absurd (omega arith)
from_alike p q (m ∷ walk) [] e = absurd (omega arith)
from_alike p q (m ∷ []) (n ∷ []) e = refl
from_alike p q (m ∷ []) (n ∷ (o ∷ other)) e = absurd (omega arith)
from_alike p q (m ∷ (r ∷ walk)) (n ∷ []) e = absurd (omega arith)
from_alike p q (m ∷ (r ∷ walk)) (n ∷ (o ∷ other)) e =
    let shorter : length walk ≡ length other = omega arith in
    let rest = from_alike r o walk other shorter in
    omega (arith, rest)

along_alike : (walk other : List ℕ) → length walk ≡ length other → length (stitches_along walk) ≡ length (stitches_along other)
along_alike [] [] e = refl
along_alike [] (n ∷ other) e = absurd (omega arith)
along_alike (m ∷ walk) [] e = absurd (omega arith)
along_alike (m ∷ walk) (n ∷ other) e = let shorter : length walk ≡ length other = omega arith in from_alike m n walk other shorter

in_stitches : (level : ℕ) (kind : PartKind) (walk other : List ℕ) → length walk ≡ length other → length (stitch_part level kind walk).triangles ≡ length (stitch_part level kind other).triangles
unfolding stitch_part
in_stitches level kind walk other e = along_alike walk other e

row_alike : (v w : List Vertex) (level : ℕ) (active : Region) (j : ℤ) → length (places_in_row v level active j) ≡ length (places_in_row w level active j)
unfolding places_in_row
row_alike v w level active j =
    length-map (numbers_from active.x0 (columns active)) (λ i. corner_place v level i j) ∙ sym (length-map (numbers_from active.x0 (columns active)) (λ i. corner_place w level i j))

column_alike : (v w : List Vertex) (level : ℕ) (active : Region) (i : ℤ) → length (places_in_column v level active i) ≡ length (places_in_column w level active i)
unfolding places_in_column
column_alike v w level active i =
    length-map (numbers_from active.y0 (rows active)) (λ j. corner_place v level i j) ∙ sym (length-map (numbers_from active.y0 (rows active)) (λ j. corner_place w level i j))

back_alike : (walk other : List ℕ) → length walk ≡ length other → length (reverse walk) ≡ length (reverse other)
back_alike walk other e = length-reverse walk ∙ e ∙ sym (length-reverse other)

stitch_parts_alike : (v w : List Vertex) (level : ℕ) (active : Region) (b : Bool) → is_empty active ≡ b → triangles_in (stitch_parts v level active) ≡ triangles_in (stitch_parts w level active)
stitch_parts_alike v w level active true e =
    ap triangles_in (no_stitch_parts v level active e ∙ sym (no_stitch_parts w level active e))
stitch_parts_alike v w level active false e =
    let north = λ (u : List Vertex). places_in_row u level active active.y0 in
    let east = λ (u : List Vertex). places_in_column u level active active.x1 in
    let south = λ (u : List Vertex). reverse (places_in_row u level active active.y1) in
    let west = λ (u : List Vertex). reverse (places_in_column u level active active.x0) in
    ap triangles_in (four_stitch_parts v level active e)
    ∙ four_alike (stitch_part level StitchNorth (north v)) (stitch_part level StitchEast (east v)) (stitch_part level StitchSouth (south v)) (stitch_part level StitchWest (west v)) (stitch_part level StitchNorth (north w)) (stitch_part level StitchEast (east w)) (stitch_part level StitchSouth (south w)) (stitch_part level StitchWest (west w))
    (in_stitches level StitchNorth (north v) (north w) (row_alike v w level active active.y0))
    (in_stitches level StitchEast (east v) (east w) (column_alike v w level active active.x1))
    (in_stitches level StitchSouth (south v) (south w) (back_alike (places_in_row v level active active.y1) (places_in_row w level active active.y1) (row_alike v w level active active.y1)))
    (in_stitches level StitchWest (west v) (west w) (back_alike (places_in_column v level active active.x0) (places_in_column w level active active.x0) (column_alike v w level active active.x0)))
    ∙ sym (ap triangles_in (four_stitch_parts w level active e))

all_squares_alike : (v w : List Vertex) (level : ℕ) (finer : Region) (actives : List Region) → triangles_in (square_parts_from v level finer actives) ≡ triangles_in (square_parts_from w level finer actives)
all_squares_alike v w level finer [] = refl
all_squares_alike v w level finer (active ∷ coarser) =
    in_two (square_parts v level finer active) (square_parts_from v (level + 1) active coarser)
    ∙ ap₂ ◌+◌ (square_parts_alike v w level finer active (is_empty active) (is_empty (hole finer)) refl refl) (all_squares_alike v w (level + 1) active coarser)
    ∙ sym (in_two (square_parts w level finer active) (square_parts_from w (level + 1) active coarser))

stitches_from_alike : (v w : List Vertex) (level : ℕ) (active : Region) (coarser : List Region) → triangles_in (stitch_parts_from v level active coarser) ≡ triangles_in (stitch_parts_from w level active coarser)
stitches_from_alike v w level active [] = refl
stitches_from_alike v w level active (next ∷ coarser) =
    in_two (stitch_parts v level active) (stitch_parts_from v (level + 1) next coarser)
    ∙ ap₂ ◌+◌ (stitch_parts_alike v w level active (is_empty active) refl) (stitches_from_alike v w (level + 1) next coarser)
    ∙ sym (in_two (stitch_parts w level active) (stitch_parts_from w (level + 1) next coarser))

all_stitches_alike : (v w : List Vertex) (actives : List Region) → triangles_in (all_stitch_parts v actives) ≡ triangles_in (all_stitch_parts w actives)
all_stitches_alike v w [] = refl
all_stitches_alike v w (active ∷ coarser) = stitches_from_alike v w 0 active coarser

pub count_alike : (v w : List Vertex) (actives : List Region) → triangles_in (parts_of_regions v actives) ≡ triangles_in (parts_of_regions w actives)
unfolding parts_of_regions
count_alike v w actives =
    in_two (square_parts_from v 0 empty_region actives) (all_stitch_parts v actives)
    ∙ ap₂ ◌+◌ (all_squares_alike v w 0 empty_region actives) (all_stitches_alike v w actives)
    ∙ sym (in_two (square_parts_from w 0 empty_region actives) (all_stitch_parts w actives))

-- the triangles of a mesh are as many as over no vertices
pub mesh_count : (terrain : Terrain) (k : ℕ) (actives : List Region) → triangles_in (parts_of_regions [] actives) ≡ length (mesh terrain k actives).triangles
unfolding mesh mesh_of_parts
mesh_count terrain k actives = count_alike [] (mesh_vertices terrain k actives) actives

pub mesh_triangles : (terrain : Terrain) (k : ℕ) (actives : List Region) → triangles_in (parts_of_regions (mesh_vertices terrain k actives) actives) ≡ length (mesh terrain k actives).triangles
unfolding mesh mesh_of_parts
mesh_triangles terrain k actives = refl

pub vertex_count : (terrain : Terrain) (k : ℕ) (actives : List Region) → length (mesh_vertices terrain k actives) ≡ length (listed_vertices actives)
unfolding mesh_vertices
vertex_count terrain k actives = length-map (listed_vertices actives) (vertex_at terrain k actives)

pub mesh_is : (terrain : Terrain) (k : ℕ) (actives : List Region) → mesh_of_parts (mesh_vertices terrain k actives) (parts_of_regions (mesh_vertices terrain k actives) actives) ≡ mesh terrain k actives
unfolding mesh
mesh_is terrain k actives = refl
