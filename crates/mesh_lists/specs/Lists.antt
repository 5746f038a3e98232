-- The lists of a text: its vertices, its triangles and the region that its last level covers; or its first bad line,
-- counted from 1.
use Rattle.std.specs.Prelude.{◌≡◌, ℕ, zero, suc, ◌+◌, ◌^◌, Bool, not, ◌&&◌, ◌==◌, if◌then◌else◌, nat_lt, IsTrue, ◌<◌, ◌≤◌, ℤ, pos, neg_ℤ, ◌≤ℤ◌, int_le, All, slice_index, List, [], ◌∷◌, length, drop, slice_index_or, Option, Some, is_some, option_and_then, Result, Ok, Err}
use Rattle.clip_regions.specs.declared.region.Region.{Region}
use Rattle.mesh_model.specs.declared.shapes.Vertex.{Vertex}
use Rattle.mesh_model.specs.Watertight.{covered}
use Rattle.mesh_lists.specs.Lines.{whole_lines, cut_line, onto, leading}
use Rattle.mesh_lists.specs.declared.lists.ListsFault.{ListsFault}
use Rattle.mesh_lists.specs.declared.lists.ListsFault.TheVariants.{BadLine, NoMemory}
use Rattle.mesh_lists.specs.Says.{are_apart, frame_of, viewer_of, level_of, kept_of, vertex_of, triangle_of, where_true}

-- vertices, triangles as the places of three vertices each, counted from 0, and what the coarsest level covers, by
-- positions
pub record Lists : Type 0 where
  pub vertices : List Vertex
  pub triangles : List (List ℕ)
  pub border : Region

-- a vertex stands no farther from zero than 2^24
pub record IsNear (vertex : Vertex) : Type 0 where
  pub x_low : neg_ℤ (pos (2 ^ 24)) ≤ℤ vertex.x
  pub x_high : vertex.x ≤ℤ pos (2 ^ 24)
  pub z_low : neg_ℤ (pos (2 ^ 24)) ≤ℤ vertex.z
  pub z_high : vertex.z ≤ℤ pos (2 ^ 24)

-- a triangle is three places below a count, no two of them equal
pub record IsFace (count : ℕ) (triangle : List ℕ) : Type 0 where
  pub three : length triangle ≡ 3
  pub below : All (λ place. place < count) triangle
  pub apart : IsTrue (are_apart (slice_index triangle 0) (slice_index triangle 1) (slice_index triangle 2))

-- what holds of the lists of a text
pub record AreLists (lists : Lists) : Type 0 where
  pub few_vertices : length lists.vertices ≤ 2 ^ 28
  pub few_triangles : length lists.triangles ≤ 2 ^ 28
  pub near : All IsNear lists.vertices
  pub faces : All (IsFace (length lists.vertices)) lists.triangles

-- a line of some, from 0 on, and an empty one where there is none
abbrev pub line_at : List (List ℕ) → ℕ → List ℕ
line_at lines at = slice_index_or lines at []

-- the regions of the leading lines that are the lines of the next levels, from this one on: so many at most
abbrev pub level_regions : ℕ → ℕ → List (List ℕ) → List Region
level_regions zero level lines = []
level_regions (suc most) level [] = []
level_regions (suc most) level (line ∷ lines) = onto (level_of level line) (level_regions most (level + 1) lines)

-- a corner is no farther from zero than 2^24
unfoldable pub is_near : ℤ → Bool
is_near n = int_le (neg_ℤ (pos (2 ^ 24))) n && int_le n (pos (2 ^ 24))

unfoldable pub are_near : Region → Bool
are_near r = (is_near r.x0 && is_near r.y0) && (is_near r.x1 && is_near r.y1)

-- a corner and a region, where they are near
abbrev pub near_corner : ℤ → Option ℤ
near_corner n = where_true (is_near n) n

unfoldable pub near_region : Region → Option Region
near_region r =
    option_and_then (λ x0. option_and_then (λ y0. option_and_then (λ x1. option_and_then (λ y1.
    Some (record { x0 = x0; y0 = y0; x1 = x1; y1 = y1 }))
    (near_corner r.y1)) (near_corner r.x1)) (near_corner r.y0)) (near_corner r.x0)

-- how many of the leading lines tell how many parts were kept: one at most
unfoldable pub kept_lines : List (List ℕ) → ℕ
kept_lines lines = if is_some (kept_of (line_at lines 0)) then 1 else 0

-- the lists of the lines behind the head of so many lines: vertices, then triangles, then nothing
unfoldable pub body_lists : ℕ → Region → List (List ℕ) → Result Lists ℕ
body_lists head border lines =
    let vertices = leading vertex_of lines in
    let triangles = leading (triangle_of (length vertices)) (drop (length vertices) lines) in
    let said = length vertices + length triangles in
    if nat_lt said (length lines) then Err (head + said + 1)
    else Ok (record { vertices = vertices; triangles = triangles; border = border })

-- the same behind the level lines, where a line of kept parts may stand first
unfoldable pub levels_lists : List Region → List (List ℕ) → Result Lists ℕ
levels_lists regions lines =
    let head = 2 + length regions in
    let kept = kept_lines lines in
    if length regions == 0 then Err 3
    else if not (are_near (covered regions)) then Err head
    else body_lists (head + kept) (covered regions) (drop kept lines)

-- the lists of the lines behind the frame's number and the viewer: one to twelve levels, and what follows
unfoldable pub opened_lists : List (List ℕ) → Result Lists ℕ
opened_lists lines =
    let regions = level_regions 12 0 lines in levels_lists regions (drop (length regions) lines)

-- the lists of some lines
unfoldable pub lists_of_lines : List (List ℕ) → Result Lists ℕ
lists_of_lines lines =
    if not (is_some (frame_of (line_at lines 0))) then Err 1
    else if not (is_some (viewer_of (line_at lines 1))) then Err 2
    else opened_lists (drop 2 lines)

-- a bad line, or this one where there is none
abbrev pub bad_at : ℕ → Result Lists ℕ → Result Lists ℕ
bad_at number (Ok lists) = Err number
bad_at number (Err line) = Err line

-- the lists of some lines behind so many, where what stands behind them is empty: a last line without its line feed is
-- bad
unfoldable pub ended : ℕ → List (List ℕ) → List ℕ → Result Lists ℕ → Result Lists ℕ
ended before lines rest lists = if length rest == 0 then lists else bad_at (before + length lines + 1) lists

-- the lists of a text by the text behind its head of so many lines
abbrev pub lists_behind : ℕ → Region → List ℕ → Result Lists ℕ
lists_behind head border text =
    ended head (whole_lines text) (cut_line text) (body_lists head border (whole_lines text))

-- the lists of a text
unfoldable pub lists_of_text : List ℕ → Result Lists ℕ
lists_of_text text = ended 0 (whole_lines text) (cut_line text) (lists_of_lines (whole_lines text))

-- what the reading of a text found where it failed: the first bad line, or no memory
abbrev pub IsStop : Result Lists ℕ → ListsFault → Type 0
IsStop lists (BadLine line) = lists ≡ Err line
IsStop lists NoMemory = Unit {0}
