-- The lists of a frame's text, from its lines.
use Rattle.std.proofs.Common.{◌≡◌, ℕ, ℤ, pos, zero, suc, ◌+◌, ◌^◌, ◌<◌, ◌≤◌, ◌≤ℤ◌, neg_ℤ, true, false, nat_eq, nat_lt, int_le, List, [], ◌∷◌, ◌++◌, All, length, get_or, map, drop, flat_map, Option, Some, None, Result, Ok, codes, refl, sym, ap, subst, ◌∙◌, arith, append_assoc}
use borrow.Author.Differences.{ints}
use Rattle.std.proofs.lemmas.Bool.Decides.{nat_tests}
use Rattle.std.proofs.lemmas.List.{append-nil, length-append, length-map}
use Rattle.std.proofs.lemmas.List.Elements.{All-append, All-cons, All-nil, All-head, All-tail, All-map}
use Rattle.clip_regions.specs.declared.region.Region.{Region}
use Rattle.clip_regions.specs.Regions.{IsWithin}
use Rattle.mesh_laws.specs.Conditions.{IsAtMost}
use Rattle.mesh_model.specs.declared.shapes.Vertex.{Vertex}
use Rattle.mesh_model.specs.Mesh.{MeshLists}
use Rattle.mesh_model.specs.Text.{frame_line, viewer_line, level_lines, vertex_line, triangle_line, head_text, frame_text}
use Rattle.mesh_model.specs.Watertight.{covered}
use Rattle.mesh_lists.specs.Lines.{whole_lines, cut_line, onto, leading}
use Rattle.mesh_lists.specs.Says.{frame_of, viewer_of, level_of, kept_of, vertex_of, triangle_of}
use Rattle.mesh_lists.specs.Lists.{Lists, IsFace, line_at, level_regions, is_near, are_near, kept_lines, body_lists, levels_lists, opened_lists, lists_of_lines, ended, lists_of_text}
use Rattle.frame_lists.specs.Laws.{IsDrawnOrEmpty, IsPrinted, ArePrinted, TextsSayLists}
use Rattle.frame_lists.proofs.Words.{NaturalsAreRead, WholesAreRead}
use Rattle.frame_lists.proofs.Texts.{IsLine, printed, printed_more, line_printed, all_printed, lines_are, end_is}
use Rattle.frame_lists.proofs.Said.{frame_said, viewer_said, level_said, vertex_said, triangle_said, frame_line_is, viewer_line_is, level_line_is, vertex_line_is, triangle_line_is, frame_read, frame_written, viewer_read, viewer_written, level_read, level_written, vertex_read, vertex_written, triangle_read, triangle_written, triangle_no_vertex, vertex_no_level, triangle_no_level, vertex_no_kept, triangle_no_kept, nothing_no_level, nothing_no_kept}

-- ---- the lines of a text
abbrev levels_said : ℕ → List Region → List (List ℕ)
levels_said level [] = []
levels_said level (active ∷ coarser) = level_said level active ∷ levels_said (level + 1) coarser

unfoldable pub body_said : List Vertex → List (List ℕ) → List (List ℕ)
body_said vertices triangles = map vertex_said vertices ++ map triangle_said triangles

levels_printed : (level : ℕ) (actives : List Region) → level_lines level actives ≡ printed (levels_said level actives)
levels_printed level [] = refl
levels_printed level (active ∷ coarser) =
    (λ t. level_line_is level active t ++ levels_printed (level + 1) coarser t)
    ∙ line_printed (level_said level active) (printed (levels_said (level + 1) coarser))

body_printed : (vertices : List Vertex) (triangles : List (List ℕ)) → flat_map vertex_line vertices ++ flat_map triangle_line triangles ≡ printed (body_said vertices triangles)
unfolding body_said
body_printed vertices triangles =
    (λ t. all_printed vertex_said vertex_line vertices vertex_line_is t ++ all_printed triangle_said triangle_line triangles triangle_line_is t)
    ∙ sym (printed_more (map vertex_said vertices) (map triangle_said triangles))

unfoldable pub frame_lines : ℕ → ℤ → ℤ → List Region → MeshLists → List (List ℕ)
frame_lines number x y actives lists = frame_said number ∷ viewer_said x y ∷ (levels_said 0 actives ++ body_said lists.vertices lists.triangles)

head_printed : (number : ℕ) (x y : ℤ) (levels rest : List ℕ) → frame_line number ++ viewer_line x y ++ levels ++ rest ≡ frame_said number ++ 10 ∷ (viewer_said x y ++ 10 ∷ (levels ++ rest))
head_printed number x y levels rest =
    append_assoc (frame_line number ++ viewer_line x y) levels rest
    ∙ append_assoc (frame_line number) (viewer_line x y) (levels ++ rest)
    ∙ (λ t. frame_line_is number t ++ (viewer_line_is x y t ++ (levels ++ rest)))
    ∙ line_printed (frame_said number) (viewer_said x y ++ codes "\n" ++ (levels ++ rest))
    ∙ ap (λ (text : List ℕ). frame_said number ++ 10 ∷ text) (line_printed (viewer_said x y) (levels ++ rest))

text_printed : (number : ℕ) (x y : ℤ) (actives : List Region) (lists : MeshLists) → frame_text number x y actives lists ≡ printed (frame_lines number x y actives lists)
unfolding frame_text head_text frame_lines
text_printed number x y actives lists =
    let body = body_said lists.vertices lists.triangles in
    append_assoc (frame_line number ++ viewer_line x y ++ level_lines 0 actives) (flat_map vertex_line lists.vertices) (flat_map triangle_line lists.triangles)
    ∙ (λ t. frame_line number ++ viewer_line x y ++ levels_printed 0 actives t ++ body_printed lists.vertices lists.triangles t)
    ∙ head_printed number x y (printed (levels_said 0 actives)) (printed body)
    ∙ ap (λ (text : List ℕ). frame_said number ++ 10 ∷ (viewer_said x y ++ 10 ∷ text)) (sym (printed_more (levels_said 0 actives) body))

-- ---- they are lines
levels_written : (level : ℕ) (actives : List Region) → level + length actives < 2 ^ 64 → All IsDrawnOrEmpty actives → All IsLine (levels_said level actives)
levels_written level [] few drawn = All-nil IsLine
levels_written level (active ∷ coarser) few drawn =
    All-cons IsLine (level_said level active) (levels_said (level + 1) coarser)
    (level_written level active (omega (arith, few)) (All-head IsDrawnOrEmpty active coarser drawn))
    (levels_written (level + 1) coarser (omega (arith, few)) (All-tail IsDrawnOrEmpty active coarser drawn))

body_written : (vertices : List Vertex) (triangles : List (List ℕ)) → length vertices < 2 ^ 64 → All IsPrinted vertices → All (IsFace (length vertices)) triangles → All IsLine (body_said vertices triangles)
unfolding body_said
body_written vertices triangles few near faces =
    All-append IsLine (map vertex_said vertices) (map triangle_said triangles)
    (All-map IsLine vertex_said vertices (λ k d low. vertex_written (get_or vertices k d) (near k d low)))
    (All-map IsLine triangle_said triangles (λ k d low. triangle_written (length vertices) (get_or triangles k d) few (faces k d low)))

frame_lines_written : (number : ℕ) (x y : ℤ) (actives : List Region) (lists : MeshLists) → number < 2 ^ 64 → IsAtMost (2 ^ 24) x → IsAtMost (2 ^ 24) y → ArePrinted actives lists →
    All IsLine (frame_lines number x y actives lists)
unfolding frame_lines
frame_lines_written number x y actives lists small column row h =
    let many = h.levels.high in
    let levels = levels_said 0 actives in
    let body = body_said lists.vertices lists.triangles in
    All-cons IsLine (frame_said number) (viewer_said x y ∷ (levels ++ body)) (frame_written number small)
    (All-cons IsLine (viewer_said x y) (levels ++ body) (viewer_written x y column row)
    (All-append IsLine levels body (levels_written 0 actives (omega (arith, many)) h.regions) (body_written lists.vertices lists.triangles h.few h.vertices h.faces)))

-- ---- leading lines
onto_said : {A : Type 0} (said : Option A) (a : A) (more : List A) → said ≡ Some a → onto said more ≡ a ∷ more
onto_said said a more is = ap (λ said. onto said more) is

onto_nothing : {A : Type 0} (said : Option A) (more : List A) → said ≡ None → onto said more ≡ []
onto_nothing said more is = ap (λ said. onto said more) is

leading_all : {A : Type 0} (says : List ℕ → Option A) (said : A → List ℕ) (xs : List A) (rest : List (List ℕ)) → All (λ x. says (said x) ≡ Some x) xs →
    leading says (map said xs ++ rest) ≡ xs ++ leading says rest
leading_all {A} says said [] rest all = refl
leading_all {A} says said (x ∷ xs) rest all =
    onto_said (says (said x)) x (leading says (map said xs ++ rest)) (All-head (λ (x : A). says (said x) ≡ Some x) x xs all)
    ∙ ap (λ (more : List A). x ∷ more) (leading_all says said xs rest (All-tail (λ (x : A). says (said x) ≡ Some x) x xs all))

drop_all_said : {A : Type 0} (said : A → List ℕ) (xs : List A) (rest : List (List ℕ)) → drop (length xs) (map said xs ++ rest) ≡ rest
drop_all_said said [] rest = refl
drop_all_said said (x ∷ xs) rest = drop_all_said said xs rest

no_vertices : (triangles : List (List ℕ)) → leading vertex_of (map triangle_said triangles) ≡ []
no_vertices [] = refl
no_vertices (t ∷ ts) = onto_nothing (vertex_of (triangle_said t)) (leading vertex_of (map triangle_said ts)) (triangle_no_vertex t)

-- ---- the body
leading_vertices : NaturalsAreRead → WholesAreRead → (vertices : List Vertex) (triangles : List (List ℕ)) → All IsPrinted vertices → leading vertex_of (body_said vertices triangles) ≡ vertices
unfolding body_said
leading_vertices naturals wholes vertices triangles near =
    leading_all vertex_of vertex_said vertices (map triangle_said triangles) (λ k d low. vertex_read naturals wholes (get_or vertices k d) (near k d low))
    ∙ ap (λ (more : List Vertex). vertices ++ more) (no_vertices triangles)
    ∙ append-nil vertices

leading_triangles : NaturalsAreRead → (vertices : List Vertex) (triangles : List (List ℕ)) → length vertices < 2 ^ 64 → All (IsFace (length vertices)) triangles →
    leading (triangle_of (length vertices)) (drop (length vertices) (body_said vertices triangles)) ≡ triangles
unfolding body_said
leading_triangles naturals vertices triangles few faces =
    ap (leading (triangle_of (length vertices))) (drop_all_said vertex_said vertices (map triangle_said triangles) ∙ sym (append-nil (map triangle_said triangles)))
    ∙ leading_all (triangle_of (length vertices)) triangle_said triangles [] (λ k d low. triangle_read naturals (length vertices) (get_or triangles k d) few (faces k d low))
    ∙ append-nil triangles

body_length : (vertices : List Vertex) (triangles : List (List ℕ)) → length (body_said vertices triangles) ≡ length vertices + length triangles
unfolding body_said
body_length vertices triangles =
    length-append (map vertex_said vertices) (map triangle_said triangles)
    ∙ (λ t. length-map vertices vertex_said t + length-map triangles triangle_said t)

body_read : NaturalsAreRead → WholesAreRead → (head : ℕ) (border : Region) (vertices : List Vertex) (triangles : List (List ℕ)) →
    length vertices < 2 ^ 64 → All IsPrinted vertices → All (IsFace (length vertices)) triangles →
    body_lists head border (body_said vertices triangles) ≡ Ok (record { vertices = vertices; triangles = triangles; border = border })
unfolding body_lists
body_read naturals wholes head border vertices triangles few near faces =
    let vs = leading_vertices naturals wholes vertices triangles near in
    let ts = leading_triangles naturals vertices triangles few faces in
    let all : nat_lt (length vertices + length triangles) (length (body_said vertices triangles)) ≡ false = let count = body_length vertices triangles in grind (arith, nat_tests) in
    rw vs (rw ts (rw all refl))

-- ---- the levels
-- a line behind the levels is no level's, and tells nothing of kept parts
record IsBehind (lines : List (List ℕ)) : Type 0 where
  no_level : (level : ℕ) → level_of level (line_at lines 0) ≡ None
  no_kept : kept_of (line_at lines 0) ≡ None

body_behind : (vertices : List Vertex) (triangles : List (List ℕ)) → IsBehind (body_said vertices triangles)
unfolding body_said
body_behind [] [] = record { no_level = nothing_no_level; no_kept = nothing_no_kept }
body_behind [] (t ∷ ts) = record { no_level = λ level. triangle_no_level level t; no_kept = triangle_no_kept t }
body_behind (v ∷ vs) triangles = record { no_level = λ level. vertex_no_level level v; no_kept = vertex_no_kept v }

regions_stop : (most level : ℕ) (lines : List (List ℕ)) → level_of level (line_at lines 0) ≡ None → level_regions most level lines ≡ []
regions_stop zero level lines none = refl
regions_stop (suc most) level [] none = refl
regions_stop (suc most) level (line ∷ lines) none = onto_nothing (level_of level line) (level_regions most (level + 1) lines) none

regions_read : NaturalsAreRead → WholesAreRead → (most level : ℕ) (actives : List Region) (lines : List (List ℕ)) → level + most < 2 ^ 64 → length actives ≤ most → All IsDrawnOrEmpty actives → IsBehind lines →
    level_regions most level (levels_said level actives ++ lines) ≡ actives
regions_read naturals wholes most level [] lines few fit drawn stop = regions_stop most level lines (stop.no_level level)
regions_read naturals wholes zero level (active ∷ coarser) lines few fit drawn stop = absurd (omega (arith, fit))
regions_read naturals wholes (suc most) level (active ∷ coarser) lines few fit drawn stop =
    onto_said (level_of level (level_said level active)) active (level_regions most (level + 1) (levels_said (level + 1) coarser ++ lines))
    (level_read naturals wholes level active (omega (arith, few)) (All-head IsDrawnOrEmpty active coarser drawn))
    ∙ ap (λ (more : List Region). active ∷ more)
    (regions_read naturals wholes most (level + 1) coarser lines (omega (arith, few)) (omega (arith, fit)) (All-tail IsDrawnOrEmpty active coarser drawn) stop)

levels_dropped : (level : ℕ) (actives : List Region) (lines : List (List ℕ)) → drop (length actives) (levels_said level actives ++ lines) ≡ lines
levels_dropped level [] lines = refl
levels_dropped level (active ∷ coarser) lines = levels_dropped (level + 1) coarser lines

near_test : (x : ℤ) → neg_ℤ (pos (2 ^ 24)) ≤ℤ x → x ≤ℤ pos (2 ^ 24) → is_near x ≡ true
unfolding is_near
near_test x low high =
    let a : int_le (neg_ℤ (pos (2 ^ 24))) x ≡ true = grind (arith, ints) in
    let b : int_le x (pos (2 ^ 24)) ≡ true = grind (arith, ints) in
    rw (a, b) refl

near_tests : (r : Region) → IsWithin (2 ^ 24) r → are_near r ≡ true
unfolding are_near
near_tests r h =
    let a = near_test r.x0 h.x0_low h.x0_high in
    let b = near_test r.y0 h.y0_low h.y0_high in
    let c = near_test r.x1 h.x1_low h.x1_high in
    let d = near_test r.y1 h.y1_low h.y1_high in
    rw (a, b, c, d) refl

none_kept : (lines : List (List ℕ)) → IsBehind lines → kept_lines lines ≡ 0
unfolding kept_lines
none_kept lines stop = rw (stop.no_kept) refl

levels_read : (regions : List Region) (lines : List (List ℕ)) → 0 < length regions → IsWithin (2 ^ 24) (covered regions) → IsBehind lines →
    levels_lists regions lines ≡ body_lists (2 + length regions + 0) (covered regions) lines
unfolding levels_lists
levels_read regions lines some near stop =
    let test : nat_eq (length regions) 0 ≡ false = grind (arith, nat_tests) in
    rw (test, near_tests (covered regions) near, none_kept lines stop) refl

opened_read : NaturalsAreRead → WholesAreRead → (actives : List Region) (lines : List (List ℕ)) → length actives ≤ 12 → All IsDrawnOrEmpty actives → IsBehind lines →
    opened_lists (levels_said 0 actives ++ lines) ≡ levels_lists actives lines
unfolding opened_lists
opened_read naturals wholes actives lines many drawn stop =
    let regions : level_regions 12 0 (levels_said 0 actives ++ lines) ≡ actives = regions_read naturals wholes 12 0 actives lines (omega arith) many drawn stop in
    rw regions (ap (levels_lists actives) (levels_dropped 0 actives lines))

-- ---- the whole
lines_read : (number : ℕ) (x y : ℤ) (lines : List (List ℕ)) → frame_of (frame_said number) ≡ Some number → viewer_of (viewer_said x y) ≡ Some (x, y) →
    lists_of_lines (frame_said number ∷ viewer_said x y ∷ lines) ≡ opened_lists lines
unfolding lists_of_lines
lines_read number x y lines first second = rw (first, second) refl

uncut : (lines : List (List ℕ)) (rest : List ℕ) (lists : Result Lists ℕ) → rest ≡ [] → ended 0 lines rest lists ≡ lists
unfolding ended
uncut lines rest lists none = rw none refl

by_lines : (text : List ℕ) (lines : List (List ℕ)) → All IsLine lines → text ≡ printed lines → lists_of_text text ≡ lists_of_lines lines
unfolding lists_of_text
by_lines text lines written is =
    let P : List ℕ → Type 0 = λ text. ended 0 (whole_lines text) (cut_line text) (lists_of_lines (whole_lines text)) ≡ lists_of_lines lines in
    subst P (sym is)
    (uncut (whole_lines (printed lines)) (cut_line (printed lines)) (lists_of_lines (whole_lines (printed lines))) (end_is lines written)
    ∙ ap lists_of_lines (lines_are lines written))

pub texts_say_lists : NaturalsAreRead → WholesAreRead → TextsSayLists
unfolding frame_lines
texts_say_lists naturals wholes number x y actives lists small column row h =
    let many = h.levels.high in
    let some = h.levels.low in
    let body = body_said lists.vertices lists.triangles in
    let stop = body_behind lists.vertices lists.triangles in
    by_lines (frame_text number x y actives lists) (frame_lines number x y actives lists) (frame_lines_written number x y actives lists small column row h) (text_printed number x y actives lists)
    ∙ lines_read number x y (levels_said 0 actives ++ body) (frame_read naturals number small) (viewer_read wholes x y column row)
    ∙ opened_read naturals wholes actives body many h.regions stop
    ∙ levels_read actives body some h.covered stop
    ∙ body_read naturals wholes (2 + length actives + 0) (covered actives) lists.vertices lists.triangles h.few h.vertices h.faces
