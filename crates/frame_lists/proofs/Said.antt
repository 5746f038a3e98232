-- What each printed line says.
use Rattle.std.proofs.Common.{◌≡◌, inl, inr, ℕ, ℤ, pos, negsuc, neg_ℤ, ◌+◌, ◌-◌, ◌%◌, ◌^◌, ◌<◌, ◌≤ℤ◌, ◌+ℤ◌, suc, true, false, nat_eq, int_le, IsTrue, List, [], ◌∷◌, ◌++◌, All, length, Some, None, codes, decimal, unsigned_abs, refl, sym, ap, subst, ◌∙◌, arith}
use Rattle.std.specs.List.{slice_index}
use lib.Signed.{mag, lt_z}
use borrow.Author.Differences.{ints}
use Rattle.std.specs.Fmt.{signed_decimal}
use Rattle.std.proofs.lemmas.Bool.Decides.{nat_tests}
use Rattle.clip_regions.specs.declared.region.Region.{Region}
use Rattle.clip_regions.specs.Regions.{is_empty, empty_region}
use Rattle.clip_regions.specs.FloorDivision.{floor_rem}
use Rattle.mesh_laws.specs.Conditions.{IsAtMost}
use Rattle.mesh_model.specs.declared.shapes.Vertex.{Vertex}
use Rattle.mesh_model.specs.Text.{frame_line, viewer_line, region_text, level_line, height_text, vertex_line, triangle_line}
use Rattle.number_words.specs.Numbers.{natural_of}
use Rattle.mesh_lists.specs.Lines.{parts_at, words}
use Rattle.mesh_lists.specs.Lists.{IsFace}
use Rattle.mesh_lists.specs.Says.{behind, one_number, frame_of, coordinate_of, two_coordinates, viewer_of, corner_of, has_sides, corners_of, active_words, level_words, level_of, kept_of, height_of, vertex_words, vertex_of, are_apart, triangle_words, triangle_of}
use Rattle.frame_lists.specs.Laws.{IsDrawn, IsDrawnOrEmpty, IsPrinted}
use Rattle.frame_lists.proofs.Words.{IsHigh, NaturalsAreRead, WholesAreRead, decimal_high, signed_high, word_last, word_more, two_words, three_words, four_words, joined_two, joined_three, joined_four}
use Rattle.frame_lists.proofs.Heights.{height_high, height_read}
use Rattle.frame_lists.proofs.Texts.{IsLine, high_written, written_by_test, behind_written, spaced}

-- ---- the lines without their line feeds
unfoldable pub frame_said : ℕ → List ℕ
frame_said number = codes "# clipmap frame " ++ decimal number

unfoldable pub viewer_said : ℤ → ℤ → List ℕ
viewer_said x y = codes "# viewer " ++ signed_decimal x ++ codes " " ++ signed_decimal y

unfoldable pub level_said : ℕ → Region → List ℕ
level_said level active = codes "# level " ++ decimal level ++ region_text active

unfoldable pub vertex_said : Vertex → List ℕ
vertex_said vertex = codes "v " ++ signed_decimal vertex.x ++ codes " " ++ height_text vertex.height ++ codes " " ++ signed_decimal vertex.z

unfoldable pub triangle_said : List ℕ → List ℕ
triangle_said triangle =
    codes "f " ++ decimal (slice_index triangle 0 + 1) ++ codes " " ++ decimal (slice_index triangle 1 + 1) ++ codes " " ++ decimal (slice_index triangle 2 + 1)

pub frame_line_is : (number : ℕ) → frame_line number ≡ frame_said number ++ codes "\n"
unfolding frame_line frame_said
frame_line_is number = refl

pub viewer_line_is : (x y : ℤ) → viewer_line x y ≡ viewer_said x y ++ codes "\n"
unfolding viewer_line viewer_said
viewer_line_is x y = refl

pub level_line_is : (level : ℕ) (active : Region) → level_line level active ≡ level_said level active ++ codes "\n"
unfolding level_line level_said
level_line_is level active = refl

pub vertex_line_is : (vertex : Vertex) → vertex_line vertex ≡ vertex_said vertex ++ codes "\n"
unfolding vertex_line vertex_said
vertex_line_is vertex = refl

pub triangle_line_is : (triangle : List ℕ) → triangle_line triangle ≡ triangle_said triangle ++ codes "\n"
unfolding triangle_line triangle_said
triangle_line_is triangle = refl

-- ---- numbers
pub mag_small : (x : ℤ) (n : ℕ) → n < 2 ^ 63 → IsAtMost n x → mag x < 2 ^ 63
mag_small (pos m) n few h = let high : pos m ≤ℤ pos n = h.high in omega (arith, ints, high, few)
mag_small (negsuc m) n few h = let low : neg_ℤ (pos n) ≤ℤ negsuc m = h.low in omega (arith, ints, low, few)

near_high : (x : ℤ) → IsAtMost (2 ^ 24) x → All IsHigh (signed_decimal x)
near_high x h = signed_high x (mag_small x (2 ^ 24) (omega arith) h)

coordinate_read : WholesAreRead → (x : ℤ) → IsAtMost (2 ^ 24) x → coordinate_of (signed_decimal x) ≡ Some x
coordinate_read wholes x h =
    wholes (neg_ℤ (pos (2 ^ 24))) (pos (2 ^ 24)) x (omega (arith, ints, h.low)) (omega (arith, ints, h.high)) h.low h.high

-- ---- the frame's number
frame_start : (text : List ℕ) → words (codes "# clipmap frame " ++ text) ≡ codes "#" ∷ codes "clipmap" ∷ codes "frame" ∷ words text
unfolding parts_at
frame_start text = refl

pub frame_read : NaturalsAreRead → (number : ℕ) → number < 2 ^ 64 → frame_of (frame_said number) ≡ Some number
unfolding frame_of frame_said behind one_number
frame_read naturals number small =
    let said : words (codes "# clipmap frame " ++ decimal number) ≡ codes "#" ∷ codes "clipmap" ∷ codes "frame" ∷ decimal number ∷ [] =
    frame_start (decimal number) ∙ ap (λ (more : List (List ℕ)). codes "#" ∷ codes "clipmap" ∷ codes "frame" ∷ more) (word_last (decimal number) (decimal_high number small)) in
    rw said (naturals 0 (2 ^ 64 - 1) number small (omega arith) (omega arith))

pub frame_written : (number : ℕ) → number < 2 ^ 64 → IsLine (frame_said number)
unfolding frame_said
frame_written number small =
    behind_written (codes "# clipmap frame ") (decimal number) (written_by_test (codes "# clipmap frame ") refl) (high_written (decimal number) (decimal_high number small))

-- ---- the viewer
viewer_start : (text : List ℕ) → words (codes "# viewer " ++ text) ≡ codes "#" ∷ codes "viewer" ∷ words text
unfolding parts_at
viewer_start text = refl

pub viewer_read : WholesAreRead → (x y : ℤ) → IsAtMost (2 ^ 24) x → IsAtMost (2 ^ 24) y → viewer_of (viewer_said x y) ≡ Some (x, y)
unfolding viewer_of viewer_said behind two_coordinates
viewer_read wholes x y column row =
    let a = signed_decimal x in
    let b = signed_decimal y in
    let said : words (codes "# viewer " ++ a ++ codes " " ++ b) ≡ codes "#" ∷ codes "viewer" ∷ a ∷ b ∷ [] =
    viewer_start (a ++ codes " " ++ b) ∙ ap (λ (more : List (List ℕ)). codes "#" ∷ codes "viewer" ∷ more)
    (ap words (joined_two a b) ∙ two_words a b (near_high x column) (near_high y row)) in
    let rx : coordinate_of a ≡ Some x = coordinate_read wholes x column in
    let ry : coordinate_of b ≡ Some y = coordinate_read wholes y row in
    rw said (rw (rx, ry) refl)

pub viewer_written : (x y : ℤ) → IsAtMost (2 ^ 24) x → IsAtMost (2 ^ 24) y → IsLine (viewer_said x y)
unfolding viewer_said
viewer_written x y column row =
    spaced (codes "# viewer " ++ signed_decimal x) (signed_decimal y)
    (behind_written (codes "# viewer ") (signed_decimal x) (written_by_test (codes "# viewer ") refl) (high_written (signed_decimal x) (near_high x column)))
    (high_written (signed_decimal y) (near_high y row))

-- ---- a level
even_size : (x : ℤ) → floor_rem x 2 ≡ 0 → nat_eq (unsigned_abs x % 2) 0 ≡ true
unfolding floor_rem
even_size (pos n) even = grind (arith, nat_tests)
even_size (negsuc n) even = let rest : suc n % 2 ≡ 0 = omega (arith, even) in grind (arith, nat_tests)

corner_near : WholesAreRead → (x : ℤ) → floor_rem x 2 ≡ 0 → IsAtMost (2 ^ 24) x → corner_of (signed_decimal x) ≡ Some x
unfolding corner_of
corner_near wholes x even near = rw (coordinate_read wholes x near) (rw (even_size x even) refl)

corners : (r : Region) → IsDrawn r → (IsAtMost (2 ^ 24) r.x0 × IsAtMost (2 ^ 24) r.y0) × (IsAtMost (2 ^ 24) r.x1 × IsAtMost (2 ^ 24) r.y1)
corners r drawn =
    let n = drawn.near in (
      (record { low = n.x0_low; high = n.x0_high }, record { low = n.y0_low; high = n.y0_high }),
      (record { low = n.x1_low; high = n.x1_high }, record { low = n.y1_low; high = n.y1_high }),
    )

some_cell : (r : Region) → IsDrawn r → is_empty r ≡ false
unfolding is_empty
some_cell r drawn =
    let across = drawn.wide.across in
    let along = drawn.wide.along in
    let a : lt_z r.x1 r.x0 ≡ false = grind (arith, ints) in
    let b : lt_z r.y1 r.y0 ≡ false = grind (arith, ints) in
    rw (a, b) refl

in_order : (m n : ℤ) → m ≤ℤ n → int_le m n ≡ true
in_order m n h = grind (arith, ints)

sides : (r : Region) → IsDrawn r → has_sides r ≡ true
unfolding has_sides
sides r drawn =
    let across = drawn.wide.across in
    let along = drawn.wide.along in
    let a : int_le (r.x0 +ℤ pos 2) r.x1 ≡ true = in_order (r.x0 +ℤ pos 2) r.x1 (omega (arith, ints, across)) in
    let b : int_le (r.y0 +ℤ pos 2) r.y1 ≡ true = in_order (r.y0 +ℤ pos 2) r.y1 (omega (arith, ints, along)) in
    rw (a, b) refl

drawn_text : (r : Region) → IsDrawn r →
    region_text r ≡ codes " active " ++ signed_decimal r.x0 ++ codes " " ++ signed_decimal r.y0 ++ codes " " ++ signed_decimal r.x1 ++ codes " " ++ signed_decimal r.y1
unfolding region_text
drawn_text r drawn = rw (some_cell r drawn) refl

empty_text : region_text empty_region ≡ codes " empty"
unfolding region_text is_empty
empty_text = refl

level_start : (text : List ℕ) → words (codes "# level " ++ text) ≡ codes "#" ∷ codes "level" ∷ words text
unfolding parts_at
level_start text = refl

active_start : (text : List ℕ) → words (codes "active " ++ text) ≡ codes "active" ∷ words text
unfolding parts_at
active_start text = refl

empty_word : words (codes "empty") ≡ codes "empty" ∷ []
unfolding parts_at
empty_word = refl

-- the words of a level's line, by those behind the level's number
level_by : (level : ℕ) (text : List ℕ) → level < 2 ^ 64 → words (codes "# level " ++ decimal level ++ 32 ∷ text) ≡ codes "#" ∷ codes "level" ∷ decimal level ∷ words text
level_by level text small =
    level_start (decimal level ++ 32 ∷ text) ∙ ap (λ (more : List (List ℕ)). codes "#" ∷ codes "level" ∷ more) (word_more (decimal level) text (decimal_high level small))

level_of_words : NaturalsAreRead → (level : ℕ) (line : List ℕ) (more : List (List ℕ)) → level < 2 ^ 64 →
    words line ≡ codes "#" ∷ codes "level" ∷ decimal level ∷ more → level_of level line ≡ active_words more
unfolding level_of level_words behind
level_of_words naturals level line more small is =
    let number : natural_of level level (decimal level) ≡ Some level = naturals level level level small (omega arith) (omega arith) in
    rw is (rw number refl)

active_read : WholesAreRead → (r : Region) → IsDrawn r → active_words (codes "active" ∷ signed_decimal r.x0 ∷ signed_decimal r.y0 ∷ signed_decimal r.x1 ∷ signed_decimal r.y1 ∷ []) ≡ Some r
unfolding active_words corners_of
active_read wholes r drawn =
    let near = corners r drawn in
    let even = drawn.even in
    let a : corner_of (signed_decimal r.x0) ≡ Some r.x0 = corner_near wholes r.x0 even.x0 near.0.0 in
    let b : corner_of (signed_decimal r.y0) ≡ Some r.y0 = corner_near wholes r.y0 even.y0 near.0.1 in
    let c : corner_of (signed_decimal r.x1) ≡ Some r.x1 = corner_near wholes r.x1 even.x1 near.1.0 in
    let d : corner_of (signed_decimal r.y1) ≡ Some r.y1 = corner_near wholes r.y1 even.y1 near.1.1 in
    rw (a, b, c, d) (rw (sides r drawn) refl)

drawn_words : (level : ℕ) (r : Region) → level < 2 ^ 64 → IsDrawn r →
    words (level_said level r) ≡ codes "#" ∷ codes "level" ∷ decimal level ∷ codes "active" ∷ signed_decimal r.x0 ∷ signed_decimal r.y0 ∷ signed_decimal r.x1 ∷ signed_decimal r.y1 ∷ []
unfolding level_said
drawn_words level r small drawn =
    let a = signed_decimal r.x0 in
    let b = signed_decimal r.y0 in
    let c = signed_decimal r.x1 in
    let d = signed_decimal r.y1 in
    let near = corners r drawn in
    let text : List ℕ = a ++ codes " " ++ b ++ codes " " ++ c ++ codes " " ++ d in
    let four : words text ≡ a ∷ b ∷ c ∷ d ∷ [] =
    ap words (joined_four a b c d) ∙ four_words a b c d (near_high r.x0 near.0.0) (near_high r.y0 near.0.1) (near_high r.x1 near.1.0) (near_high r.y1 near.1.1) in
    ap (λ (t : List ℕ). words (codes "# level " ++ decimal level ++ t)) (drawn_text r drawn)
    ∙ level_by level (codes "active " ++ text) small
    ∙ ap (λ (more : List (List ℕ)). codes "#" ∷ codes "level" ∷ decimal level ∷ more) (active_start text ∙ ap (λ (more : List (List ℕ)). codes "active" ∷ more) four)

empty_words : (level : ℕ) → level < 2 ^ 64 → words (level_said level empty_region) ≡ codes "#" ∷ codes "level" ∷ decimal level ∷ codes "empty" ∷ []
unfolding level_said
empty_words level small =
    ap (λ (t : List ℕ). words (codes "# level " ++ decimal level ++ t)) empty_text
    ∙ level_by level (codes "empty") small
    ∙ ap (λ (more : List (List ℕ)). codes "#" ∷ codes "level" ∷ decimal level ∷ more) empty_word

empty_read : active_words (codes "empty" ∷ []) ≡ Some empty_region
unfolding active_words
empty_read = refl

pub level_read : NaturalsAreRead → WholesAreRead → (level : ℕ) (r : Region) → level < 2 ^ 64 → IsDrawnOrEmpty r → level_of level (level_said level r) ≡ Some r
level_read naturals wholes level r small (inl none) =
    let P : Region → Type 0 = λ r. level_of level (level_said level r) ≡ Some r in
    subst P (sym none) (level_of_words naturals level (level_said level empty_region) (codes "empty" ∷ []) small (empty_words level small) ∙ empty_read)
level_read naturals wholes level r small (inr drawn) =
    level_of_words naturals level (level_said level r) (codes "active" ∷ signed_decimal r.x0 ∷ signed_decimal r.y0 ∷ signed_decimal r.x1 ∷ signed_decimal r.y1 ∷ []) small (drawn_words level r small drawn)
    ∙ active_read wholes r drawn

region_written : (r : Region) → IsDrawnOrEmpty r → IsLine (region_text r)
region_written r (inl none) = subst (λ (r : Region). IsLine (region_text r)) (sym none) (subst IsLine (sym empty_text) (written_by_test (codes " empty") refl))
region_written r (inr drawn) =
    let a = signed_decimal r.x0 in
    let b = signed_decimal r.y0 in
    let c = signed_decimal r.x1 in
    let d = signed_decimal r.y1 in
    let near = corners r drawn in
    subst IsLine (sym (drawn_text r drawn))
    (spaced (codes " active " ++ a ++ codes " " ++ b ++ codes " " ++ c) d
    (spaced (codes " active " ++ a ++ codes " " ++ b) c
    (spaced (codes " active " ++ a) b
    (behind_written (codes " active ") a (written_by_test (codes " active ") refl) (high_written a (near_high r.x0 near.0.0)))
    (high_written b (near_high r.y0 near.0.1))) (high_written c (near_high r.x1 near.1.0))) (high_written d (near_high r.y1 near.1.1)))

pub level_written : (level : ℕ) (r : Region) → level < 2 ^ 64 → IsDrawnOrEmpty r → IsLine (level_said level r)
unfolding level_said
level_written level r small drawn =
    behind_written (codes "# level " ++ decimal level) (region_text r)
    (behind_written (codes "# level ") (decimal level) (written_by_test (codes "# level ") refl) (high_written (decimal level) (decimal_high level small)))
    (region_written r drawn)

-- ---- a vertex
vertex_start : (text : List ℕ) → words (codes "v " ++ text) ≡ codes "v" ∷ words text
unfolding parts_at
vertex_start text = refl

vertex_column : (v : Vertex) → IsPrinted v → IsAtMost (2 ^ 24) v.x
vertex_column v h = let n = h.near in record { low = n.x_low; high = n.x_high }

vertex_row : (v : Vertex) → IsPrinted v → IsAtMost (2 ^ 24) v.z
vertex_row v h = let n = h.near in record { low = n.z_low; high = n.z_high }

pub vertex_read : NaturalsAreRead → WholesAreRead → (v : Vertex) → IsPrinted v → vertex_of (vertex_said v) ≡ Some v
unfolding vertex_of vertex_said vertex_words behind
vertex_read naturals wholes v h =
    let a = signed_decimal v.x in
    let b = height_text v.height in
    let c = signed_decimal v.z in
    let said : words (codes "v " ++ a ++ codes " " ++ b ++ codes " " ++ c) ≡ codes "v" ∷ a ∷ b ∷ c ∷ [] =
    vertex_start (a ++ codes " " ++ b ++ codes " " ++ c) ∙ ap (λ (more : List (List ℕ)). codes "v" ∷ more)
    (ap words (joined_three a b c) ∙ three_words a b c (near_high v.x (vertex_column v h)) (height_high v.height h.height) (near_high v.z (vertex_row v h))) in
    let rx : coordinate_of a ≡ Some v.x = coordinate_read wholes v.x (vertex_column v h) in
    let rh : height_of b ≡ Some v.height = height_read naturals v.height h.height in
    let rz : coordinate_of c ≡ Some v.z = coordinate_read wholes v.z (vertex_row v h) in
    rw said (rw (rx, rh, rz) refl)

pub vertex_written : (v : Vertex) → IsPrinted v → IsLine (vertex_said v)
unfolding vertex_said
vertex_written v h =
    let a = signed_decimal v.x in
    let b = height_text v.height in
    let c = signed_decimal v.z in
    spaced (codes "v " ++ a ++ codes " " ++ b) c
    (spaced (codes "v " ++ a) b
    (behind_written (codes "v ") a (written_by_test (codes "v ") refl) (high_written a (near_high v.x (vertex_column v h))))
    (high_written b (height_high v.height h.height))) (high_written c (near_high v.z (vertex_row v h)))

-- ---- a triangle
triangle_start : (text : List ℕ) → words (codes "f " ++ text) ≡ codes "f" ∷ words text
unfolding parts_at
triangle_start text = refl

next_test : (a b : ℕ) → nat_eq (a + 1) (b + 1) ≡ nat_eq a b
next_test a b = grind (arith, nat_tests)

next_apart : (a b c : ℕ) → IsTrue (are_apart a b c) → are_apart (a + 1) (b + 1) (c + 1) ≡ true
unfolding are_apart
next_apart a b c apart = rw (next_test a b, next_test b c, next_test c a) apart

place_read : NaturalsAreRead → (count a : ℕ) → count < 2 ^ 64 → a < count → natural_of 1 count (decimal (a + 1)) ≡ Some (a + 1)
place_read naturals count a few low = naturals 1 count (a + 1) (omega (arith, few, low)) (omega arith) (omega (arith, low))

before_next : (a : ℕ) → a + 1 - 1 ≡ a
before_next a = omega arith

faces_read : NaturalsAreRead → (count a b c : ℕ) → count < 2 ^ 64 → a < count → b < count → c < count → IsTrue (are_apart a b c) →
    triangle_of count (triangle_said (a ∷ b ∷ c ∷ [])) ≡ Some (a ∷ b ∷ c ∷ [])
unfolding triangle_of triangle_said triangle_words behind
faces_read naturals count a b c few la lb lc apart =
    let p = decimal (a + 1) in
    let q = decimal (b + 1) in
    let r = decimal (c + 1) in
    let said : words (codes "f " ++ p ++ codes " " ++ q ++ codes " " ++ r) ≡ codes "f" ∷ p ∷ q ∷ r ∷ [] =
    triangle_start (p ++ codes " " ++ q ++ codes " " ++ r) ∙ ap (λ (more : List (List ℕ)). codes "f" ∷ more)
    (ap words (joined_three p q r) ∙ three_words p q r (decimal_high (a + 1) (omega (arith, few, la))) (decimal_high (b + 1) (omega (arith, few, lb))) (decimal_high (c + 1) (omega (arith, few, lc)))) in
    let ra : natural_of 1 count p ≡ Some (a + 1) = place_read naturals count a few la in
    let rb : natural_of 1 count q ≡ Some (b + 1) = place_read naturals count b few lb in
    let rc : natural_of 1 count r ≡ Some (c + 1) = place_read naturals count c few lc in
    rw said (rw (ra, rb, rc) (rw (next_apart a b c apart) (λ t. Some (before_next a t ∷ before_next b t ∷ before_next c t ∷ []))))

pub triangle_read : NaturalsAreRead → (count : ℕ) (triangle : List ℕ) → count < 2 ^ 64 → IsFace count triangle → triangle_of count (triangle_said triangle) ≡ Some triangle
triangle_read naturals count [] few face = let three : length {A = ℕ} [] ≡ 3 = face.three in absurd (omega arith)
triangle_read naturals count (a ∷ []) few face = let three : length (a ∷ []) ≡ 3 = face.three in absurd (omega arith)
triangle_read naturals count (a ∷ b ∷ []) few face = let three : length (a ∷ b ∷ []) ≡ 3 = face.three in absurd (omega arith)
triangle_read naturals count (a ∷ b ∷ c ∷ []) few face =
    faces_read naturals count a b c few (face.below 0 0 (omega arith)) (face.below 1 0 (omega arith)) (face.below 2 0 (omega arith)) face.apart
triangle_read naturals count (a ∷ b ∷ c ∷ d ∷ more) few face = let three : length (a ∷ b ∷ c ∷ d ∷ more) ≡ 3 = face.three in absurd (omega arith)

place_below : (count : ℕ) (triangle : List ℕ) (n : ℕ) → n < 3 → IsFace count triangle → slice_index triangle n < count
place_below count triangle n low face = face.below n 0 (omega (arith, low, face.three))

pub triangle_written : (count : ℕ) (triangle : List ℕ) → count < 2 ^ 64 → IsFace count triangle → IsLine (triangle_said triangle)
unfolding triangle_said
triangle_written count triangle few face =
    let a = slice_index triangle 0 in
    let b = slice_index triangle 1 in
    let c = slice_index triangle 2 in
    let la : a < count = place_below count triangle 0 (omega arith) face in
    let lb : b < count = place_below count triangle 1 (omega arith) face in
    let lc : c < count = place_below count triangle 2 (omega arith) face in
    spaced (codes "f " ++ decimal (a + 1) ++ codes " " ++ decimal (b + 1)) (decimal (c + 1))
    (spaced (codes "f " ++ decimal (a + 1)) (decimal (b + 1))
    (behind_written (codes "f ") (decimal (a + 1)) (written_by_test (codes "f ") refl) (high_written (decimal (a + 1)) (decimal_high (a + 1) (omega (arith, few, la)))))
    (high_written (decimal (b + 1)) (decimal_high (b + 1) (omega (arith, few, lb)))))
    (high_written (decimal (c + 1)) (decimal_high (c + 1) (omega (arith, few, lc))))

-- ---- lines of one kind aren't lines of another
pub triangle_no_vertex : (triangle : List ℕ) → vertex_of (triangle_said triangle) ≡ None
unfolding vertex_of triangle_said behind parts_at
triangle_no_vertex triangle = refl

pub vertex_no_level : (level : ℕ) (v : Vertex) → level_of level (vertex_said v) ≡ None
unfolding level_of vertex_said behind parts_at
vertex_no_level level v = refl

pub triangle_no_level : (level : ℕ) (triangle : List ℕ) → level_of level (triangle_said triangle) ≡ None
unfolding level_of triangle_said behind parts_at
triangle_no_level level triangle = refl

pub vertex_no_kept : (v : Vertex) → kept_of (vertex_said v) ≡ None
unfolding kept_of vertex_said behind parts_at
vertex_no_kept v = refl

pub triangle_no_kept : (triangle : List ℕ) → kept_of (triangle_said triangle) ≡ None
unfolding kept_of triangle_said behind parts_at
triangle_no_kept triangle = refl

pub nothing_no_level : (level : ℕ) → level_of level [] ≡ None
unfolding level_of behind parts_at
nothing_no_level level = refl

pub nothing_no_kept : kept_of [] ≡ None
unfolding kept_of behind parts_at
nothing_no_kept = refl
