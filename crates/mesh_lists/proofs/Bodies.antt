-- The end of a text.
use Rattle.std.proofs.Common.{◌≡◌, ◌⊎◌, inl, inr, ℕ, ◌+◌, ◌<◌, Bool, true, false, cond, nat_eq, nat_lt, List, length, drop, Result, Ok, Err, refl, sym, ap, ◌∙◌, subst, arith}
use Rattle.std.proofs.lemmas.Bool.Decides.{nat_tests}
use Rattle.clip_regions.specs.declared.region.Region.{Region}
use Rattle.mesh_model.specs.declared.shapes.Vertex.{Vertex}
use Rattle.mesh_lists.specs.Lines.{LeavesBehind, cut_line, leading, whole_lines}
use Rattle.mesh_lists.specs.Says.{vertex_of, triangle_of}
use Rattle.mesh_lists.specs.declared.lists.ListsFault.{ListsFault}
use Rattle.mesh_lists.specs.declared.lists.ListsFault.TheVariants.{BadLine, NoMemory}
use Rattle.mesh_lists.specs.Lists.{Lists, IsStop, body_lists, bad_at, ended, lists_of_text, lists_of_lines}

-- what the lines behind a head say: vertices, triangles, and how many lines are left
pub record Says (lines left : List (List ℕ)) (vertices : List Vertex) (triangles : List (List ℕ)) : Type 0 where
  pub vertices_are : vertices ≡ leading vertex_of lines
  pub triangles_are : triangles ≡ leading (triangle_of (length vertices)) (drop (length vertices) lines)
  pub counted : length lines ≡ length vertices + length triangles + length left

-- the lists behind a head, by vertices and triangles
abbrev body_by : ℕ → Region → List (List ℕ) → List Vertex → List (List ℕ) → Result Lists ℕ
body_by head border lines vertices triangles =
    let said = length vertices + length triangles in
    cond (nat_lt said (length lines)) (Err (head + said + 1)) (Ok (record { vertices = vertices; triangles = triangles; border = border }))

body_is : (head : ℕ) (border : Region) (lines left : List (List ℕ)) (vertices : List Vertex) (triangles : List (List ℕ)) → Says lines left vertices triangles →
    body_lists head border lines ≡ body_by head border lines vertices triangles
unfolding body_lists
body_is head border lines left vertices triangles said =
    let P : List Vertex → Type 0 = λ vertices. body_lists head border lines ≡ body_by head border lines vertices (leading (triangle_of (length vertices)) (drop (length vertices) lines)) in
    subst P (sym said.vertices_are) refl ∙ ap (body_by head border lines vertices) (sym said.triangles_are)

-- a bad line stays one, whatever the end
either_bad : (test : Bool) (number line : ℕ) (lists : Result Lists ℕ) → lists ≡ Err line → cond test lists (bad_at number lists) ≡ Err line
either_bad true number line lists is = is
either_bad false number line lists is = ap (bad_at number) is

-- something is left of the text
pub bad_end : (head : ℕ) (border : Region) (lines left : List (List ℕ)) (rest : List ℕ) (vertices : List Vertex) (triangles : List (List ℕ)) → Says lines left vertices triangles →
    (0 < length left) ⊎ ((length left ≡ 0) × (0 < length rest)) →
    ended head lines rest (body_lists head border lines) ≡ Err (head + (length vertices + length triangles) + 1)
unfolding ended
bad_end head border lines left rest vertices triangles said (inl more) =
    let test : nat_lt (length vertices + length triangles) (length lines) ≡ true = grind (arith, nat_tests, said.counted) in
    let bad : body_lists head border lines ≡ Err (head + (length vertices + length triangles) + 1) = body_is head border lines left vertices triangles said ∙ rw test refl in
    either_bad (nat_eq (length rest) 0) (head + length lines + 1) (head + (length vertices + length triangles) + 1) (body_lists head border lines) bad
bad_end head border lines left rest vertices triangles said (inr cut) =
    let test : nat_lt (length vertices + length triangles) (length lines) ≡ false = let none = cut.0 in grind (arith, nat_tests, said.counted) in
    let good : body_lists head border lines ≡ Ok (record { vertices = vertices; triangles = triangles; border = border }) =
    body_is head border lines left vertices triangles said ∙ rw test refl in
    let some : nat_eq (length rest) 0 ≡ false = let some = cut.1 in grind (arith, nat_tests) in
    let number : head + length lines + 1 ≡ head + (length vertices + length triangles) + 1 = omega (arith, said.counted) in
    let last : ◌≡◌ {A = Result Lists ℕ} (Err (head + length lines + 1)) (Err (head + (length vertices + length triangles) + 1)) = ap Err number in
    rw some (ap (bad_at (head + length lines + 1)) good ∙ last)

-- nothing is left
pub good_end : (head : ℕ) (border : Region) (lines left : List (List ℕ)) (rest : List ℕ) (vertices : List Vertex) (triangles : List (List ℕ)) → Says lines left vertices triangles →
    length left ≡ 0 → length rest ≡ 0 →
    ended head lines rest (body_lists head border lines) ≡ Ok (record { vertices = vertices; triangles = triangles; border = border })
unfolding ended
good_end head border lines left rest vertices triangles said none empty =
    let test : nat_lt (length vertices + length triangles) (length lines) ≡ false = grind (arith, nat_tests, said.counted) in
    let some : nat_eq (length rest) 0 ≡ true = grind (arith, nat_tests) in
    rw some (body_is head border lines left vertices triangles said ∙ rw test refl)

-- the lists of a text by those behind its head
pub ended_behind : (head : ℕ) (border : Region) (lines all : List (List ℕ)) (rest : List ℕ) → lists_of_lines all ≡ body_lists head border lines → length all ≡ head + length lines →
    ended 0 all rest (lists_of_lines all) ≡ ended head lines rest (body_lists head border lines)
unfolding ended
ended_behind head border lines all rest is counted =
    let number : 0 + length all + 1 ≡ head + length lines + 1 = omega arith in
    rw (is, number) refl

pub ended_bad : (before : ℕ) (lines : List (List ℕ)) (rest : List ℕ) (lists : Result Lists ℕ) (line : ℕ) → lists ≡ Err line → ended before lines rest lists ≡ Err line
unfolding ended
ended_bad before lines rest lists line is = either_bad (nat_eq (length rest) 0) (before + length lines + 1) line lists is

-- what stops the lines stops the text
pub stop_ended : (text : List ℕ) (fault : ListsFault) → IsStop (lists_of_lines (whole_lines text)) fault → IsStop (lists_of_text text) fault
unfolding lists_of_text
stop_ended text (BadLine line) stop = ended_bad 0 (whole_lines text) (cut_line text) (lists_of_lines (whole_lines text)) line stop
stop_ended text NoMemory stop = tt

-- the lists of a text by the text behind its head
pub text_behind : (text rest : List ℕ) (head : ℕ) (border : Region) → lists_of_lines (whole_lines text) ≡ body_lists head border (whole_lines rest) → LeavesBehind head text rest →
    lists_of_text text ≡ ended head (whole_lines rest) (cut_line rest) (body_lists head border (whole_lines rest))
unfolding lists_of_text
text_behind text rest head border is left =
    ended_behind head border (whole_lines rest) (whole_lines text) (cut_line text) is left.counted
    ∙ ap (λ (end : List ℕ). ended head (whole_lines rest) end (body_lists head border (whole_lines rest))) left.end
