-- The verdict on the lists of a text, and on the text.
use Rattle.std.specs.Prelude.{◌≡◌, ◌⊎◌, ℕ, ◌+◌, ◌-◌, Bool, not, ◌&&◌, ◌||◌, if◌then◌else◌, nat_lt, ◌-ℤ◌, ◌*ℤ◌, List, [], ◌∷◌, length, map, filter, flat_map, slice_index, Option, Some, None, Result, Ok, Err}
use Rattle.std.specs.List.{range_with_len, position_or_len}
use Rattle.std.specs.Ordering.{int_eq}
use Rattle.mesh_model.specs.declared.shapes.Vertex.{Vertex}
use Rattle.mesh_model.specs.Vertices.{vertex_of_place}
use Rattle.mesh_model.specs.Watertight.{is_middle, edge_count, is_closed}
use Rattle.mesh_lists.specs.Lists.{Lists, lists_of_text}
use Rattle.mesh_check.specs.declared.verdict.Verdict.{Verdict}
use Rattle.mesh_check.specs.declared.verdict.Verdict.TheVariants.{Watertight, Crack, Tilted, Bad, NoMemory}

-- the pairs of places below a count, the lesser place first: by the first place, and then by the second
abbrev pub pairs_from : ℕ → ℕ → List (ℕ × ℕ)
pairs_from count a = map (λ b. (a, b)) (range_with_len (a + 1) (count - (a + 1)))

unfoldable pub pairs : ℕ → List (ℕ × ℕ)
pairs count = flat_map (pairs_from count) (range_with_len 0 count)

-- the edge between the vertices of a pair isn't closed
abbrev pub is_open : Lists → ℕ × ℕ → Bool
is_open lists pair = not (is_closed lists.border lists.vertices lists.triangles pair.0 pair.1)

-- the first of a list
abbrev pub first_of : {A : Type 0} → List A → Option A
first_of [] = None
first_of (a ∷ more) = Some a

-- the first pair whose edge isn't closed
unfoldable pub first_open : Lists → Option (ℕ × ℕ)
first_open lists = first_of (filter (is_open lists) (pairs (length lists.vertices)))

-- the positions of the three vertices lie on one straight line
unfoldable pub on_one_line : Vertex → Vertex → Vertex → Bool
on_one_line a b c = int_eq ((b.x -ℤ a.x) *ℤ (c.z -ℤ a.z)) ((b.z -ℤ a.z) *ℤ (c.x -ℤ a.x))

-- they do, and no vertex stands in the middle between the two others
unfoldable pub is_tilted : Vertex → Vertex → Vertex → Bool
is_tilted a b c = on_one_line a b c && not ((is_middle a b c || is_middle b c a) || is_middle c a b)

-- the same of a triangle by the places of its vertices
unfoldable pub is_tilted_face : List Vertex → List ℕ → Bool
is_tilted_face vertices triangle =
    let at = λ (n : ℕ). vertex_of_place vertices (slice_index triangle n) in is_tilted (at 0) (at 1) (at 2)

-- the verdict where each edge is closed
unfoldable pub closed_verdict : Lists → Verdict
closed_verdict lists =
    let face = position_or_len (is_tilted_face lists.vertices) lists.triangles in
    if nat_lt face (length lists.triangles) then Tilted (face + 1) else Watertight (length lists.triangles)

-- the verdict by the first pair whose edge isn't closed
unfoldable pub open_verdict : Lists → Option (ℕ × ℕ) → Verdict
open_verdict lists None = closed_verdict lists
open_verdict lists (Some pair) =
    Crack (pair.0 + 1) (pair.1 + 1)
    (edge_count lists.triangles pair.0 pair.1 + edge_count lists.triangles pair.1 pair.0)

-- the verdict of lists
unfoldable pub verdict_of_lists : Lists → Verdict
verdict_of_lists lists = open_verdict lists (first_open lists)

-- the verdict by what a text's reading gives
abbrev pub verdict_of : Result Lists ℕ → Verdict
verdict_of (Ok lists) = verdict_of_lists lists
verdict_of (Err line) = Bad line

-- the verdict of a text
unfoldable pub verdict : List ℕ → Verdict
verdict text = verdict_of (lists_of_text text)

-- an answer is the verdict, or tells that there was no memory
abbrev pub IsAnswer : Verdict → Verdict → Type 0
IsAnswer answer verdict = (answer ≡ NoMemory) ⊎ (answer ≡ verdict)
