-- What each line of a frame's text says, and nothing where it isn't spelled so.
use Rattle.std.specs.Prelude.{ℕ, ◌+◌, ◌-◌, ◌*◌, ◌/◌, ◌%◌, ◌^◌, Bool, not, ◌&&◌, ◌||◌, ◌==◌, if◌then◌else◌, nat_lt, nat_le, ℤ, pos, neg_ℤ, ◌+ℤ◌, int_le, unsigned_abs, List, [], ◌∷◌, Option, Some, None, option_and_then, codes}
use Rattle.std.specs.Option.{option_map}
use Rattle.std.specs.Str.{bytes_eq}
use Rattle.clip_regions.specs.declared.region.Region.{Region}
use Rattle.clip_regions.specs.Regions.{empty_region}
use Rattle.mesh_model.specs.declared.shapes.Vertex.{Vertex}
use Rattle.number_words.specs.Numbers.{natural_of, whole_of}
use Rattle.mesh_lists.specs.Lines.{parts_at, words}

-- the words behind a word that has to come first
unfoldable pub behind : List ℕ → List (List ℕ) → Option (List (List ℕ))
behind word [] = None
behind word (first ∷ more) = if bytes_eq first word then Some more else None

-- nothing, where the test fails
abbrev pub where_true : {A : Type 0} → Bool → A → Option A
where_true test value = if test then Some value else None

-- the one word, as a number in a range
unfoldable pub one_number : ℕ → ℕ → List (List ℕ) → Option ℕ
one_number low high (word ∷ []) = natural_of low high word
one_number low high _ = None

-- a number of 64 bits
abbrev pub count_of : List ℕ → Option ℕ
count_of = natural_of 0 (2 ^ 64 - 1)

-- `# clipmap frame N`
unfoldable pub frame_of : List ℕ → Option ℕ
frame_of line =
    option_and_then (λ more. option_and_then (λ more. option_and_then (one_number 0 (2 ^ 64 - 1))
    (behind (codes "frame") more)) (behind (codes "clipmap") more)) (behind (codes "#") (words line))

-- a coordinate
abbrev pub coordinate_of : List ℕ → Option ℤ
coordinate_of = whole_of (neg_ℤ (pos (2 ^ 24))) (pos (2 ^ 24))

-- the two words, as coordinates
unfoldable pub two_coordinates : List (List ℕ) → Option (ℤ × ℤ)
two_coordinates (a ∷ b ∷ []) =
    option_and_then (λ x. option_and_then (λ y. Some (x, y)) (coordinate_of b)) (coordinate_of a)
two_coordinates _ = None

-- `# viewer X Y`
unfoldable pub viewer_of : List ℕ → Option (ℤ × ℤ)
viewer_of line =
    option_and_then (λ more. option_and_then two_coordinates
    (behind (codes "viewer") more)) (behind (codes "#") (words line))

-- a corner of a region: an even coordinate
unfoldable pub corner_of : List ℕ → Option ℤ
corner_of word = option_and_then (λ n. where_true (unsigned_abs n % 2 == 0) n) (coordinate_of word)

-- each side of the region is 2 or more
unfoldable pub has_sides : Region → Bool
has_sides r = int_le (r.x0 +ℤ pos 2) r.x1 && int_le (r.y0 +ℤ pos 2) r.y1

-- `x0 y0 x1 y1`
unfoldable pub corners_of : List (List ℕ) → Option Region
corners_of (a ∷ b ∷ c ∷ d ∷ []) =
    option_and_then (λ x0. option_and_then (λ y0. option_and_then (λ x1. option_and_then (λ y1.
    let r : Region = record { x0 = x0; y0 = y0; x1 = x1; y1 = y1 } in where_true (has_sides r) r)
    (corner_of d)) (corner_of c)) (corner_of b)) (corner_of a)
corners_of _ = None

-- `active x0 y0 x1 y1` or `empty`
unfoldable pub active_words : List (List ℕ) → Option Region
active_words [] = None
active_words (word ∷ []) = where_true (bytes_eq word (codes "empty")) empty_region
active_words (word ∷ next ∷ more) = if bytes_eq word (codes "active") then corners_of (next ∷ more) else None

-- the active region of the level whose number comes first
unfoldable pub level_words : ℕ → List (List ℕ) → Option Region
level_words level [] = None
level_words level (number ∷ more) = option_and_then (λ _. active_words more) (natural_of level level number)

-- `# level l active x0 y0 x1 y1` or `# level l empty`, for this level
unfoldable pub level_of : ℕ → List ℕ → Option Region
level_of level line =
    option_and_then (λ more. option_and_then (level_words level) (behind (codes "level") more))
    (behind (codes "#") (words line))

-- `P of Q`
unfoldable pub two_counts : List (List ℕ) → Option (ℕ × ℕ)
two_counts (a ∷ more) =
    option_and_then (λ more. option_and_then (λ p. option_and_then (λ q. Some (p, q))
    (one_number 0 (2 ^ 64 - 1) more)) (count_of a)) (behind (codes "of") more)
two_counts _ = None

-- `# kept P of Q`
unfoldable pub kept_of : List ℕ → Option (ℕ × ℕ)
kept_of line =
    option_and_then (λ more. option_and_then two_counts (behind (codes "kept") more)) (behind (codes "#") (words line))

-- five digits, as the number that they make: behind a 1 they spell a number from 100,000 to 199,999
unfoldable pub five_of : List ℕ → Option ℕ
five_of (a ∷ b ∷ c ∷ d ∷ e ∷ []) = option_map (λ n. n - 100000) (natural_of 100000 199999 (49 ∷ a ∷ b ∷ c ∷ d ∷ e ∷ []))
five_of _ = None

-- a size in thirty-seconds of a metre, by its whole metres and five digits after the point
unfoldable pub size_of : List (List ℕ) → Option ℕ
size_of (metres ∷ digits ∷ []) =
    option_and_then (λ metres. option_and_then (λ n.
    let size = 32 * metres + n / 3125 in where_true (n % 3125 == 0 && nat_le size (2 ^ 20)) size)
    (five_of digits)) (natural_of 0 32768 metres)
size_of _ = None

-- the size behind a `-`, which isn't 0
abbrev pub below_zero : ℕ → Option ℤ
below_zero size = where_true (nat_lt 0 size) (neg_ℤ (pos size))

-- a height in thirty-seconds of a metre, as metres with five digits after the point
unfoldable pub height_of : List ℕ → Option ℤ
height_of [] = None
height_of (b ∷ more) =
    if b == 45 then option_and_then below_zero (size_of (parts_at 46 more))
    else option_map pos (size_of (parts_at 46 (b ∷ more)))

-- `x h y`
unfoldable pub vertex_words : List (List ℕ) → Option Vertex
vertex_words (a ∷ b ∷ c ∷ []) =
    option_and_then (λ x. option_and_then (λ height. option_and_then (λ z.
    Some (record { x = x; z = z; height = height }))
    (coordinate_of c)) (height_of b)) (coordinate_of a)
vertex_words _ = None

-- `v x h y`
unfoldable pub vertex_of : List ℕ → Option Vertex
vertex_of line = option_and_then vertex_words (behind (codes "v") (words line))

-- no two of the places are equal
unfoldable pub are_apart : ℕ → ℕ → ℕ → Bool
are_apart a b c = not ((a == b || b == c) || c == a)

-- `a b c`: three vertices of so many, counted from 1, no two of them equal; as places counted from 0
unfoldable pub triangle_words : ℕ → List (List ℕ) → Option (List ℕ)
triangle_words count (a ∷ b ∷ c ∷ []) =
    option_and_then (λ a. option_and_then (λ b. option_and_then (λ c.
    where_true (are_apart a b c) ((a - 1) ∷ (b - 1) ∷ (c - 1) ∷ []))
    (natural_of 1 count c)) (natural_of 1 count b)) (natural_of 1 count a)
triangle_words count _ = None

-- `f a b c`
unfoldable pub triangle_of : ℕ → List ℕ → Option (List ℕ)
triangle_of count line = option_and_then (triangle_words count) (behind (codes "f") (words line))
