-- The name of an HGT tile, as N45E006.hgt, which says where its south-west corner is.
use Rattle.std.specs.Prelude.{ℕ, ◌+◌, ◌-◌, ◌*◌, Bool, ◌&&◌, ◌||◌, ◌==◌, List, length, ℤ, pos, neg_ℤ, Option, Some, None, nat_lt, nat_le, if◌then◌else◌, slice_index}
use Rattle.std.specs.List.{after_last}
use Rattle.std.specs.Char.{is_ascii_digit}
use Rattle.terrain_model.specs.declared.Corner.{Corner}

-- is c this letter, given in lower case, in either case?
unfoldable pub is_either_case : ℕ → ℕ → Bool
is_either_case lower c = (c == lower) || (c == lower - 32)

-- degrees on one of two sides of zero: below the limit on the first, up to it and negative on the second
unfoldable pub degrees : Bool → Bool → ℕ → ℕ → Option ℤ
degrees is_first is_second limit n =
    if is_first && nat_lt n limit then Some (pos n)
    else (if is_second && nat_le n limit then Some (neg_ℤ (pos n)) else None)

-- the latitude that three characters name: N or S and two digits, -90 to 89 degrees
unfoldable pub latitude : ℕ → ℕ → ℕ → Option ℤ
latitude side tens ones =
    if is_ascii_digit tens && is_ascii_digit ones
    then degrees (is_either_case 110 side) (is_either_case 115 side) 90 (10 * (tens - 48) + (ones - 48))
    else None

-- the longitude that four characters name: E or W and three digits, -180 to 179 degrees
unfoldable pub longitude : ℕ → ℕ → ℕ → ℕ → Option ℤ
longitude side hundreds tens ones =
    if is_ascii_digit hundreds && is_ascii_digit tens && is_ascii_digit ones
    then degrees (is_either_case 101 side) (is_either_case 119 side) 180
    (100 * (hundreds - 48) + 10 * (tens - 48) + (ones - 48))
    else None

-- are these four characters `.hgt`, each letter in either case?
unfoldable pub is_extension : ℕ → ℕ → ℕ → ℕ → Bool
is_extension dot h g t = (dot == 46) && is_either_case 104 h && is_either_case 103 g && is_either_case 116 t

-- the corner at a latitude and a longitude, where both are there
abbrev pub corner_at : Option ℤ → Option ℤ → Option Corner
corner_at (Some latitude) (Some longitude) = Some (record { lat = latitude; lon = longitude })
corner_at (Some latitude) None = None
corner_at None longitude = None

-- the corner that a name of exactly eleven characters gives
unfoldable pub corner_of_name : List ℕ → Option Corner
corner_of_name name =
    if (length name == 11)
    && is_extension (slice_index name 7) (slice_index name 8) (slice_index name 9) (slice_index name 10)
    then corner_at
    (latitude (slice_index name 0) (slice_index name 1) (slice_index name 2))
    (longitude (slice_index name 3) (slice_index name 4) (slice_index name 5) (slice_index name 6))
    else None

-- the name in a word: what stands after its last `/`, or the whole word where there is none
unfoldable pub name_of_word : List ℕ → List ℕ
name_of_word word = after_last (λ c. c == 47) word

-- the corner that a word names, if it names a tile
unfoldable pub corner_of_word : List ℕ → Option Corner
corner_of_word word = corner_of_name (name_of_word word)
