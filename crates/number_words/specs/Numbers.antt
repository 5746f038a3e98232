-- How numbers are spelled in words: as they are printed, so without a plus sign, a leading zero or `-0`.
use Rattle.std.specs.Prelude.{ℕ, ℤ, Option, Some, None, List, ◌&&◌, if◌then◌else◌, nat_le, int_le, decimal}
use Rattle.std.specs.Fmt.{signed_decimal}
use Rattle.std.specs.Str.{bytes_eq}
use Rattle.std.specs.Str.Parse.{digits_value, signed_digits_value}

-- the number that the word's digits make, where it is from low to high and the word is its decimal text
abbrev pub natural_of : ℕ → ℕ → List ℕ → Option ℕ
natural_of low high word =
    let n = digits_value 10 word in
    if nat_le low n && nat_le n high && bytes_eq (decimal n) word then Some n else None

-- the same of a number with a sign
abbrev pub whole_of : ℤ → ℤ → List ℕ → Option ℤ
whole_of low high word =
    let n = signed_digits_value 10 word in
    if int_le low n && int_le n high && bytes_eq (signed_decimal n) word then Some n else None
