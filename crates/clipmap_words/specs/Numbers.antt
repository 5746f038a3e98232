-- A viewer's coordinate in words.
use Rattle.std.specs.Prelude.{ℕ, ℤ, Option, List, pos, negsuc}
use Rattle.number_words.specs.Numbers.{whole_of}

-- a coordinate of the viewer, in samples
abbrev pub coordinate_of : List ℕ → Option ℤ
coordinate_of = whole_of (negsuc 4194303) (pos 4194304)
