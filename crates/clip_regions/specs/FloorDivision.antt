-- Division that rounds down, by a positive divisor, and its remainder, which is never negative.
use Rattle.std.specs.Prelude.{ℕ, ◌-◌, ◌/◌, ◌%◌, ℤ, pos, negsuc}

-- the quotient of a number by d, rounded down
unfoldable pub floor_div : ℤ → ℕ → ℤ
floor_div (pos n) d = pos (n / d)
floor_div (negsuc n) d = negsuc (n / d)

-- how far a number is above d times that quotient: 0 to d - 1
unfoldable pub floor_rem : ℤ → ℕ → ℕ
floor_rem (pos n) d = n % d
floor_rem (negsuc n) d = d - 1 - n % d
