-- The Rice code of a residual.
use Rattle.std.specs.Prelude.{ℕ, ◌*◌, ◌+◌, ◌/◌, ◌^◌, ℤ, pos, negsuc, neg_ℤ, ◌≤ℤ◌, ◌<ℤ◌, Bool, true, false, List, ◌∷◌, ◌++◌, replicate, if◌then◌else◌, nat_lt}
use Rattle.std.specs.List.{flat_map}
use Rattle.rice_residuals.specs.Bits.{low_bits}

-- from -2^17 to 2^17 - 1
abbrev pub IsResidual : ℤ → Type 0
IsResidual x = (neg_ℤ (pos 131072) ≤ℤ x) × (x <ℤ pos 131072)

-- twice x where it is not negative, else twice its size less one: 0, -1, 1, -2, 2 are 0, 1, 2, 3, 4
abbrev pub folded : ℤ → ℕ
folded (pos n) = 2 * n
folded (negsuc n) = 2 * n + 1

-- how many ones the long form begins with, and how many bits its number has behind them; all folded residuals are
-- below the limit
abbrev pub long_ones : ℕ
long_ones = 32

abbrev pub number_bits : ℕ
number_bits = 18

abbrev pub long_length : ℕ
long_length = 50

abbrev pub folded_limit : ℕ
folded_limit = 262144

-- the code of a folded residual u: as many ones as 2^r goes into u, a zero and the low r bits of u, where those are
-- fewer than 32 ones; else 32 ones and u in 18 bits
unfoldable pub code : ℕ → ℕ → List Bool
code r u =
    if nat_lt (u / 2 ^ r) long_ones then replicate (u / 2 ^ r) true ++ false ∷ low_bits r u
    else replicate long_ones true ++ low_bits number_bits u

-- the code of a residual
abbrev pub residual_code : ℕ → ℤ → List Bool
residual_code r x = code r (folded x)

-- the codes of residuals, one behind another
unfoldable pub codes : ℕ → List ℤ → List Bool
codes r residuals = flat_map (residual_code r) residuals
