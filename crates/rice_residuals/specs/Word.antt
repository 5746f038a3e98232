-- Words of blocks: a parameter of four bits, the codes of the residuals, and zeros up to the end of a byte.
use Rattle.std.specs.Prelude.{◌≡◌, ℕ, ◌<◌, ℤ, Bool, false, List, ◌++◌, length, replicate, nat_le}
use Rattle.std.specs.Option.{unwrap_or}
use Rattle.std.specs.List.{All, find, list_all, range_with_len}
use Rattle.rice_residuals.specs.Bits.{low_bits, bits_of_bytes, packed}
use Rattle.rice_residuals.specs.Code.{IsResidual, codes}

-- the parameter and the codes, before the zeros that fill the last byte
unfoldable pub word_bits : ℕ → List ℤ → List Bool
word_bits r residuals = low_bits 4 r ++ codes r residuals

-- the bits are those of a parameter and of codes of residuals, and then the rest
pub record OpensWith (r : ℕ) (residuals : List ℤ) (bits rest : List Bool) : Type 0 where
  pub parameter : r < 16
  pub in_range : All IsResidual residuals
  pub spelled : bits ≡ word_bits r residuals ++ rest

-- a word of the residuals by the parameter r: fewer than eight zeros are the rest
abbrev pub IsBlockWord : ℕ → List ℤ → List ℕ → Type 0
IsBlockWord r residuals bytes =
    (padding : ℕ) × (padding < 8) × OpensWith r residuals (bits_of_bytes bytes) (replicate padding false)

-- a word of the residuals by some parameter
abbrev pub IsWordOf : List ℤ → List ℕ → Type 0
IsWordOf residuals bytes = (r : ℕ) × IsBlockWord r residuals bytes

-- the parameters from 0 to 15
abbrev pub parameters : List ℕ
parameters = range_with_len 0 16

-- the first parameter whose word has no more bits than that of any other
unfoldable pub best_parameter : List ℤ → ℕ
best_parameter residuals =
    unwrap_or
    (find
    (λ r. list_all (λ s. nat_le (length (word_bits r residuals)) (length (word_bits s residuals))) parameters)
    parameters)
    0

-- the word by the parameter of fewest bits, the least such parameter
unfoldable pub canonical_word : List ℤ → List ℕ
canonical_word residuals = packed (word_bits (best_parameter residuals) residuals)
