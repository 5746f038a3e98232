-- Why bytes are no word of a count of residuals: the first fault in the order in which the bits stand.
use Rattle.std.specs.Prelude.{◌≡◌, ◌≢◌, ◌⊎◌, ℕ, ◌+◌, ◌-◌, ◌*◌, ◌/◌, ◌^◌, ◌<◌, ◌≤◌, ℤ, Bool, true, false, List, [], ◌∷◌, ◌++◌, length, replicate, if◌then◌else◌, nat_lt}
use Rattle.rice_residuals.specs.Bits.{low_bits, bits_of_bytes}
use Rattle.std.specs.List.{All}
use Rattle.rice_residuals.specs.Code.{IsResidual, long_ones, number_bits, folded_limit, codes}
use Rattle.rice_residuals.specs.Word.{OpensWith, word_bits}
use Rattle.rice_residuals.specs.declared.fault.BlockFault.{BlockFault}
use Rattle.rice_residuals.specs.declared.fault.BlockFault.TheVariants.{CutShort, LongForm, TooWide, BadPadding, Excess}

-- ones, a zero where they are fewer than 32, and further bits
unfoldable pub form : ℕ → List Bool → List Bool
form ones low = replicate ones true ++ (if nat_lt ones long_ones then false ∷ low else low)

-- how many bits stand in a code behind so many ones and their zero
unfoldable pub low_length : ℕ → ℕ → ℕ
low_length r ones = if nat_lt ones long_ones then r else number_bits

-- the bits end inside a code: some more, at least one, would make a whole one
pub record IsCut (r : ℕ) (rest : List Bool) : Type 0 where
  pub ones : ℕ
  pub few : ones ≤ long_ones
  pub low : List Bool
  pub whole : length low ≡ low_length r ones
  pub missing : List Bool
  pub some : missing ≢ []
  pub spelled : rest ++ missing ≡ form ones low

-- the bits begin with the long form of a number that has the short one
pub record IsLongForm (r : ℕ) (rest : List Bool) : Type 0 where
  pub folded : ℕ
  pub fits : folded < folded_limit
  pub small : folded / 2 ^ r < long_ones
  pub after : List Bool
  pub spelled : rest ≡ replicate long_ones true ++ (low_bits number_bits folded ++ after)

-- the bits begin with the short form of a number that no residual has
pub record IsTooWide (r : ℕ) (rest : List Bool) : Type 0 where
  pub ones : ℕ
  pub few : ones < long_ones
  pub low : ℕ
  pub below : low < 2 ^ r
  pub wide : folded_limit ≤ ones * 2 ^ r + low
  pub after : List Bool
  pub spelled : rest ≡ replicate ones true ++ false ∷ (low_bits r low ++ after)

-- behind the last code, which ends at the place, the bit at the place bad is the first one, in the byte of the code's
-- last bit
pub record IsBadPadding (bad place : ℕ) (rest : List Bool) : Type 0 where
  pub zeros : ℕ
  pub first : bad ≡ place + zeros
  pub begun : bad / 8 ≡ (place - 1) / 8
  pub after : List Bool
  pub spelled : rest ≡ replicate zeros false ++ true ∷ after

-- behind the last code and fewer than eight zeros so many whole bytes are left
pub record IsExcess (bytes : ℕ) (rest : List Bool) : Type 0 where
  pub some : 0 < bytes
  pub zeros : ℕ
  pub few : zeros < 8
  pub after : List Bool
  pub whole : length after ≡ 8 * bytes
  pub spelled : rest ≡ replicate zeros false ++ after

-- the fault of the code that is to begin at the place, where the rest stands
abbrev pub HasCodeFault : ℕ → ℕ → List Bool → BlockFault → Type 0
HasCodeFault r place rest (CutShort bit) = (bit ≡ place + length rest) × IsCut r rest
HasCodeFault r place rest (LongForm bit) = (bit ≡ place) × IsLongForm r rest
HasCodeFault r place rest (TooWide bit) = (bit ≡ place) × IsTooWide r rest
HasCodeFault r place rest (BadPadding bit) = ⊥
HasCodeFault r place rest (Excess bytes) = ⊥

-- fewer than count codes stand at the head of the bits, which begin at the place, and then comes the fault
pub record HasCodesFault (r count place : ℕ) (bits : List Bool) (fault : BlockFault) : Type 0 where
  pub residuals : List ℤ
  pub rest : List Bool
  pub fewer : length residuals < count
  pub in_range : All IsResidual residuals
  pub spelled : bits ≡ codes r residuals ++ rest
  pub follows : HasCodeFault r (place + length (codes r residuals)) rest fault

-- the fault behind the last code, which ends at the place
abbrev pub HasEndFault : ℕ → List Bool → BlockFault → Type 0
HasEndFault place rest (CutShort bit) = ⊥
HasEndFault place rest (LongForm bit) = ⊥
HasEndFault place rest (TooWide bit) = ⊥
HasEndFault place rest (BadPadding bit) = IsBadPadding bit place rest
HasEndFault place rest (Excess bytes) = IsExcess bytes rest

-- fewer than eight zeros
abbrev pub IsPadding : List Bool → Type 0
IsPadding rest = (padding : ℕ) × (padding < 8) × (rest ≡ replicate padding false)

-- fewer than count codes stand before the place, and what follows is so
pub record InCode (count : ℕ) (bits : List Bool) (P : ℕ → ℕ → List Bool → Type 0) : Type 0 where
  pub r : ℕ
  pub residuals : List ℤ
  pub rest : List Bool
  pub fewer : length residuals < count
  pub opens : OpensWith r residuals bits rest
  pub follows : P r (length (word_bits r residuals)) rest

-- count codes stand before the place, and what follows is so
pub record AtEnd (count : ℕ) (bits : List Bool) (P : ℕ → List Bool → Type 0) : Type 0 where
  pub r : ℕ
  pub residuals : List ℤ
  pub rest : List Bool
  pub all : length residuals ≡ count
  pub opens : OpensWith r residuals bits rest
  pub follows : P (length (word_bits r residuals)) rest

-- the first fault of bytes that are no word of count residuals
abbrev pub HasFault : ℕ → List ℕ → BlockFault → Type 0
HasFault count bytes (CutShort bit) =
    (bit ≡ 8 * length bytes) × ((bytes ≡ []) ⊎ InCode count (bits_of_bytes bytes) (λ r place rest. IsCut r rest))
HasFault count bytes (LongForm bit) =
    InCode count (bits_of_bytes bytes) (λ r place rest. (bit ≡ place) × IsLongForm r rest)
HasFault count bytes (TooWide bit) =
    InCode count (bits_of_bytes bytes) (λ r place rest. (bit ≡ place) × IsTooWide r rest)
HasFault count bytes (BadPadding bit) =
    AtEnd count (bits_of_bytes bytes) (λ place rest. IsBadPadding bit place rest)
HasFault count bytes (Excess n) =
    AtEnd count (bits_of_bytes bytes) (λ place rest. IsExcess n rest)
