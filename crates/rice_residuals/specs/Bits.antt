-- Numbers and bytes as lists of bits, high end first.
use Rattle.std.specs.Prelude.{ℕ, zero, suc, ◌+◌, ◌/◌, ◌^◌, Bool, false, List, [], ◌∷◌, ◌++◌, length, take, drop, replicate, if◌then◌else◌, ◌==◌}
use Rattle.std.specs.List.{flat_map}
use Rattle.std.specs.Int.{bit_at}

-- the lowest count bits of a number, the highest of them first
unfoldable pub low_bits : ℕ → ℕ → List Bool
low_bits zero n = []
low_bits (suc count) n = (bit_at n count == 1) ∷ low_bits count n

-- the bits of bytes, each byte's high end first
unfoldable pub bits_of_bytes : List ℕ → List Bool
bits_of_bytes bytes = flat_map (low_bits 8) bytes

-- the number whose bits these are, high end first
unfoldable pub number_of : List Bool → ℕ
number_of [] = 0
number_of (bit ∷ bits) = (if bit then 2 ^ length bits else 0) + number_of bits

-- the first so many bytes of the bits, with zeros where the bits have ended
unfoldable pub bytes_of : ℕ → List Bool → List ℕ
bytes_of zero bits = []
bytes_of (suc count) bits = number_of (take 8 (bits ++ replicate 8 false)) ∷ bytes_of count (drop 8 bits)

-- bits as bytes, with the last byte filled up by zero bits
unfoldable pub packed : List Bool → List ℕ
packed bits = bytes_of ((length bits + 7) / 8) bits
