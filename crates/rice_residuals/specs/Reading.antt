-- What contracts see of a reader of bits.
use Rattle.std.specs.Prelude.{ℕ, ◌-◌, ◌*◌, ◌<◌, ◌≤◌, Bool, List, ◌++◌, length, drop}
use Rattle.rice_residuals.specs.Bits.{low_bits, bits_of_bytes}
use Rattle.rice_residuals.specs.declared.register.Register.{Register}

-- the number of bits that were taken, and the bits that are left
pub record Reading : Type 0 where
  pub place : ℕ
  pub left : List Bool

-- a register over bytes: the bits that it holds stand before the bytes from next on
unfoldable pub reading : List ℕ → Register → Reading
reading bytes register = record {
  place = 8 * register.next - register.held;
  left = low_bits register.held register.bits ++ bits_of_bytes (drop register.next bytes);
}

-- at most 63 bits of at most 2^20 bytes are held
pub record IsSound (bytes : List ℕ) (register : Register) : Type 0 where
  pub held : register.held < 64
  pub next : register.next ≤ length bytes
  pub bytes_limit : length bytes ≤ 1048576
  pub begun : register.held ≤ 8 * register.next
