-- A code of few ones that a register holds whole.
use Rattle.std.proofs.Common.{◌≡◌, ℕ, ◌+◌, ◌-◌, ◌*◌, ◌/◌, ◌%◌, ◌^◌, ◌<◌, ◌≤◌, List, true, false, ◌∷◌, ◌++◌, replicate, refl, arith, pow_mono}
use Rattle.std.proofs.Math.Nat.{mul-le-mul_right}
use Rattle.rice_residuals.specs.Bits.{low_bits}
use Rattle.rice_residuals.specs.Code.{code}
use Rattle.rice_residuals.specs.Reading.{Reading, reading}
use Rattle.rice_residuals.specs.declared.register.Register.{Register}
use Rattle.rice_residuals.proofs.Readings.{shorter, taken_left}
use Rattle.rice_residuals.proofs.OnesTaken.{ones_short}
use Rattle.rice_residuals.proofs.CodeRead.{short_code}

-- fewer than eight ones and at most fifteen low bits make no number that is too large
pub short_below : (ones p low u : ℕ) → ones < 8 → p < 16 → low < 2 ^ p → u ≡ ones * 2 ^ p + low → u < 262144
short_below ones p low u few small below e =
    let most : 2 ^ p ≤ 2 ^ 15 = pow_mono {i = p} {j = 15} (omega arith) in
    let next : (ones + 1) * 2 ^ p ≤ 8 * 2 ^ p = mul-le-mul_right (2 ^ p) (omega arith) in
    let parts : (ones + 1) * 2 ^ p ≡ ones * 2 ^ p + 2 ^ p = grind arith in
    omega (arith, most, next, parts, below, e)

pub taken_short : (bytes : List ℕ) (r : Register) (now : Reading) (ones p held value u : ℕ) → reading bytes r ≡ now → low_bits r.held r.bits ≡ replicate ones true ++ low_bits (r.held - ones) r.bits → ones < 32 → low_bits (r.held - ones) r.bits ≡ false ∷ low_bits (r.held - ones - 1) r.bits → ones + 1 + p ≤ r.held → held ≡ r.held - ones - 1 - p → value ≡ (r.bits / 2 ^ held) % 2 ^ p → value < 2 ^ p → u ≡ ones * 2 ^ p + value → now.left ≡ code p u ++ (reading bytes (shorter r held)).left
taken_short bytes r now ones p held value u e run few zero enough h v below is =
    let mid = shorter r (r.held - ones - 1) in
    short_code p ones value u now.left (reading bytes mid).left (reading bytes (shorter r held)).left few below is
    (ones_short bytes r now ones e run few zero)
    (taken_left bytes mid (reading bytes mid) p held value refl (omega arith) h v)
