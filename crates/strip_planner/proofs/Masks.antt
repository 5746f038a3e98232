-- The remainder by a power of two below 32, by a mask.
use Rattle.std.proofs.Common.{◌≡◌, ℕ, zero, suc, ◌+◌, ◌-◌, ◌*◌, ◌/◌, ◌%◌, ◌^◌, ◌≤◌, ℤ, pos, negsuc, ap, ◌∙◌, arith}
use Rattle.std.proofs.lemmas.Nat.Bits.{and_high}
use lib.Bits.{bit_and}
use Rattle.clip_regions.specs.FloorDivision.{floor_rem}
use Rattle.plan_model.specs.Window.{torus_side, half_width}
use Rattle.plan_model.specs.Blocks.{tiles_per_side}

pub by_size : (P : ℕ → Type 0) → P 4 → P 5 → P 6 → P 7 → P 8 → (k : ℕ) → 4 ≤ k → k ≤ 8 → P k
by_size P a b c d e zero low high = absurd (omega arith)
by_size P a b c d e (suc zero) low high = absurd (omega arith)
by_size P a b c d e (suc (suc zero)) low high = absurd (omega arith)
by_size P a b c d e (suc (suc (suc zero))) low high = absurd (omega arith)
by_size P a b c d e (suc (suc (suc (suc zero)))) low high = a
by_size P a b c d e (suc (suc (suc (suc (suc zero))))) low high = b
by_size P a b c d e (suc (suc (suc (suc (suc (suc zero)))))) low high = c
by_size P a b c d e (suc (suc (suc (suc (suc (suc (suc zero))))))) low high = d
by_size P a b c d e (suc (suc (suc (suc (suc (suc (suc (suc zero)))))))) low high = e
by_size P a b c d e (suc (suc (suc (suc (suc (suc (suc (suc (suc n))))))))) low high = absurd (omega arith)

-- the low bits of a number
low_bits : (n j : ℕ) → bit_and n (2 ^ (j + 0) - 2 ^ 0) ≡ (n / 2 ^ 0 % 2 ^ j) * 2 ^ 0
low_bits n j = and_high n j 0

of_2 : (z : ℤ) → floor_rem z 32 % 2 ≡ floor_rem z 2
unfolding floor_rem
of_2 (pos n) = omega arith
of_2 (negsuc n) = omega arith

of_4 : (z : ℤ) → floor_rem z 32 % 4 ≡ floor_rem z 4
unfolding floor_rem
of_4 (pos n) = omega arith
of_4 (negsuc n) = omega arith

of_8 : (z : ℤ) → floor_rem z 32 % 8 ≡ floor_rem z 8
unfolding floor_rem
of_8 (pos n) = omega arith
of_8 (negsuc n) = omega arith

of_16 : (z : ℤ) → floor_rem z 32 % 16 ≡ floor_rem z 16
unfolding floor_rem
of_16 (pos n) = omega arith
of_16 (negsuc n) = omega arith

of_32 : (z : ℤ) → floor_rem z 32 % 32 ≡ floor_rem z 32
unfolding floor_rem
of_32 (pos n) = omega arith
of_32 (negsuc n) = omega arith

-- n / 1 % d * 1 is n % d
plainly : (n d : ℕ) → (n / 1 % d) * 1 ≡ n % d
plainly n d = let whole : n / 1 ≡ n = omega arith in ap (λ (m : ℕ). m % d * 1) whole ∙ omega arith

pub masked : (z : ℤ) (k : ℕ) → 4 ≤ k → k ≤ 8 → bit_and (floor_rem z 32) (tiles_per_side k - 1) ≡ floor_rem z (tiles_per_side k)
unfolding tiles_per_side torus_side
masked z k low high =
    by_size (λ (j : ℕ). bit_and (floor_rem z 32) (2 ^ j / 8 - 1) ≡ floor_rem z (2 ^ j / 8)) (low_bits (floor_rem z 32) 1 ∙ plainly (floor_rem z 32) 2 ∙ of_2 z) (low_bits (floor_rem z 32) 2 ∙ plainly (floor_rem z 32) 4 ∙ of_4 z) (low_bits (floor_rem z 32) 3 ∙ plainly (floor_rem z 32) 8 ∙ of_8 z) (low_bits (floor_rem z 32) 4 ∙ plainly (floor_rem z 32) 16 ∙ of_16 z) (low_bits (floor_rem z 32) 5 ∙ plainly (floor_rem z 32) 32 ∙ of_32 z) k low high

pub half_at_most : (k : ℕ) → 4 ≤ k → k ≤ 8 → half_width k ≤ 127
unfolding half_width
half_at_most k low high =
    by_size (λ (j : ℕ). 2 ^ (j - 1) - 1 ≤ 127) (omega arith) (omega arith) (omega arith) (omega arith) (omega arith) k low high
