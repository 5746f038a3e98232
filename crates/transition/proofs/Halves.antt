-- Halves rounded down and up.
use Rattle.std.proofs.Common.{◌≡◌, zero, suc, ℤ, pos, negsuc, ◌+ℤ◌, ◌-◌, ◌/◌, ◌%◌, refl, ap, sym, ◌∙◌, arith}
use Rattle.std.proofs.lemmas.Int.{ints}
use Rattle.clip_regions.specs.FloorDivision.{floor_div, floor_rem}
use Rattle.mesh_model.specs.Height.{lower_end, upper_end}

pub lower_is : (i : ℤ) → floor_div i 2 ≡ lower_end i
unfolding lower_end
lower_is i = refl

-- a half rounded up is the half rounded down and what that leaves
pub upper_is : (i : ℤ) → floor_div i 2 +ℤ pos (floor_rem i 2) ≡ upper_end i
unfolding upper_end floor_div floor_rem
upper_is (pos n) = omega (arith, ints)
upper_is (negsuc zero) = omega (arith, ints)
upper_is (negsuc (suc n)) =
    let next : negsuc (suc n) +ℤ pos 1 ≡ negsuc n = omega (arith, ints) in
    let half : negsuc (suc n / 2) +ℤ pos (1 - suc n % 2) ≡ negsuc (n / 2) = omega (arith, ints) in
    half ∙ ap (λ (z : ℤ). floor_div z 2) (sym next)
