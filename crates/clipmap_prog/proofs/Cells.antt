-- That the cells that a swarm asks for are numbers of 64 bits.
use Rattle.std.proofs.Common.{ℕ, ◌*◌, ◌≤◌, ◌<◌, arith}
use Rattle.std.proofs.lemmas.Nat.{mul-le}

pub frames_few : (renderers begins : ℕ) → renderers < 256 → begins ≤ 1000 → renderers * begins ≤ 255000
frames_few renderers begins few short = let h = mul-le renderers begins 255 1000 (omega (arith, few)) short in omega (arith, h)

pub layers_few : (frames levels : ℕ) → frames ≤ 255000 → levels ≤ 12 → frames * levels ≤ 3060000
layers_few frames levels few low = let h = mul-le frames levels 255000 12 few low in omega (arith, h)

pub cells_few : (layers cells : ℕ) → layers ≤ 3060000 → cells ≤ 65536 → layers * cells ≤ 200540160000
cells_few layers cells few low = let h = mul-le layers cells 3060000 65536 few low in omega (arith, h)
