-- Two steps of a walk.
use Rattle.std.proofs.Common.{◌≡◌, ℕ, ◌<◌, ◌≤◌, List, [], ◌∷◌, length, get_or, drop, refl, arith}
use Rattle.mesh_model.specs.Parts.{stitches_along}

pub next_steps : (walk : List ℕ) → 2 < length walk → stitches_along walk ≡ (get_or walk 0 0 ∷ get_or walk 1 0 ∷ get_or walk 2 0 ∷ []) ∷ stitches_along (drop 2 walk)
next_steps [] h = absurd (omega arith)
next_steps (p ∷ []) h = absurd (omega arith)
next_steps (p ∷ (m ∷ [])) h = absurd (omega arith)
next_steps (p ∷ (m ∷ (q ∷ walk))) h = refl

pub no_steps : (walk : List ℕ) → length walk ≤ 2 → stitches_along walk ≡ []
no_steps [] h = refl
no_steps (p ∷ []) h = refl
no_steps (p ∷ (m ∷ [])) h = refl
no_steps (p ∷ (m ∷ (q ∷ walk))) h = absurd (omega arith)
