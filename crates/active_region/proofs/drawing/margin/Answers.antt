-- The greater of a power of two and 2.
use Rattle.std.proofs.Common.{◌≡◌, ℕ, ◌-◌, ◌^◌, max, ℤ, pos, ap, ◌∙◌, w32, arith}
use Rattle.std.proofs.lemmas.Int.{ints, clamps, to_z-of_z}
use Rattle.std.specs.Int.{int_max}
use Rattle.plan_model.specs.Window.{blend_width, margin}
use Rattle.active_region.proofs.drawing.margin.Goals as goal

larger : (w : ℕ) → int_max (pos w) (pos 2) ≡ pos (max 2 w)
larger w = omega (arith, ints, clamps)

pub returns-clause-value : goal.returns-clause-value
unfolding margin blend_width
returns-clause-value c =
    to_z-of_z w32 c.max.result (record { sfits = c.max.type_inv })
    ∙ c.max.ensures.value
    ∙ ap (λ (x : ℤ). int_max x (pos 2)) (to_z-of_z w32 c.power_of_two.result (record { sfits = c.power_of_two.type_inv }) ∙ c.power_of_two.ensures.value)
    ∙ larger (2 ^ (c.args.k - 4))
