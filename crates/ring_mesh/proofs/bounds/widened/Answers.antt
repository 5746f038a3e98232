-- The six numbers, one by one.
use Rattle.std.proofs.Common.{rules, ◌≡◌, ℤ, ◌∙◌, w32}
use Rattle.std.specs.Int.{int_min, int_max}
use Rattle.std.proofs.lemmas.Int.{to_z-of_z}
use Rattle.ring_mesh.proofs.bounds.widened.Goals as goal
use mir.Val.{SFits, to_z, of_z}

low_of : (r a b : ℤ) → SFits w32 r → SFits w32 a → SFits w32 b → r ≡ int_min (to_z w32 (of_z w32 a)) (to_z w32 (of_z w32 b)) → to_z w32 (of_z w32 r) ≡ int_min a b
low_of r a b fr fa fb e = to_z-of_z w32 r fr ∙ e ∙ (λ t. int_min (to_z-of_z w32 a fa t) (to_z-of_z w32 b fb t))

high_of : (r a b : ℤ) → SFits w32 r → SFits w32 a → SFits w32 b → r ≡ int_max (to_z w32 (of_z w32 a)) (to_z w32 (of_z w32 b)) → to_z w32 (of_z w32 r) ≡ int_max a b
high_of r a b fr fa fb e = to_z-of_z w32 r fr ∙ e ∙ (λ t. int_max (to_z-of_z w32 a fa t) (to_z-of_z w32 b fb t))

pub returns : goal.returns
returns c =
    let b = c.args.bounds in
    let v = c.args.vertex.now in
    let fx0 : SFits w32 b.x0 = search rules in
    let fx1 : SFits w32 b.x1 = search rules in
    let fz0 : SFits w32 b.z0 = search rules in
    let fz1 : SFits w32 b.z1 = search rules in
    let fl : SFits w32 b.low = search rules in
    let fh : SFits w32 b.high = search rules in
    let fx : SFits w32 v.x = search rules in
    let fz : SFits w32 v.z = search rules in
    let fv : SFits w32 v.height = search rules in
    λ t. record {
      x0 = low_of c.min.result b.x0 v.x (record { sfits = c.min.type_inv }) fx0 fx c.min.ensures.value t;
      x1 = high_of c.max.result b.x1 v.x (record { sfits = c.max.type_inv }) fx1 fx c.max.ensures.value t;
      z0 = low_of c.min-2.result b.z0 v.z (record { sfits = c.min-2.type_inv }) fz0 fz c.min-2.ensures.value t;
      z1 = high_of c.max-2.result b.z1 v.z (record { sfits = c.max-2.type_inv }) fz1 fz c.max-2.ensures.value t;
      low = low_of c.min-3.result b.low v.height (record { sfits = c.min-3.type_inv }) fl fv c.min-3.ensures.value t;
      high = high_of c.max-3.result b.high v.height (record { sfits = c.max-3.type_inv }) fh fv c.max-3.ensures.value t;
    }
