-- Which cells a region and its hole have.
use Rattle.std.proofs.Common.{◌≡◌, ℕ, ℤ, pos, ◌*ℤ◌, sym, subst, arith}
use Rattle.std.proofs.lemmas.Int.{ints}
use Rattle.clip_regions.specs.declared.region.Region.{Region}
use Rattle.clip_regions.specs.FloorDivision.{floor_div, floor_rem}
use Rattle.clip_regions.proofs.Cells.{HasCell}
use Rattle.active_region.specs.Active.{IsWide}
use Rattle.mesh_model.proofs.Rectangles.{half_and_rest, halved, halved_has_cell, hole_is, IsInner}
use Rattle.mesh_laws.proofs.Rectangles.{IsDeep, hole_deep}

pub wide_has_cell : (r : Region) → IsWide r → HasCell r
wide_has_cell r wide = let a = wide.across in let b = wide.along in record { across = omega (arith, ints, a); along = omega (arith, ints, b) }

pub twice : (x : ℤ) → floor_rem x 2 ≡ 0 → x ≡ pos 2 *ℤ floor_div x 2
twice x even = let whole = half_and_rest x in omega (arith, ints, whole, even)

-- half of a finer region that has a cell lies e cells inside the coarser one
pub half_deep : (e : ℕ) (finer coarser : Region) → IsInner e finer coarser → HasCell finer → IsDeep e coarser (halved finer)
half_deep e finer coarser inner some =
    let half = hole_is finer some in
    subst (λ (g : Region). IsDeep e coarser g) half (hole_deep e finer coarser inner (subst HasCell (sym half) (halved_has_cell finer some)))
