use Rattle.std.proofs.Common.{◌≡◌, ℤ, pos, refl, arith, rules}
use Rattle.std.proofs.lemmas.Int.{ints}
use Rattle.std.proofs.lemmas.List.Elements.{All-replicate}
use Rattle.rice_residuals.specs.Code.{IsResidual}
use Rattle.rice_residuals.proofs.residuals.Residuals.none.Goals as goal

pub invariant_of-result : goal.invariant_of-result
invariant_of-result c = record {
  counted = search rules;
  in_range = All-replicate IsResidual 64 (pos 0) (omega (arith, ints), omega (arith, ints));
  unused = All-replicate (λ (x : ℤ). x ≡ pos 0) 64 (pos 0) refl;
}
