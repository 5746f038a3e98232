-- The residuals of a block as a list.
use Rattle.std.specs.Prelude.{ℤ, List, take}
use Rattle.rice_residuals.specs.declared.residuals.Residuals.{Residuals}

-- the used residuals, row by row
abbrev pub residual_list : Residuals → List ℤ
residual_list r = take r.count r.values
