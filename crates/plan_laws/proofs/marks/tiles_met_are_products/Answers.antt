use Rattle.plan_laws.proofs.SideLaws.{tiles_met_are_products}
use Rattle.plan_laws.proofs.marks.tiles_met_are_products.Goals as goal

pub returns : goal.returns
returns c = tiles_met_are_products
