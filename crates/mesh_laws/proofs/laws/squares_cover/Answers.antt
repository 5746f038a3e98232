-- Ring by ring from the finest: each adds its region's squares to those of the finer one.
use Rattle.plan_model.specs.Window.{margin}
use Rattle.mesh_laws.proofs.Once.{squares_cover}
use Rattle.mesh_laws.proofs.laws.squares_cover.Goals as goal

pub returns : goal.returns
returns c = λ k actives drawn. squares_cover (margin k) actives drawn.even drawn.nested
