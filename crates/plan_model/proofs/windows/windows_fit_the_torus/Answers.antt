use Rattle.plan_model.proofs.WindowLaws.{distinct_places}
use Rattle.plan_model.proofs.windows.windows_fit_the_torus.Goals as goal

pub returns : goal.returns
returns c = distinct_places
