use Rattle.plan_model.proofs.WindowLaws.{even_windows}
use Rattle.plan_model.proofs.windows.windows_have_even_corners.Goals as goal

pub returns : goal.returns
returns c = even_windows
