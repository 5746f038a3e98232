use Rattle.plan_model.proofs.WindowLaws.{nested_windows}
use Rattle.plan_model.proofs.windows.windows_are_nested.Goals as goal

pub returns : goal.returns
returns c = nested_windows
