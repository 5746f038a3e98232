use Rattle.clip_script.proofs.ViewSteps.{script_views}
use Rattle.clip_script.proofs.laws.views_are_asked_for_by_lines.Goals as goal

pub returns : goal.returns
returns c = script_views
