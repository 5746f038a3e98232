use Rattle.mesh_lists.specs.Says.{viewer_of}
use Rattle.mesh_lists.specs.Lines.{whole_lines}
use Rattle.mesh_lists.proofs.Heads.{no_viewer, leading_none, leading_is_some}
use Rattle.mesh_lists.proofs.head.behind_viewer.Goals as goal

pub returns-in-None : goal.returns-in-None
returns-in-None c = record { lines = leading_none viewer_of (whole_lines c.args.text.now) no_viewer c.in-None.ensures.value }

pub returns-in-Some : goal.returns-in-Some
returns-in-Some c = record { lines = (leading_is_some viewer_of (whole_lines c.args.text.now) _ _ c.in-Some.ensures.value, c.in-Some.ensures.left) }
