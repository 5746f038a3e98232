use Rattle.mesh_lists.specs.Says.{frame_of}
use Rattle.mesh_lists.specs.Lines.{whole_lines}
use Rattle.mesh_lists.proofs.Heads.{no_frame, leading_none, leading_is_some}
use Rattle.mesh_lists.proofs.head.behind_frame.Goals as goal

pub returns-in-None : goal.returns-in-None
returns-in-None c = record { lines = leading_none frame_of (whole_lines c.args.text.now) no_frame c.in-None.ensures.value }

pub returns-in-Some : goal.returns-in-Some
returns-in-Some c = record { lines = (leading_is_some frame_of (whole_lines c.args.text.now) _ _ c.in-Some.ensures.value, c.in-Some.ensures.left) }
