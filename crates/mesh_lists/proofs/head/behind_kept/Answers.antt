use Rattle.mesh_lists.specs.Says.{kept_of}
use Rattle.mesh_lists.specs.Lines.{whole_lines}
use Rattle.mesh_lists.proofs.Heads.{no_kept, leading_none, leading_is_some, kept_none, kept_some}
use Rattle.mesh_lists.proofs.head.behind_kept.Goals as goal

pub returns-in-None : goal.returns-in-None
returns-in-None c =
    let lines = whole_lines c.args.text.now in
    record { lines = kept_none lines (leading_none kept_of lines no_kept c.in-None.ensures.value) }

pub returns-in-Some : goal.returns-in-Some
returns-in-Some c =
    let lines = whole_lines c.args.text.now in
    record { lines = (kept_some lines (leading_is_some kept_of lines _ _ c.in-Some.ensures.value), c.in-Some.ensures.left) }
