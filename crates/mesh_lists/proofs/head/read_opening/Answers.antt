use Rattle.mesh_lists.specs.Lines.{whole_lines}
use Rattle.mesh_lists.proofs.Heads.{bad_first, bad_second, good_opening, leaves_more}
use Rattle.mesh_lists.proofs.head.read_opening.Goals as goal

pub returns-in-None-clause-lists : goal.returns-in-None-clause-lists
returns-in-None-clause-lists c = bad_first (whole_lines c.args.text.now) c.in-None.ensures.lines

pub returns-in-None-behind_viewer-clause-lists : goal.returns-in-None-behind_viewer-clause-lists
returns-in-None-behind_viewer-clause-lists c =
    bad_second (whole_lines c.args.text.now) (whole_lines c.in-Some.rest.now) c.in-Some.ensures.lines.1.lines c.in-Some.ensures.lines.0 c.in-None-behind_viewer.ensures.lines

pub returns-in-Some-behind_viewer-clause-lists : goal.returns-in-Some-behind_viewer-clause-lists
returns-in-Some-behind_viewer-clause-lists c =
    let first = c.in-Some.ensures.lines in
    let second = c.in-Some-behind_viewer.ensures.lines in
    good_opening (whole_lines c.args.text.now) (whole_lines c.in-Some.rest.now) (whole_lines c.in-Some-behind_viewer.rest.now) first.1.lines second.1.lines first.0 second.0

pub returns-in-Some-behind_viewer-clause-left : goal.returns-in-Some-behind_viewer-clause-left
returns-in-Some-behind_viewer-clause-left c =
    leaves_more 1 1 c.args.text.now c.in-Some.rest.now c.in-Some-behind_viewer.rest.now c.in-Some.ensures.lines.1 c.in-Some-behind_viewer.ensures.lines.1
