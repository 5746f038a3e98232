use Rattle.std.proofs.Common.{subst, sym}
use Rattle.run_actions.specs.Runs.{Ran}
use Rattle.run_actions.proofs.Ends.{ran_write}
use Rattle.clip_runs.specs.Courses.{course_actions, course_view}
use Rattle.clip_runs.specs.declared.course.Course.{Course}
use Rattle.clip_runs.proofs.course.do_course.Goals as goal

pub returns-in-Demo-clause-ran : goal.returns-in-Demo-clause-ran
returns-in-Demo-clause-ran g c =
    let shelf = g.S.Shelf.told c.args.shelf.now in
    let before = g.K.Sink.told c.args.out.now in
    let after = g.K.Sink.told c.demo.new.out in
    let ran = ran_write g.S.Shelf.leaves _ c.demo.result shelf before after c.demo.ensures.ends c.demo.ensures.calls in
    subst (λ (course : Course). Ran g.S.Shelf.leaves 0 (course_actions (course_view course) (g.F.Filler.land c.args.means.now.filler.now) c.args.means.now.name.now)
    c.demo.result shelf shelf before after) (sym c.in-Demo.is) ran
