use Rattle.std.proofs.Common.{◌≡◌, Some, List, refl, sym, subst, length, rules}
use Rattle.std.specs.Prelude.{string_bytes}
use Rattle.plan_model.specs.Rounds.{frame_pass}
use Rattle.plan_model.specs.States.{OpenFrame, frame_of, pass_at}
use Rattle.plan_model.specs.declared.events.Event.TheVariants.{End}
use Rattle.book_plan.specs.Notes.{open_frame}
use Rattle.run_actions.specs.Actions.{Action}
use Rattle.run_actions.specs.Runs.{Ran}
use Rattle.clip_rounds.specs.Parts.{one, place_of}
use Rattle.clip_rounds.proofs.OneEvent.{ended_is, flew_one, same_place, tally_is, told_goes}
use Rattle.clip_rounds.proofs.Flown.{always, flew_wanting}
use Rattle.clip_rounds.proofs.events.end.Goals as goal

pub returns-clause-flew : goal.returns-clause-flew
returns-clause-flew g c =
    let flight = c.args.flight.now in
    let st = flight.book.plan.state in
    let terrain = flight.book.land.terrain in
    let name = c.args.means.now.name.now in
    let note = c.in-Some.note in
    let frame : OpenFrame = open_frame note in
    let made = c.args.mesh.now in
    let has : frame_of (pass_at st frame_pass) ≡ Some frame = sym c.in-Some.ensures in
    let over = c.requires.mesh frame has in
    let many : c.len.result ≡ length c.in-Ok.drawn.text.items = search rules in
    let r = c.put_numbered-done.result in
    flew_one g.S.Shelf.leaves terrain name frame_pass End (place_of flight) _ r (g.S.Shelf.told c.args.shelf.now) (g.S.Shelf.told c.put_numbered-done.new.shelf) (g.K.Sink.told c.args.out.now) (g.K.Sink.told c.put_numbered-done.new.out)
    (subst (λ (actions : List Action). Ran g.S.Shelf.leaves 0 actions r (g.S.Shelf.told c.args.shelf.now) (g.S.Shelf.told c.put_numbered-done.new.shelf) (g.K.Sink.told c.args.out.now) (g.K.Sink.told c.put_numbered-done.new.out))
    (ended_is terrain name st.k frame_pass note.number frame made c.in-Ok.drawn.text.items (string_bytes c.in-Ok.drawn.line) (frame_of (pass_at st frame_pass)) has refl over c.in-Ok.ensures.text c.in-Ok.ensures.line)
    c.put_numbered-done.ensures.ran)
    c.put_numbered-done.ensures.reason
    (always r (same_place _ _ _ _ c.end.ensures.does.plan.state
    (tally_is terrain st.k frame made c.in-Ok.drawn.text.items c.len.result flight.tally c.in-Some-with_mesh.tally (frame_of (pass_at st frame_pass)) has over c.in-Ok.ensures.text many c.in-Some-with_mesh.ensures)))

pub returns-clause-goes : goal.returns-clause-goes
returns-clause-goes g c = always c.put_numbered-done.result (told_goes frame_pass End _ c.args.flight.now.book c.end.new.self c.end.ensures.does)

pub returns-in_default-print_whole-clause-flew : goal.returns-in_default-print_whole-clause-flew
returns-in_default-print_whole-clause-flew g c =
    flew_wanting g.S.Shelf.leaves c.args.flight.now.book.land.terrain c.args.means.now.name.now (one frame_pass End) (place_of c.args.flight.now) _ (g.S.Shelf.told c.args.shelf.now) (g.K.Sink.told c.args.out.now)

pub returns-in_default-with_mesh-clause-flew : goal.returns-in_default-with_mesh-clause-flew
returns-in_default-with_mesh-clause-flew g c =
    flew_wanting g.S.Shelf.leaves c.args.flight.now.book.land.terrain c.args.means.now.name.now (one frame_pass End) (place_of c.args.flight.now) _ (g.S.Shelf.told c.args.shelf.now) (g.K.Sink.told c.args.out.now)
