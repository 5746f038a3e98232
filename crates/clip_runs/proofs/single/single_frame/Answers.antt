use mir.Val.{to_z, of_z}
use Rattle.std.specs.Int.{w32}
use Rattle.std.specs.Prelude.{string_bytes}
use Rattle.std.proofs.Common.{◌≡◌, subst, ap, ◌∙◌, arith, rules}
use Rattle.terrain_store.specs.Shapes.{Land}
use Rattle.clip_book.specs.Books.{BookView}
use Rattle.book_plan.specs.Notes.{open_frame}
use Rattle.run_actions.specs.Runs.{Ran}
use Rattle.clip_runs.proofs.Wholes.{whole_framed, whole_put}
use Rattle.clip_runs.proofs.single.single_frame.Goals as goal

pub take-requires-clause-moves : goal.take-requires-clause-moves
take-requires-clause-moves g c = omega (arith, c.begin_whole-note.ensures.moves, c.in-Ok.ensures.filled.moves)

pub take-requires-clause-begun : goal.take-requires-clause-begun
take-requires-clause-begun g c = omega (arith, c.begin_whole-note.ensures.one)

pub returns-in-Ok-draw_alone-clause-ran : goal.returns-in-Ok-draw_alone-clause-ran
returns-in-Ok-draw_alone-clause-ran g c =
    let land = g.F.Filler.land c.args.means.now.filler.now in
    let x : to_z w32 (of_z w32 c.args.x) ≡ c.args.x = search rules in
    let y : to_z w32 (of_z w32 c.args.y) ≡ c.args.y = search rules in
    let filled = simp (x, y) at c.in-Ok.ensures.filled in
    subst (λ actions. Ran g.S.Shelf.leaves 0 actions c.put_frame.result (g.S.Shelf.told c.args.shelf.now) (g.S.Shelf.told c.put_frame.new.shelf) (g.K.Sink.told c.args.out.now) (g.K.Sink.told c.put_frame.new.out))
    (whole_put c.args.k land.levels c.args.x c.args.y land.terrain c.args.means.now.name.now c.in-Ok-draw_alone.drawn.text.items (string_bytes c.in-Ok-draw_alone.drawn.line) (open_frame c.begin_whole-note.result) _ _
    (c.begin_whole-note.ensures.whole ∙ whole_framed c.args.k c.args.x c.args.y land c.in-Ok.desk filled)
    (ap (λ (v : BookView). v.plan.state.k) c.book.ensures ∙ c.begin_whole-note.ensures.size ∙ filled.size)
    (ap (λ (v : BookView). v.land.terrain) c.book.ensures ∙ ap (λ (l : Land). l.terrain) c.begin_whole-note.ensures.land ∙ ap (λ (l : Land). l.terrain) filled.of_land)
    c.in-Ok-draw_alone.ensures.text c.in-Ok-draw_alone.ensures.line)
    c.put_frame.ensures.ran
