use Rattle.std.proofs.Common.{◌≡◌, ℕ, List, Ok, Err, ap, ◌∙◌, subst}
use Rattle.std.proofs.lemmas.Result.{err_from_is_err_and}
use Rattle.run_actions.specs.Runs.{WriteEnds}
use Rattle.swarm_passes.specs.Frames.{FrameView}
use Rattle.swarm_plays.specs.Journals.{journal_text}
use Rattle.swarm_runs.specs.Products.{frame_puts}
use Rattle.swarm_runs.specs.Puts.{HasPut}
use Rattle.swarm_runs.specs.Shown.{product_of, with_status}
use Rattle.swarm_runs.proofs.Showing.{shown_after, shown_halted, shown_none}
use Rattle.swarm_runs.proofs.run.show.Goals as goal

pub returns-in-Err-clause-shown : goal.returns-in-Err-clause-shown
returns-in-Err-clause-shown g c =
    shown_none g.S.Shelf.leaves (product_of c.args.script.now.k c.args.script.now.levels c.args.name.now c.args.run.now) (g.S.Shelf.told c.args.shelf.now) (g.K.Sink.told c.args.out.now)

pub returns-clause-shown : goal.returns-clause-shown
returns-clause-shown g c =
    let leaves = g.S.Shelf.leaves in
    let script = c.args.script.now in
    let run = c.args.run.now in
    let name = c.args.name.now in
    let s = g.S.Shelf.told c.args.shelf.now in
    let s1 = g.S.Shelf.told c.put_frames.new.shelf in
    let k = g.K.Sink.told c.args.out.now in
    let k1 = g.K.Sink.told c.write.new.out in
    let put : HasPut leaves (frame_puts name run.frames.items) (Ok tt) s s1 =
    subst (λ (frames : List FrameView). HasPut leaves (frame_puts name frames) (Ok tt) s s1) c.deref.ensures.value c.in_ok-put_frames.ensures in
    let text : c.deref-2.result.now ≡ journal_text script.k script.levels run.journal = c.deref-2.ensures.value ∙ c.in-Ok.ensures.text in
    let ends : WriteEnds (journal_text script.k script.levels run.journal) c.write.result k.written k1.written =
    subst (λ (t : List ℕ). WriteEnds t c.write.result k.written k1.written) text c.write.ensures.ends in
    shown_after leaves (product_of script.k script.levels name run) c.write.result c.ended.result s s1 k k1 (c.ended.ensures ∙ ap (λ (n : ℕ). with_status n c.write.result) c.status.ensures) put ends c.write.ensures.calls

pub returns-in_err-put_frames-clause-shown : goal.returns-in_err-put_frames-clause-shown
returns-in_err-put_frames-clause-shown g c =
    let leaves = g.S.Shelf.leaves in
    let run = c.args.run.now in
    let name = c.args.name.now in
    let s = g.S.Shelf.told c.args.shelf.now in
    let s1 = g.S.Shelf.told c.put_frames.new.shelf in
    let p = err_from_is_err_and c.from_residual.result c.from_residual.ensures.1 in
    let put = rw c.deref.ensures.value at c.in_err-put_frames.ensures in
    rw (p.1, p.2) (shown_halted leaves (product_of c.args.script.now.k c.args.script.now.levels name run) _ s s1 (g.K.Sink.told c.args.out.now) put)
