use Rattle.std.proofs.Common.{◌≡◌, Some, None, ap, ◌∙◌}
use Rattle.plan_model.specs.States.{State, frame_of, pass_at}
use Rattle.plan_model.specs.Steps.{next_frame}
use Rattle.clip_book.specs.Books.{BookView}
use Rattle.book_plan.specs.Notes.{open_frame}
use Rattle.clip_runs.proofs.Wholes.{begun_frame, begun_size, frame_is, none_isnt, one_begun, some_is}
use Rattle.clip_runs.proofs.single.begin_whole.Goals as goal

pub unreachable-requires : goal.unreachable-requires
unreachable-requires g c =
    let none : None ≡ frame_of (pass_at c.take.new.self.plan.state 0) = c.in-None.ensures ∙ ap (λ (v : BookView). frame_of (pass_at v.plan.state 0)) c.book.ensures in
    none_isnt (next_frame c.args.desk.now.plan.state) (none ∙ ap (λ (st : State). frame_of (pass_at st 0)) c.take.ensures.takes.plan.state ∙ begun_frame c.args.desk.now.plan.state c.requires.rest)

pub returns-clause-whole : goal.returns-clause-whole
returns-clause-whole g c =
    let some : Some (open_frame c.in-Some.note) ≡ frame_of (pass_at c.take.new.self.plan.state 0) = c.in-Some.ensures ∙ ap (λ (v : BookView). frame_of (pass_at v.plan.state 0)) c.book.ensures in
    some_is (open_frame c.in-Some.note) (next_frame c.args.desk.now.plan.state) (some ∙ ap (λ (st : State). frame_of (pass_at st 0)) c.take.ensures.takes.plan.state ∙ begun_frame c.args.desk.now.plan.state c.requires.rest)
    ∙ frame_is c.laws_below.ensures c.args.desk.now.plan.state c.requires.rest c.requires.settled c.requires.low c.requires.first

pub returns-clause-size : goal.returns-clause-size
returns-clause-size g c =
    ap (λ (st : State). st.k) c.take.ensures.takes.plan.state ∙ begun_size c.args.desk.now.plan.state c.requires.rest

pub returns-clause-one : goal.returns-clause-one
returns-clause-one g c = one_begun _ c.args.desk.now c.take.new.self c.requires.first c.take.ensures.takes
