use Rattle.std.proofs.Common.{◌≡◌, Bool, false, cond, List, Some, None, ap, sym, ◌∙◌}
use Rattle.std.specs.Option.{option_map}
use Rattle.std.specs.List.{flat_map}
use Rattle.clip_regions.specs.declared.region.Region.{Region}
use Rattle.plan_model.specs.Strips.{first_of}
use Rattle.plan_model.specs.States.{from_coarsest, has_work, pass_at}
use Rattle.plan_model.specs.Steps.{Step, actives_at, held_under, frame_begun, begin_step, unchanged}
use Rattle.plan_model.specs.declared.events.Answer.TheVariants.{HasWork}
use Rattle.book_plan.specs.Desks.{state_of}
use Rattle.book_plan.specs.Found.{answers_under}
use Rattle.book_plan.proofs.Filled.{told, told_are, begun_some, begun_none}
use Rattle.book_plan.proofs.desk.PlanDesk.begin.Goals as goal

pub returns-in-Some-clause-answer : goal.returns-in-Some-clause-answer
unfolding begin_step
returns-in-Some-clause-answer c =
    let st = state_of c.args.self.now in
    let free : has_work (pass_at st c.args.p) ≡ false = sym c.has_work.ensures.value ∙ c.if-has_work.false in
    let o : option_map (told st) (first_of (held_under st (actives_at st))) ≡ Some c.in-Some.answer = told_are st (actives_at st) ∙ ap (λ (rs : List Region). first_of (flat_map (answers_under st rs) (from_coarsest st))) (sym c.actives-actives.ensures.value) ∙ sym c.held_under.ensures ∙ c.in-Some.is in
    (begun_some st c.args.p (first_of (held_under st (actives_at st))) c.in-Some.answer o).0 ∙ sym (ap (λ (b : Bool). (cond b (unchanged st HasWork) (frame_begun st c.args.p (first_of (held_under st (actives_at st))))).answer) free)

pub returns-in-Some-clause-state : goal.returns-in-Some-clause-state
unfolding begin_step
returns-in-Some-clause-state c =
    let st = state_of c.args.self.now in
    let free : has_work (pass_at st c.args.p) ≡ false = sym c.has_work.ensures.value ∙ c.if-has_work.false in
    let o : option_map (told st) (first_of (held_under st (actives_at st))) ≡ Some c.in-Some.answer = told_are st (actives_at st) ∙ ap (λ (rs : List Region). first_of (flat_map (answers_under st rs) (from_coarsest st))) (sym c.actives-actives.ensures.value) ∙ sym c.held_under.ensures ∙ c.in-Some.is in
    (begun_some st c.args.p (first_of (held_under st (actives_at st))) c.in-Some.answer o).1 ∙ sym (ap (λ (b : Bool). (cond b (unchanged st HasWork) (frame_begun st c.args.p (first_of (held_under st (actives_at st))))).state) free)

pub returns-in-None-clause-answer : goal.returns-in-None-clause-answer
unfolding begin_step
returns-in-None-clause-answer c =
    let st = state_of c.args.self.now in
    let free : has_work (pass_at st c.args.p) ≡ false = sym c.has_work.ensures.value ∙ c.if-has_work.false in
    let o : option_map (told st) (first_of (held_under st (actives_at st))) ≡ None = told_are st (actives_at st) ∙ ap (λ (rs : List Region). first_of (flat_map (answers_under st rs) (from_coarsest st))) (sym c.actives-actives.ensures.value) ∙ sym c.held_under.ensures ∙ c.in-None.is in
    c.open_frame.ensures.answer ∙ ap (λ (s : Step). s.answer) (begun_none st c.args.p (first_of (held_under st (actives_at st))) o) ∙ sym (ap (λ (b : Bool). (cond b (unchanged st HasWork) (frame_begun st c.args.p (first_of (held_under st (actives_at st))))).answer) free)

pub returns-in-None-clause-state : goal.returns-in-None-clause-state
unfolding begin_step
returns-in-None-clause-state c =
    let st = state_of c.args.self.now in
    let free : has_work (pass_at st c.args.p) ≡ false = sym c.has_work.ensures.value ∙ c.if-has_work.false in
    let o : option_map (told st) (first_of (held_under st (actives_at st))) ≡ None = told_are st (actives_at st) ∙ ap (λ (rs : List Region). first_of (flat_map (answers_under st rs) (from_coarsest st))) (sym c.actives-actives.ensures.value) ∙ sym c.held_under.ensures ∙ c.in-None.is in
    c.open_frame.ensures.state ∙ ap (λ (s : Step). s.state) (begun_none st c.args.p (first_of (held_under st (actives_at st))) o) ∙ sym (ap (λ (b : Bool). (cond b (unchanged st HasWork) (frame_begun st c.args.p (first_of (held_under st (actives_at st))))).state) free)
