use Rattle.std.proofs.Common.{◌≡◌, ℕ, ◌==◌, length, if◌then◌else◌, ap, sym, ◌∙◌, subst, inr, arith}
use Rattle.clip_regions.specs.declared.region.Region.{Region}
use Rattle.plan_model.specs.Strips.{hull}
use Rattle.plan_model.specs.States.{State, filled_at, window_at}
use Rattle.plan_model.specs.Claims.{unfinished_pieces}
use Rattle.plan_model.specs.Steps.{grown, unchanged}
use Rattle.plan_model.specs.Laws.{IsFilledIn}
use Rattle.plan_model.specs.Sound.{IsEvenInside}
use Rattle.plan_model.specs.declared.events.Answer.TheVariants.{Waiting}
use Rattle.book_plan.specs.Desks.{state_of, HaveSlots, shelf_at}
use Rattle.book_plan.proofs.Placed.{level_there}
use Rattle.book_plan.proofs.Finished.{grown_state, grown_slots, strip_used}
use Rattle.book_plan.proofs.desk.PlanDesk.publish_strip.Goals as goal

pub grow-requires-clause-filled : goal.grow-requires-clause-filled
grow-requires-clause-filled c =
    let d = c.args.self.now in
    let st : State = state_of d in
    let region : c.hull-region.result ≡ hull (filled_at st c.args.level) c.args.strip = c.hull-region.ensures.value ∙ ap (λ (f : Region). hull f c.args.strip) c.filled_at.ensures.value in
    let even : IsEvenInside (window_at st c.args.level) (hull (filled_at st c.args.level) c.args.strip) = c.hulls_are_even_inside.ensures st.k c.args.level st.x st.y (filled_at st c.args.level) c.args.strip (omega (arith, c.requires.standing.size.low)) (c.requires.standing.sound.levels c.args.level (level_there d c.args.level c.requires.level)).filled (strip_used d c.args.level c.args.strip c.requires.strip).1 in
    subst (λ (r : Region). IsFilledIn r c.window_at-window.result) (sym region) (subst (λ (w : Region). IsFilledIn (hull (filled_at st c.args.level) c.args.strip) w) (sym c.window_at-window.ensures.value) (inr ((c.inside_is_held.ensures (window_at st c.args.level) (hull (filled_at st c.args.level) c.args.strip)).0 even.inside).1))

pub returns-clause-state : goal.returns-clause-state
returns-clause-state c =
    let d = c.args.self.now in
    let st : State = state_of d in
    let region : c.hull-region.result ≡ hull (filled_at st c.args.level) c.args.strip = c.hull-region.ensures.value ∙ ap (λ (f : Region). hull f c.args.strip) c.filled_at.ensures.value in
    let none : length (unfinished_pieces st c.args.level) ≡ 0 = sym c.unfinished_count-pieces.ensures ∙ c.if-pieces-ne0.false in
    ap state_of c.grow.ensures ∙ grown_state d c.args.level c.args.strip c.hull-region.result c.window_at-window.result region ∙ sym (ap (λ (n : ℕ). (if n == 0 then grown st c.args.level c.args.strip else unchanged st (Waiting n)).state) none)

pub returns-clause-slots : goal.returns-clause-slots
returns-clause-slots c =
    let d = c.args.self.now in
    subst HaveSlots (sym c.grow.ensures) (grown_slots d c.args.level c.hull-region.result c.window_at-window.result (shelf_at d c.args.level).plan c.requires.standing.slots c.requires.level (strip_used d c.args.level c.args.strip c.requires.strip).0 c.window_at-window.ensures.value)
