use Rattle.std.proofs.Common.{◌<◌, length, sym, subst, arith}
use Rattle.std.proofs.lemmas.List.{length-map}
use Rattle.clip_regions.specs.declared.region.Region.{Region}
use Rattle.plan_model.specs.States.{filled_at, window_at}
use Rattle.plan_model.specs.Laws.{IsFilledIn}
use Rattle.book_plan.specs.Slots.{level_of}
use Rattle.book_plan.specs.Desks.{state_of}
use Rattle.book_plan.proofs.desk.PlanDesk.first_strip.Goals as goal

pub current_strip-requires : goal.current_strip-requires
current_strip-requires c =
    let st = state_of c.args.self.now in
    let there : c.args.level < length st.levels = omega (arith, length-map c.args.self.now.levels level_of, c.requires.level) in
    let inside : IsFilledIn (filled_at st c.args.level) (window_at st c.args.level) = c.parts_are_filled_in.ensures (window_at st c.args.level) (filled_at st c.args.level) (c.requires.standing.sound.levels c.args.level there).filled in
    subst (λ (w : Region). IsFilledIn c.filled_at-filled.result w) (sym c.window_at-window.ensures.value) (subst (λ (f : Region). IsFilledIn f (window_at st c.args.level)) (sym c.filled_at-filled.ensures.value) inside)
