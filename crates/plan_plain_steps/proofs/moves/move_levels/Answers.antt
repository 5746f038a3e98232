-- One more level at each turn: those that are left are still as they were.
use Rattle.std.proofs.Common.{◌≡◌, ℕ, ◌<◌, ◌^◌, Bool, List, length, slice_index_or, ap, sym, ◌∙◌, subst, arith, rules}
use Rattle.std.proofs.lemmas.List.{get_or_default}
use Rattle.clip_regions.specs.declared.region.Region.{Region}
use Rattle.clip_regions.specs.Regions.{IsWithin}
use Rattle.plan_model.specs.States.{Level, empty_level}
use Rattle.plan_model.specs.Steps.{moved_level}
use Rattle.plan_model.specs.Window.{window}
use Rattle.plan_model.specs.Sound.{IsSoundLevel}
use Rattle.plan_plain_steps.specs.Moves.{stays_for}
use Rattle.plan_plain_steps.specs.declared.moves.Viewer.{Viewer}
use Rattle.plan_plain_steps.proofs.Moved.{made_more, made_all, farther}
use Rattle.plan_plain_steps.proofs.Placed.{part_near}
use Rattle.plan_plain_steps.proofs.moves.move_levels.Goals as goal

abbrev moved : ℕ → Viewer → Viewer → List Level → ℕ → Level
moved k from to levels i = moved_level (stays_for k (length levels) from to i) (window k i to.x to.y) (slice_index_or levels i empty_level)

pub move_window-requires-clause-filled : goal.move_window-requires-clause-filled
move_window-requires-clause-filled c =
    let inside : c.loop-l.l < length c.loop-l.levels = omega (arith, c.loop-l-test.true, c.loop-l.auto.levels) in
    let there : c.loop-l.l < length c.args.levels.now = c.loop-l-test.true in
    let same : slice_index_or c.loop-l.levels c.loop-l.l c.index-levels-l.result ≡ slice_index_or c.args.levels.now c.loop-l.l empty_level = get_or_default c.loop-l.levels c.loop-l.l c.index-levels-l.result empty_level inside ∙ c.loop-l.invariant.rest c.loop-l.l (omega arith) in
    let sound : IsSoundLevel (2 ^ 63) (window c.args.k c.loop-l.l c.args.from.x c.args.from.y) (slice_index_or c.args.levels.now c.loop-l.l empty_level) = c.requires.sound c.loop-l.l there in
    let near : IsWithin (2 ^ 24) (window c.args.k c.loop-l.l c.args.from.x c.args.from.y) = c.windows_are_near.ensures c.args.k c.loop-l.l c.args.from.x c.args.from.y c.requires.k c.requires.from.column c.requires.from.row in
    subst (λ (level : Level). IsWithin (2 ^ 28) level.filled) (sym same) (farther (slice_index_or c.args.levels.now c.loop-l.l empty_level).filled (part_near (2 ^ 24) (window c.args.k c.loop-l.l c.args.from.x c.args.from.y) (slice_index_or c.args.levels.now c.loop-l.l empty_level).filled (omega arith) near sound.filled))

pub move_window-requires-clause-plan : goal.move_window-requires-clause-plan
move_window-requires-clause-plan c =
    let inside : c.loop-l.l < length c.loop-l.levels = omega (arith, c.loop-l-test.true, c.loop-l.auto.levels) in
    let there : c.loop-l.l < length c.args.levels.now = c.loop-l-test.true in
    let same : slice_index_or c.loop-l.levels c.loop-l.l c.index-levels-l.result ≡ slice_index_or c.args.levels.now c.loop-l.l empty_level = get_or_default c.loop-l.levels c.loop-l.l c.index-levels-l.result empty_level inside ∙ c.loop-l.invariant.rest c.loop-l.l (omega arith) in
    let sound : IsSoundLevel (2 ^ 63) (window c.args.k c.loop-l.l c.args.from.x c.args.from.y) (slice_index_or c.args.levels.now c.loop-l.l empty_level) = c.requires.sound c.loop-l.l there in
    let below : (slice_index_or c.args.levels.now c.loop-l.l empty_level).plan < 18446744073709551615 = omega (arith, sound.plan) in
    subst (λ (level : Level). level.plan < 18446744073709551615) (sym same) below

pub loop-l-preserved : goal.loop-l-preserved
loop-l-preserved c =
    let inside : c.loop-l.l < length c.loop-l.levels = omega (arith, c.loop-l-test.true, c.loop-l.auto.levels) in
    let same : slice_index_or c.loop-l.levels c.loop-l.l c.index-levels-l.result ≡ slice_index_or c.args.levels.now c.loop-l.l empty_level = get_or_default c.loop-l.levels c.loop-l.l c.index-levels-l.result empty_level inside ∙ c.loop-l.invariant.rest c.loop-l.l (omega arith) in
    let still : c.stays-still.result ≡ stays_for c.args.k (length c.args.levels.now) c.args.from c.args.to c.loop-l.l = search rules in
    let after : c.window-after.result ≡ window c.args.k c.loop-l.l c.args.to.x c.args.to.y = search rules in
    made_more (moved c.args.k c.args.from c.args.to c.args.levels.now) c.args.levels.now c.loop-l.levels c.loop-l.l c.move_window.new.self inside
    (c.move_window.ensures.value ∙ ap (λ (old : Level). moved_level c.stays-still.result c.window-after.result old) same ∙ ap (λ (b : Bool). moved_level b c.window-after.result (slice_index_or c.args.levels.now c.loop-l.l empty_level)) still ∙ ap (λ (r : Region). moved_level (stays_for c.args.k (length c.args.levels.now) c.args.from c.args.to c.loop-l.l) r (slice_index_or c.args.levels.now c.loop-l.l empty_level)) after)
    c.loop-l.invariant

pub returns : goal.returns
returns c = record {
  value = made_all (moved c.args.k c.args.from c.args.to c.args.levels.now) c.args.levels.now c.loop-l.levels c.loop-l.l (length c.args.levels.now) c.loop-l.auto.levels (omega (arith, c.loop-l-test.false)) c.loop-l.invariant;
}
