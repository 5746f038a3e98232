-- One more level at each turn: those that are left are still as they were.
use Rattle.std.proofs.Common.{◌≡◌, ◌<◌, ◌^◌, Bool, length, slice_index_or, ap, sym, ◌∙◌, subst, arith, rules}
use Rattle.std.proofs.lemmas.List.{get_or_default}
use Rattle.clip_regions.specs.declared.region.Region.{Region}
use Rattle.clip_regions.specs.Regions.{IsWithin}
use Rattle.plan_model.specs.Window.{window}
use Rattle.book_plan.specs.Slots.{Shelf, empty_shelf}
use Rattle.book_plan.specs.Moves.{stays_for, used_for, moved_shelf, moved_from}
use Rattle.book_plan.proofs.Moved.{made_more, made_all}
use Rattle.book_plan.proofs.moves.move_levels.Goals as goal

pub move_level-requires-clause-filled : goal.move_level-requires-clause-filled
move_level-requires-clause-filled c =
    let inside : c.loop-l.l < length c.loop-l.levels = omega (arith, c.loop-l-test.true, c.loop-l.auto.levels) in
    let same : slice_index_or c.loop-l.levels c.loop-l.l c.index-levels-l.result ≡ slice_index_or c.args.levels.now c.loop-l.l empty_shelf = get_or_default c.loop-l.levels c.loop-l.l c.index-levels-l.result empty_shelf inside ∙ c.loop-l.invariant.rest c.loop-l.l (omega arith) in
    subst (λ (shelf : Shelf). IsWithin (2 ^ 28) shelf.filled) (sym same) (c.requires.placed c.loop-l.l c.loop-l-test.true)

pub move_level-requires-clause-plan : goal.move_level-requires-clause-plan
move_level-requires-clause-plan c =
    let inside : c.loop-l.l < length c.loop-l.levels = omega (arith, c.loop-l-test.true, c.loop-l.auto.levels) in
    let same : slice_index_or c.loop-l.levels c.loop-l.l c.index-levels-l.result ≡ slice_index_or c.args.levels.now c.loop-l.l empty_shelf = get_or_default c.loop-l.levels c.loop-l.l c.index-levels-l.result empty_shelf inside ∙ c.loop-l.invariant.rest c.loop-l.l (omega arith) in
    subst (λ (shelf : Shelf). shelf.plan < 18446744073709551615) (sym same) (c.requires.plans c.loop-l.l c.loop-l-test.true)

pub loop-l-preserved : goal.loop-l-preserved
loop-l-preserved c =
    let inside : c.loop-l.l < length c.loop-l.levels = omega (arith, c.loop-l-test.true, c.loop-l.auto.levels) in
    let same : slice_index_or c.loop-l.levels c.loop-l.l c.index-levels-l.result ≡ slice_index_or c.args.levels.now c.loop-l.l empty_shelf = get_or_default c.loop-l.levels c.loop-l.l c.index-levels-l.result empty_shelf inside ∙ c.loop-l.invariant.rest c.loop-l.l (omega arith) in
    let still : c.stays-still.result ≡ stays_for c.args.k (length c.args.levels.now) c.args.from c.args.to c.loop-l.l = search rules in
    let used : c.is_used-used.result ≡ used_for c.args.k (length c.args.levels.now) c.args.to c.loop-l.l = search rules in
    let after : c.roomy_window-after.result ≡ window c.args.k c.loop-l.l c.args.to.x c.args.to.y = search rules in
    made_more (moved_from c.args.k c.args.from c.args.to c.args.levels.now) c.args.levels.now c.loop-l.levels c.loop-l.l c.move_level.new.level inside
    (c.move_level.ensures ∙ ap (λ (old : Shelf). moved_shelf c.stays-still.result c.is_used-used.result c.roomy_window-after.result old) same ∙ ap (λ (b : Bool). moved_shelf b c.is_used-used.result c.roomy_window-after.result (slice_index_or c.args.levels.now c.loop-l.l empty_shelf)) still ∙ ap (λ (b : Bool). moved_shelf (stays_for c.args.k (length c.args.levels.now) c.args.from c.args.to c.loop-l.l) b c.roomy_window-after.result (slice_index_or c.args.levels.now c.loop-l.l empty_shelf)) used ∙ ap (λ (r : Region). moved_shelf (stays_for c.args.k (length c.args.levels.now) c.args.from c.args.to c.loop-l.l) (used_for c.args.k (length c.args.levels.now) c.args.to c.loop-l.l) r (slice_index_or c.args.levels.now c.loop-l.l empty_shelf)) after)
    c.loop-l.invariant

pub returns : goal.returns
returns c =
    made_all (moved_from c.args.k c.args.from c.args.to c.args.levels.now) c.args.levels.now c.loop-l.levels c.loop-l.l (length c.args.levels.now) c.loop-l.auto.levels (omega (arith, c.loop-l-test.false)) c.loop-l.invariant
