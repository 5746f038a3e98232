use Rattle.std.proofs.Common.{◌≡◌, length, arith, ap, ◌∙◌, subst}
use Rattle.clip_book.specs.Books.{BookView}
use Rattle.clip_runs.proofs.Settles.{IsDown, down_start, down_more, down_end}
use Rattle.clip_runs.proofs.settling.publish_ripe.Goals as goal

pub loop-level-init : goal.loop-level-init
loop-level-init g c =
    down_start c.args.desk.now c.levels-levels.result (c.levels-levels.ensures ∙ ap (λ (v : BookView). length v.plan.state.levels) c.book.ensures)

pub publish_if_ripe-requires-clause-level : goal.publish_if_ripe-requires-clause-level
publish_if_ripe-requires-clause-level g c =
    let count : c.levels-levels.result ≡ length c.args.desk.now.plan.state.levels = c.levels-levels.ensures ∙ ap (λ (v : BookView). length v.plan.state.levels) c.book.ensures in
    omega (arith, count, c.loop-level-test.true, c.loop-level.auto.level, c.loop-level.invariant.stays.levels)

pub loop-level-preserved : goal.loop-level-preserved
loop-level-preserved g c =
    let count : c.levels-levels.result ≡ length c.args.desk.now.plan.state.levels = c.levels-levels.ensures ∙ ap (λ (v : BookView). length v.plan.state.levels) c.book.ensures in
    down_more c.args.desk.now c.loop-level.desk c.publish_if_ripe.new.desk c.loop-level.level c.loop-level-test.true (omega (arith, count, c.loop-level.auto.level))
    c.loop-level.invariant c.publish_if_ripe.ensures.state c.publish_if_ripe.ensures.stays

pub returns-clause-state : goal.returns-clause-state
returns-clause-state g c =
    let at_end : c.loop-level.level ≡ 0 = omega arith in
    down_end c.args.desk.now c.loop-level.desk (subst (IsDown c.args.desk.now c.loop-level.desk) at_end c.loop-level.invariant)
