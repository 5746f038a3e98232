-- One move more is the next leg of the flight.
use Rattle.std.proofs.Common.{◌≡◌, ◌+◌, ◌*◌, ◌++◌, arith, rules, sym, ap, ◌∙◌, subst, All}
use mathlib.Core.Path.{ap₂}
use Rattle.clip_script.specs.Ranges.{IsFlown}
use Rattle.demo_flight.specs.Generator.{next_state, state_after}
use Rattle.demo_flight.specs.Demo.{demo_lines, leg, leg_to, lines_after, moved}
use Rattle.demo_flight.proofs.flight.draw_lines.Goals as goal
use Rattle.demo_flight.proofs.Draws.{lines_are_flown, no_move, one_column, one_draw, one_move, one_row, start_column, start_row}

pub loop-moves-init : goal.loop-moves-init
loop-moves-init c =
    (search (rules, no_move), c.requires, start_column c.args.seed, start_row c.args.seed, omega arith, omega arith)

pub moved-y-requires-clause-state : goal.moved-y-requires-clause-state
moved-y-requires-clause-state c =
    let moves = c.loop-moves.moves in
    let one : 1443077 + 2 * moves + 1 ≡ 1443077 + (2 * moves + 1) = omega arith in
    c.moved-x.ensures.next ∙ ap next_state c.loop-moves.invariant.1 ∙ sym (one_draw c.args.seed (1443077 + 2 * moves)) ∙ ap (state_after c.args.seed) one

pub loop-moves-preserved : goal.loop-moves-preserved
unfolding leg
loop-moves-preserved c =
    let mid : 1443077 + 2 * c.loop-moves.moves + 1 ≡ 1443077 + (2 * c.loop-moves.moves + 1) = omega arith in
    let second = c.moved-x.ensures.next ∙ ap next_state c.loop-moves.invariant.1 ∙ sym (one_draw c.args.seed (1443077 + 2 * c.loop-moves.moves)) ∙ ap (state_after c.args.seed) mid in
    let moves = c.loop-moves.moves in
    let seed = c.args.seed in
    let one : 1443077 + (2 * moves + 1) + 1 ≡ 1443077 + 2 * (moves + 1) = omega arith in
    let x = c.moved-x.ensures.value ∙ ap (moved seed (2 * moves)) c.loop-moves.invariant.2 ∙ sym (one_column seed moves) in
    let y = c.moved-y.ensures.value ∙ ap (moved seed (2 * moves + 1)) c.loop-moves.invariant.3 ∙ sym (one_row seed moves) in (
      c.in_ok-add_leg.ensures.lines ∙ ap₂ (λ a b. a ++ b) c.loop-moves.invariant.0 (ap₂ leg_to x y) ∙ sym (one_move seed moves),
      c.moved-y.ensures.next ∙ ap next_state second ∙ sym (one_draw seed (1443077 + (2 * moves + 1))) ∙ ap (state_after seed) one,
      x,
      y,
      c.moved-x.ensures.small,
      c.moved-y.ensures.small,
    )

pub returns-clause-lines : goal.returns-clause-lines
unfolding demo_lines
returns-clause-lines c =
    let e : c.loop-moves.moves ≡ 64 = omega arith in
    c.loop-moves.invariant.0 ∙ ap (lines_after c.args.seed) e

pub returns-clause-ranges : goal.returns-clause-ranges
returns-clause-ranges c =
    subst (All IsFlown) (sym c.loop-moves.invariant.0) (lines_are_flown c.args.seed c.loop-moves.moves)
