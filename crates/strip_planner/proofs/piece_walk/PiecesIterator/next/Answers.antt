-- Nothing is left; the last piece of a row; one more piece of a row.
use Rattle.std.proofs.Common.{◌≡◌, ◌-◌, ℤ, pos, ◌+ℤ◌, [], ◌∷◌, length, ap, sym, ◌∙◌, rules, arith}
use Rattle.std.proofs.lemmas.Int.{ints}
use mathlib.Core.Path.{ap₂}
use mir.Syntax.{w32}
use mir.Val.{of_z, to_z}
use Rattle.plan_model.specs.Strips.{piece_in}
use Rattle.plan_model.specs.declared.tiles.Piece.{Piece}
use Rattle.strip_planner.proofs.Walks.{left, left_none, left_more, left_turn}
use Rattle.strip_planner.proofs.piece_walk.PiecesIterator.next.Goals as goal
use Rattle.strip_planner.proofs.piece_walk.PiecesIterator.next.Goals.{else-self-eq1-via-then-self-eq1+else-self-gt0, else-self-eq1-via-else-self-eq1}

pub returns-then-self-eq0-clause-steps : goal.returns-then-self-eq0-clause-steps
unfolding left
returns-then-self-eq0-clause-steps c =
    let s = c.self.inside in
    let none : c.args.self.now ≡ [] = sym c.self.view_is ∙ left_none s.strip s.first s.columns s.bx s.by s.row_left s.rows_left c.if-self-eq0.true (c.self.invariant.ended c.if-self-eq0.true) in
    (none, none)

pub returns-then-self-gt0-clause-steps : goal.returns-then-self-gt0-clause-steps
unfolding left
returns-then-self-gt0-clause-steps c =
    let s = c.self.inside in
    let bx : to_z w32 (of_z w32 c.self.inside.bx) ≡ c.self.inside.bx = omega (arith, ints) in
    let by : to_z w32 (of_z w32 c.self.inside.by) ≡ c.self.inside.by = omega (arith, ints) in
    let first : to_z w32 (of_z w32 c.self.inside.first) ≡ c.self.inside.first = omega (arith, ints) in
    let piece : c.piece_in-piece.result ≡ piece_in c.self.inside.strip c.self.inside.bx c.self.inside.by = c.piece_in-piece.ensures ∙ ap₂ (piece_in c.self.inside.strip) bx by in
    sym c.self.view_is ∙ left_turn s.strip s.first s.columns s.bx s.by (to_z w32 (of_z w32 (to_z w32 (of_z w32 c.self.inside.by) +ℤ pos 1))) s.row_left s.rows_left (s.rows_left - 1) c.if-self-eq1.true (omega arith) (omega (arith, ints)) ∙ ap₂ (λ (p : Piece) (f : ℤ). p ∷ left s.strip s.first s.columns f (to_z w32 (of_z w32 (to_z w32 (of_z w32 c.self.inside.by) +ℤ pos 1))) s.columns (s.rows_left - 1)) (sym piece) (sym first)

pub returns-then-self-gt0-clause-goes : goal.returns-then-self-gt0-clause-goes
returns-then-self-gt0-clause-goes c =
    let fewer = ap length (returns-then-self-gt0-clause-steps c) in
    search rules

pub invariant_of-self-2 : goal.invariant_of-self-2
invariant_of-self-2 c = record {
  region = c.self.invariant.region;
  columns_near = c.self.invariant.columns_near;
  row_near = record { low = omega (arith, ints); high = omega (arith, ints) };
  rows_near = c.self.invariant.rows_near;
  some = c.self.invariant.some;
  ended = λ e. elim c.else-self-eq1.branch [
    | else-self-eq1-via-then-self-eq1+else-self-gt0 w ↦ omega (arith, w.if-self-gt0.false)
    | else-self-eq1-via-else-self-eq1 w ↦ absurd (omega (arith, w.if-self-eq1.false))
  ];
}

pub returns-clause-steps : goal.returns-clause-steps
unfolding left
returns-clause-steps c =
    let s = c.self.inside in
    let bx : to_z w32 (of_z w32 c.self.inside.bx) ≡ c.self.inside.bx = omega (arith, ints) in
    let by : to_z w32 (of_z w32 c.self.inside.by) ≡ c.self.inside.by = omega (arith, ints) in
    let piece : c.piece_in-piece.result ≡ piece_in c.self.inside.strip c.self.inside.bx c.self.inside.by = c.piece_in-piece.ensures ∙ ap₂ (piece_in c.self.inside.strip) bx by in
    sym c.self.view_is ∙ left_more s.strip s.first s.columns s.bx s.by (to_z w32 (of_z w32 (to_z w32 (of_z w32 c.self.inside.bx) +ℤ pos 1))) s.row_left (s.row_left - 1) s.rows_left (omega arith) (omega (arith, ints)) ∙ ap (λ (p : Piece). p ∷ left s.strip s.first s.columns (to_z w32 (of_z w32 (to_z w32 (of_z w32 c.self.inside.bx) +ℤ pos 1))) s.by (s.row_left - 1) s.rows_left) (sym piece)

pub returns-clause-goes : goal.returns-clause-goes
returns-clause-goes c =
    let fewer = ap length (returns-clause-steps c) in
    search rules
