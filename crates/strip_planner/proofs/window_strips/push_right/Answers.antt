use Rattle.std.proofs.Common.{List, [], ◌∷◌, ◌++◌, ap, sym, ◌∙◌, arith}
use Rattle.std.proofs.lemmas.Int.{ints}
use Rattle.std.proofs.lemmas.List.{append-nil}
use Rattle.clip_regions.specs.declared.region.Region.{Region}
use Rattle.plan_model.specs.Strips.{right_of}
use Rattle.strip_planner.proofs.Sides.{right_kept, right_gone}
use Rattle.strip_planner.proofs.window_strips.push_right.Goals as goal
use Rattle.clip_regions.proofs.Cells.{same_corners}

pub returns-then-filled-window-clause-value : goal.returns-then-filled-window-clause-value
unfolding right_of
returns-then-filled-window-clause-value c =
    c.push.ensures ∙ ap (λ (s : Region). c.args.out.now ++ s ∷ []) (same_corners _ (right_of c.args.filled c.args.window) (omega (arith, ints)) (omega (arith, ints)) (omega (arith, ints)) (omega (arith, ints))) ∙ ap (λ (xs : List Region). c.args.out.now ++ xs) (sym (right_kept c.args.filled c.args.window c.requires.inside (omega (arith, ints))))

pub returns-else-filled-window-clause-value : goal.returns-else-filled-window-clause-value
returns-else-filled-window-clause-value c =
    sym (append-nil c.args.out.now) ∙ ap (λ (xs : List Region). c.args.out.now ++ xs) (sym (right_gone c.args.filled c.args.window c.requires.inside (omega (arith, ints))))
