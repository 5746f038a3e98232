use Rattle.std.proofs.Common.{List, [], ◌∷◌, ◌++◌, ap, sym, ◌∙◌, arith}
use Rattle.std.proofs.lemmas.Int.{ints}
use Rattle.std.proofs.lemmas.List.{append-nil}
use Rattle.clip_regions.specs.declared.region.Region.{Region}
use Rattle.plan_model.specs.Strips.{left_of}
use Rattle.strip_planner.proofs.Sides.{left_kept, left_gone}
use Rattle.strip_planner.proofs.window_strips.push_left.Goals as goal
use Rattle.clip_regions.proofs.Cells.{same_corners}

pub returns-then-window-filled-clause-value : goal.returns-then-window-filled-clause-value
unfolding left_of
returns-then-window-filled-clause-value c =
    c.push.ensures ∙ ap (λ (s : Region). c.args.out.now ++ s ∷ []) (same_corners _ (left_of c.args.filled c.args.window) (omega (arith, ints)) (omega (arith, ints)) (omega (arith, ints)) (omega (arith, ints))) ∙ ap (λ (xs : List Region). c.args.out.now ++ xs) (sym (left_kept c.args.filled c.args.window c.requires.inside (omega (arith, ints))))

pub returns-else-window-filled-clause-value : goal.returns-else-window-filled-clause-value
returns-else-window-filled-clause-value c =
    sym (append-nil c.args.out.now) ∙ ap (λ (xs : List Region). c.args.out.now ++ xs) (sym (left_gone c.args.filled c.args.window c.requires.inside (omega (arith, ints))))
