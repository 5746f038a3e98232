use Rattle.std.proofs.Common.{List, [], ◌∷◌, ◌++◌, ap, sym, ◌∙◌, arith}
use Rattle.std.proofs.lemmas.Int.{ints}
use Rattle.std.proofs.lemmas.List.{append-nil}
use Rattle.clip_regions.specs.declared.region.Region.{Region}
use Rattle.plan_model.specs.Strips.{below}
use Rattle.strip_planner.proofs.Sides.{below_kept, below_gone}
use Rattle.strip_planner.proofs.window_strips.push_below.Goals as goal
use Rattle.clip_regions.proofs.Cells.{same_corners}

pub returns-then-filled-window-clause-value : goal.returns-then-filled-window-clause-value
unfolding below
returns-then-filled-window-clause-value c =
    c.push.ensures ∙ ap (λ (s : Region). c.args.out.now ++ s ∷ []) (same_corners _ (below c.args.filled c.args.window) (omega (arith, ints)) (omega (arith, ints)) (omega (arith, ints)) (omega (arith, ints))) ∙ ap (λ (xs : List Region). c.args.out.now ++ xs) (sym (below_kept c.args.filled c.args.window c.requires.inside (omega (arith, ints))))

pub returns-else-filled-window-clause-value : goal.returns-else-filled-window-clause-value
returns-else-filled-window-clause-value c =
    sym (append-nil c.args.out.now) ∙ ap (λ (xs : List Region). c.args.out.now ++ xs) (sym (below_gone c.args.filled c.args.window c.requires.inside (omega (arith, ints))))
