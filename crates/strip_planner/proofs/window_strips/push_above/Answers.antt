use Rattle.std.proofs.Common.{List, [], ◌∷◌, ◌++◌, ap, sym, ◌∙◌, arith}
use Rattle.std.proofs.lemmas.Int.{ints}
use Rattle.std.proofs.lemmas.List.{append-nil}
use Rattle.clip_regions.specs.declared.region.Region.{Region}
use Rattle.plan_model.specs.Strips.{above}
use Rattle.strip_planner.proofs.Sides.{above_kept, above_gone}
use Rattle.strip_planner.proofs.window_strips.push_above.Goals as goal
use Rattle.clip_regions.proofs.Cells.{same_corners}

pub returns-then-window-filled-clause-value : goal.returns-then-window-filled-clause-value
unfolding above
returns-then-window-filled-clause-value c =
    c.push.ensures ∙ ap (λ (s : Region). c.args.out.now ++ s ∷ []) (same_corners _ (above c.args.filled c.args.window) (omega (arith, ints)) (omega (arith, ints)) (omega (arith, ints)) (omega (arith, ints))) ∙ ap (λ (xs : List Region). c.args.out.now ++ xs) (sym (above_kept c.args.filled c.args.window c.requires.inside (omega (arith, ints))))

pub returns-else-window-filled-clause-value : goal.returns-else-window-filled-clause-value
returns-else-window-filled-clause-value c =
    sym (append-nil c.args.out.now) ∙ ap (λ (xs : List Region). c.args.out.now ++ xs) (sym (above_gone c.args.filled c.args.window c.requires.inside (omega (arith, ints))))
