use Rattle.std.proofs.Common.{◌≡◌, take, fold, pos, get_or, ap, ◌∙◌, arith, rules, ⊎_elim}
use mir.Val.{SFits, to_z}
use Rattle.std.specs.Int.{w16}
use Rattle.std.proofs.lemmas.Bool.{cases_eq}
use Rattle.std.specs.Int.{int_min, int_max}
use Rattle.std.proofs.lemmas.Int.{to_z-of_z}
use Rattle.std.proofs.lemmas.List.{take_all, get_or_default}
use Rattle.std.proofs.lemmas.List.Sums.{fold_more}
use Rattle.height_pyramid.proofs.ExtremeLemmas.{least_by_fold, greatest_by_fold}
use Rattle.height_pyramid.proofs.extremes.extremes_of.Goals as goal

pub loop-height-preserved : goal.loop-height-preserved
loop-height-preserved c = record {
  least = grind (arith, to_z-of_z, fold_more);
  most = grind (arith, to_z-of_z, fold_more);
  short = λ k d h.
      let xs = c.args.heights.now in
      let index = c.loop-height.height-index in
      let at_zero : SFits w16 (get_or xs index (pos 0)) = search rules in
      let here : SFits w16 (get_or xs index d) = rw (get_or_default xs index d (pos 0) c.loop-height-test.true) at_zero in
      ⊎_elim
      (λ (at_index : k ≡ c.loop-height.height-index). rw at_index here)
      (λ (other : k ≡ c.loop-height.height-index → ⊥). c.loop-height.invariant.short k d (omega arith))
      (cases_eq k c.loop-height.height-index);
}

pub returns-clause-least : goal.returns-clause-least
returns-clause-least c =
    let xs = c.args.heights.now in
    let all : take c.loop-height.height-index xs ≡ xs = take_all c.loop-height.height-index xs (omega arith) in
    least_by_fold xs (to_z w16 c.loop-height.least-bits) c.requires (c.loop-height.invariant.least ∙ ap (fold int_min (get_or xs 0 (pos 0))) all)

pub returns-clause-most : goal.returns-clause-most
returns-clause-most c =
    let xs = c.args.heights.now in
    let all : take c.loop-height.height-index xs ≡ xs = take_all c.loop-height.height-index xs (omega arith) in
    greatest_by_fold xs (to_z w16 c.loop-height.most-bits) c.requires (c.loop-height.invariant.most ∙ ap (fold int_max (get_or xs 0 (pos 0))) all)
