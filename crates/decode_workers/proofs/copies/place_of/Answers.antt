use Rattle.std.proofs.Common.{ℕ, ◌≤◌, pos, ◌+ℤ◌, w32, sym, ◌∙◌, subst, arith, rules}
use Rattle.std.specs.Int.{int_gap}
use Rattle.std.proofs.lemmas.Int.{to_z-of_z}
use Rattle.clip_regions.specs.Regions.{columns}
use Rattle.decode_workers.proofs.Copying.{few_cells}
use Rattle.decode_workers.proofs.copies.place_of.Goals as goal
use mir.Val.{SFits}

pub overflow_mul-result : goal.overflow_mul-result
unfolding columns
overflow_mul-result c =
    let f0 : SFits w32 c.args.region.x0 = search rules in
    let f1 : SFits w32 c.args.region.x1 = search rules in
    let is = c.span.ensures.value ∙ (λ t. int_gap (to_z-of_z w32 c.args.region.x0 f0 t) (to_z-of_z w32 c.args.region.x1 f1 t +ℤ pos 1)) in
    let across = subst (λ (n : ℕ). n ≤ 255) (sym is) c.requires.region.few_columns in
    record { fits = omega (arith, few_cells c.span.result c.before-2.result across c.before-2.ensures.few) }

pub overflow_add-result : goal.overflow_add-result
unfolding columns
overflow_add-result c =
    let f0 : SFits w32 c.args.region.x0 = search rules in
    let f1 : SFits w32 c.args.region.x1 = search rules in
    let is = c.span.ensures.value ∙ (λ t. int_gap (to_z-of_z w32 c.args.region.x0 f0 t) (to_z-of_z w32 c.args.region.x1 f1 t +ℤ pos 1)) in
    let across = subst (λ (n : ℕ). n ≤ 255) (sym is) c.requires.region.few_columns in
    let more = c.before-3.ensures.few in
    record { fits = omega (arith, few_cells c.span.result c.before-2.result across c.before-2.ensures.few, more) }
