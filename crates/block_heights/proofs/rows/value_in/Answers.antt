use Rattle.std.proofs.Common.{◌+◌, ◌*ℤ◌, ◌+ℤ◌, ◌≤ℤ◌, ◌<ℤ◌, ◌∙◌, ◌^◌, neg_ℤ, ℤ, pos, get_or, sym, subst}
use Rattle.std.specs.Int.{w32}
use Rattle.std.proofs.lemmas.Int.{to_z-of_z}
use mathlib.Core.Path.{ap₂}
use Rattle.four_point.specs.Patches.{IsAtMost}
use Rattle.block_heights.proofs.CodedRows.{residual_fits}
use Rattle.block_heights.proofs.WholeRows.{small_fits}
use Rattle.block_heights.proofs.rows.value_in.Goals as goal

pub value_by-requires-clause-prediction : goal.value_by-requires-clause-prediction
value_by-requires-clause-prediction c =
    let k = c.args.row.now.before + c.args.a in
    let small = c.requires.sizes k in
    subst (IsAtMost 51200) (sym (to_z-of_z w32 (get_or c.args.row.now.predicted k (pos 0)) (small_fits _ small))) small

pub value_by-requires-clause-low : goal.value_by-requires-clause-low
value_by-requires-clause-low c =
    let fits = c.requires.in_range c.args.a in
    subst (λ (x : ℤ). neg_ℤ (pos (2 ^ 17)) ≤ℤ x) (sym (to_z-of_z w32 (get_or c.args.row.now.codes c.args.a (pos 0)) (residual_fits _ fits))) fits.0

pub value_by-requires-clause-high : goal.value_by-requires-clause-high
value_by-requires-clause-high c =
    let fits = c.requires.in_range c.args.a in
    subst (λ (x : ℤ). x <ℤ pos (2 ^ 17)) (sym (to_z-of_z w32 (get_or c.args.row.now.codes c.args.a (pos 0)) (residual_fits _ fits))) fits.1

pub returns-clause-value : goal.returns-clause-value
returns-clause-value c =
    let k = c.args.row.now.before + c.args.a in
    let x = get_or c.args.row.now.predicted k (pos 0) in
    let y = get_or c.args.row.now.codes c.args.a (pos 0) in
    to_z-of_z w32 c.value_by.result (record { sfits = c.value_by.type_inv })
    ∙ c.value_by.ensures.value
    ∙ ap₂ (λ (p q : ℤ). p +ℤ pos c.args.row.now.step *ℤ q) (to_z-of_z w32 x (small_fits x (c.requires.sizes k))) (to_z-of_z w32 y (residual_fits y (c.requires.in_range c.args.a)))

pub returns-clause-size : goal.returns-clause-size
returns-clause-size c =
    subst (IsAtMost 33474560) (sym (to_z-of_z w32 c.value_by.result (record { sfits = c.value_by.type_inv }))) c.value_by.ensures.size
