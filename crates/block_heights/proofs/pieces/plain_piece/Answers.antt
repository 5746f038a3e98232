use Rattle.std.proofs.Common.{◌≡◌, ◌*◌, ◌∙◌, ℕ, sym, ap, subst}
use mathlib.Core.Path.{ap₂}
use Rattle.clip_regions.specs.Regions.{area}
use Rattle.store_model.specs.Faults.{HasPlainFault}
use Rattle.block_heights.proofs.Parts.{area_is}
use Rattle.block_heights.proofs.pieces.plain_piece.Goals as goal

pub returns-in-Some-clause-fault : goal.returns-in-Some-clause-fault
returns-in-Some-clause-fault c =
    let e = c.sides_of-sides.ensures in
    let cells : c.sides_of-sides.result.columns * c.sides_of-sides.result.rows ≡ area c.args.inside = ap₂ (λ (m n : ℕ). m * n) e.columns e.rows ∙ sym (area_is c.args.inside) in
    subst (λ (n : ℕ). HasPlainFault n c.args.bytes.now c.in-Some.fault) cells c.in-Some.ensures.fault

pub returns-then-not-is_empty-clause-whole : goal.returns-then-not-is_empty-clause-whole
returns-then-not-is_empty-clause-whole c =
    let e = c.sides_of-sides.ensures in
    let cells : c.sides_of-sides.result.columns * c.sides_of-sides.result.rows ≡ area c.args.inside = ap₂ (λ (m n : ℕ). m * n) e.columns e.rows ∙ sym (area_is c.args.inside) in
    (c.in_default.ensures {u = tt}).whole ∙ ap (λ (n : ℕ). 2 * n) cells

pub returns-else-not-is_empty-clause-whole : goal.returns-else-not-is_empty-clause-whole
returns-else-not-is_empty-clause-whole c =
    let e = c.sides_of-sides.ensures in
    let cells : c.sides_of-sides.result.columns * c.sides_of-sides.result.rows ≡ area c.args.inside = ap₂ (λ (m n : ℕ). m * n) e.columns e.rows ∙ sym (area_is c.args.inside) in
    (c.in_default.ensures {u = tt}).whole ∙ ap (λ (n : ℕ). 2 * n) cells
