use Rattle.std.proofs.Common.{◌≡◌, ◌≤◌, ◌∙◌, ℕ, length, take, sym, ap, subst, arith}
use Rattle.std.proofs.lemmas.List.{length-take-le}
use Rattle.std.proofs.lemmas.List.Elements.{All-take}
use Rattle.rice_residuals.specs.Code.{IsResidual}
use Rattle.block_heights.specs.Rows.{row_values, IsCodeRow, HasCodes}
use Rattle.block_heights.proofs.WholeCodes.{full_used, full_values, full_even, codes_of_all, half_used, half_values, half_even, half_codes}
use Rattle.block_heights.proofs.codes.whole_row.Goals as goal

pub full_row-requires : goal.full_row-requires
full_row-requires c =
    let first = sym c.is_coded_in.ensures ∙ c.if-is_coded_in.true in
    let all = full_used c.args.region c.args.b first c.requires.second in
    omega (arith, all, c.requires.enough)

pub returns-then-is_coded_in-clause-used : goal.returns-then-is_coded_in-clause-used
returns-then-is_coded_in-clause-used c =
    let first = sym c.is_coded_in.ensures ∙ c.if-is_coded_in.true in
    c.full_row.ensures.used ∙ sym (full_used c.args.region c.args.b first c.requires.second)

pub returns-then-is_coded_in-clause-codes : goal.returns-then-is_coded_in-clause-codes
returns-then-is_coded_in-clause-codes c =
    let region = c.args.region in
    let values = c.args.values.now in
    let first = sym c.is_coded_in.ensures ∙ c.if-is_coded_in.true in
    let all = full_used region c.args.b first c.requires.second in
    let enough : 8 ≤ length values = omega (arith, all, c.requires.enough) in
    let eight : length c.full_row.result.codes ≡ 8 = ap length c.full_row.ensures.codes ∙ length-take-le 8 values enough in
    full_values region c.args.b c.full_row.result.codes first c.requires.second eight
    ∙ c.full_row.ensures.codes
    ∙ ap (λ (n : ℕ). take n values) (sym c.full_row.ensures.used)

pub returns-then-is_coded_in-clause-even : goal.returns-then-is_coded_in-clause-even
returns-then-is_coded_in-clause-even c =
    let first = sym c.is_coded_in.ensures ∙ c.if-is_coded_in.true in
    full_even c.args.region c.args.b c.full_row.result.codes first c.requires.second

pub returns-then-is_coded_in-clause-in_range : goal.returns-then-is_coded_in-clause-in_range
returns-then-is_coded_in-clause-in_range c =
    subst HasCodes (sym c.full_row.ensures.codes)
    (codes_of_all (take 8 c.args.values.now) (All-take IsResidual 8 c.args.values.now c.requires.in_range))

pub half_row-requires-clause-enough : goal.half_row-requires-clause-enough
half_row-requires-clause-enough c =
    let first = sym c.is_coded_in.ensures ∙ c.if-is_coded_in.false in
    let some = half_used c.args.region c.args.b first c.requires.second in
    omega (arith, some, c.requires.enough)

pub returns-clause-used : goal.returns-clause-used
returns-clause-used c =
    let first = sym c.is_coded_in.ensures ∙ c.if-is_coded_in.false in
    c.half_row.ensures.used ∙ sym (half_used c.args.region c.args.b first c.requires.second)

pub returns-clause-codes : goal.returns-clause-codes
returns-clause-codes c =
    let region = c.args.region in
    let values = c.args.values.now in
    let first = sym c.is_coded_in.ensures ∙ c.if-is_coded_in.false in
    let some = half_used region c.args.b first c.requires.second in
    let enough : 4 ≤ length values = omega (arith, some, c.requires.enough) in
    ap (row_values region c.args.b 8) c.half_row.ensures.codes
    ∙ half_values region c.args.b values first c.requires.second enough
    ∙ ap (λ (n : ℕ). take n values) (sym c.half_row.ensures.used)

pub returns-clause-even : goal.returns-clause-even
returns-clause-even c =
    subst (IsCodeRow c.args.region c.args.b) (sym c.half_row.ensures.codes)
    (half_even c.args.region c.args.b c.args.values.now c.requires.second)

pub returns-clause-in_range : goal.returns-clause-in_range
returns-clause-in_range c =
    let first = sym c.is_coded_in.ensures ∙ c.if-is_coded_in.false in
    let some = half_used c.args.region c.args.b first c.requires.second in
    let enough : 4 ≤ length c.args.values.now = omega (arith, some, c.requires.enough) in
    subst HasCodes (sym c.half_row.ensures.codes) (half_codes c.args.values.now enough c.requires.in_range)
