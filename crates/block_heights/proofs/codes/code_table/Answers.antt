use Rattle.std.proofs.Common.{◌≡◌, ◌<◌, ◌≤◌, ◌+◌, ◌∙◌, ℕ, ℤ, List, length, take, drop, ap, subst, arith, length-set}
use Rattle.std.proofs.lemmas.List.{take_rest, take_all}
use Rattle.block_heights.specs.Rows.{row_values, table_values, coded_before, IsCodeRow, HasCodes}
use Rattle.block_heights.proofs.CodedRows.{before_more, before_mono, table_more, rows_more, rest_length, all_residuals_below}
use Rattle.block_heights.proofs.codes.code_table.Goals as goal

pub offset_bounds-values-at : goal.offset_bounds-values-at
offset_bounds-values-at c =
    let i = c.loop-b.invariant in
    let r = c.requires in
    let all = before_mono c.args.region c.args.sides.columns c.loop-b.b c.args.sides.rows (omega arith) in
    omega arith

pub slice_bounds-code_row-count : goal.slice_bounds-code_row-count
slice_bounds-code_row-count c =
    let i = c.loop-b.invariant in
    let r = c.requires in
    let all = before_mono c.args.region c.args.sides.columns c.loop-b.b c.args.sides.rows (omega arith) in
    omega arith

pub slice_bounds-code_row-start : goal.slice_bounds-code_row-start
slice_bounds-code_row-start c =
    let i = c.loop-b.invariant in
    let r = c.requires in
    let all = before_mono c.args.region c.args.sides.columns c.loop-b.b c.args.sides.rows (omega arith) in
    omega arith

pub code_row-row-requires-clause-enough : goal.code_row-row-requires-clause-enough
code_row-row-requires-clause-enough c =
    let i = c.loop-b.invariant in
    let r = c.requires in
    let more = before_more c.args.region c.args.sides.columns c.loop-b.b in
    let all = before_mono c.args.region c.args.sides.columns (c.loop-b.b + 1) c.args.sides.rows (omega arith) in
    let left = rest_length c.args.values.now c.loop-b.at (omega arith) in
    omega arith

pub code_row-row-requires-clause-in_range : goal.code_row-row-requires-clause-in_range
code_row-row-requires-clause-in_range c =
    rw (take_rest c.args.values.now c.loop-b.at) (all_residuals_below c.args.values.now c.loop-b.at c.requires.in_range)

pub loop-b-preserved : goal.loop-b-preserved
loop-b-preserved c =
    let i = c.loop-b.invariant in
    let r = c.requires in
    let region = c.args.region in
    let columns = c.args.sides.columns in
    let n = c.loop-b.b in
    let values = c.args.values.now in
    let row = c.code_row-row in
    let more = before_more region columns n in
    let all = before_mono region columns (n + 1) c.args.sides.rows (omega arith) in
    let used_is = row.ensures.used in
    let eight = i.whole in
    let inside : n < length c.loop-b.table = omega arith in
    let enough : c.loop-b.at + row.result.used ≤ length values = omega arith in
    let codes : row_values region n columns row.result.codes ≡ take row.result.used (drop c.loop-b.at values) =
    row.ensures.codes ∙ ap (take row.result.used) (take_rest values c.loop-b.at) in
    record {
      whole = length-set c.loop-b.table n row.result.codes ∙ i.whole;
      used = omega arith;
      codes = table_more region columns n c.loop-b.at row.result.used values row.result.codes c.loop-b.table inside enough codes i.codes;
      even = rows_more (IsCodeRow region) n c.loop-b.table row.result.codes inside row.ensures.even i.even;
      in_range = rows_more (λ (k : ℕ) (xs : List ℤ). HasCodes xs) n c.loop-b.table row.result.codes inside row.ensures.in_range i.in_range;
    }

pub returns-clause-codes : goal.returns-clause-codes
returns-clause-codes c =
    let i = c.loop-b.invariant in
    let region = c.args.region in
    let columns = c.args.sides.columns in
    let values = c.args.values.now in
    let all : c.loop-b.b ≡ c.args.sides.rows = omega arith in
    let count : length values ≡ coded_before region columns c.args.sides.rows = c.requires.count in
    let whole : coded_before region columns c.loop-b.b ≡ coded_before region columns c.args.sides.rows = ap (coded_before region columns) all in
    let used = i.used in
    subst (λ (n : ℕ). table_values region columns n c.loop-b.table ≡ values) all (i.codes ∙ take_all c.loop-b.at values (omega arith))
