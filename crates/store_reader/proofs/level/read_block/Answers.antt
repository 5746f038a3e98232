use Rattle.std.proofs.Common.{◌≡◌, ◌∙◌, ◌+◌, ◌*◌, ◌≤◌, ℕ, min, sym, subst, arith, rules, length}
use Rattle.std.proofs.lemmas.List.{length-take-le}
use Rattle.std.proofs.lemmas.Result.{err_from_is_err_and}
use mathlib.Core.Path.{ap₂}
use Rattle.store_model.specs.Sizes.{cells_on}
use Rattle.store_reader.specs.Headers.{head_of}
use Rattle.store_reader.specs.Tables.{AreRowsIn, IsKeptOutside, behind_cells}
use Rattle.store_reader.specs.Reading.{cells_above}
use Rattle.store_reader.proofs.LevelLemmas.{columns_fit, rows_fit, span_area, few_cells, band_rows, top_is, block_read, fault_of}
use Rattle.store_reader.proofs.PlaceLemmas.{cells_below}
use Rattle.store_reader.proofs.level.read_block.Goals as goal

pub decode-requires-clause-places : goal.decode-requires-clause-places
decode-requires-clause-places c =
    let span = c.span_of-span.result in
    length-take-le (span.width * span.rows) _ (few_cells span.width span.rows c.span_of-span.ensures.few_columns c.span_of-span.ensures.few_rows)
    ∙ span_area c.place_of-place.result.cells span c.span_of-span.ensures.span

pub returns-in_err-decode-clause-fault : goal.returns-in_err-decode-clause-fault
returns-in_err-decode-clause-fault c =
    let r = c.args.reading in
    let p = err_from_is_err_and c.from_residual.result c.from_residual.ensures.1 in
    rw (p.1, p.2) (fault_of (head_of r.header) r.source r.level c.args.k r.bytes.now c.args.at c.in-Some.content.now c.place_of-place.result _ c.requires.reading.below c.requires.reading.kind c.place_of-place.ensures.place c.in-Some.ensures.short c.in-Some.ensures.entry c.in_err-decode.ensures.fault)

pub put_block-requires-clause-columns : goal.put_block-requires-clause-columns
put_block-requires-clause-columns c =
    let part = c.place_of-place.ensures.sound.part in
    let value = c.cells_on-columns.ensures.value in
    let fit = columns_fit c.place_of-place.result.cells c.span_of-span.result _ c.span_of-span.ensures.span part.across c.place_of-place.ensures.east in
    omega arith

pub put_block-requires-clause-rows : goal.put_block-requires-clause-rows
put_block-requires-clause-rows c =
    let h = c.args.reading.header in
    let level = c.args.reading.level in
    let place = c.place_of-place.result in
    let part = c.place_of-place.ensures.sound.part in
    subst (λ (n : ℕ). (c.span_of-span.result.y0 + c.span_of-span.result.rows) * n ≤ 8 * c.args.row * n + length c.args.table.now) (sym c.cells_on-columns.ensures.value)
    (band_rows place.cells c.span_of-span.result place.by c.args.row (cells_on h.width level) (cells_on h.height level) (length c.args.table.now) c.span_of-span.ensures.span part.down part.south c.place_of-place.ensures.south
    (subst (λ (n : ℕ). min (8 * (n + 1)) (cells_on h.height level) * cells_on h.width level ≤ cells_above c.args.reading c.args.row + length c.args.table.now) (sym c.place_of-place.ensures.place.row) c.requires.table))

pub put_block-requires-clause-near : goal.put_block-requires-clause-near
put_block-requires-clause-near c =
    let h = c.args.reading.header in
    let part = c.place_of-place.ensures.sound.part in
    let fit = rows_fit c.place_of-place.result.cells c.span_of-span.result _ c.span_of-span.ensures.span part.down c.place_of-place.ensures.south in
    let few = cells_below h.height c.args.reading.level c.requires.reading.readable.sound.some_rows in
    let high = c.requires.reading.readable.high in
    omega arith

pub returns-clause-read : goal.returns-clause-read
returns-clause-read c =
    let r = c.args.reading in
    let place = c.place_of-place.result in
    let span = c.span_of-span.result in
    let out = c.decode.new.out in
    let old = c.args.table.now in
    let new = c.put_block.new.table in
    let part = c.place_of-place.ensures.sound.part in
    let value = c.cells_on-columns.ensures.value in
    let top = top_is place.cells place.by c.args.row (cells_on r.header.height r.level) part.north part.down c.place_of-place.ensures.south (subst (λ (n : ℕ). c.args.row ≤ n) (sym c.place_of-place.ensures.place.row) c.requires.row) in
    let above : 8 * c.args.row * c.cells_on-columns.result ≡ cells_above r c.args.row = ap₂ (λ (m n : ℕ). m * n) top value in
    block_read (head_of r.header) r.source r.level c.args.k r.bytes.now c.args.at _ c.in-Some.content.now place span out (behind_cells (cells_above r c.args.row) old) (behind_cells (cells_above r c.args.row) new)
    c.place_of-place.ensures.place c.span_of-span.ensures.span part.across part.down c.place_of-place.ensures.east c.place_of-place.ensures.south c.in-Some.ensures.short (omega arith) c.in-Some.ensures.inside c.in-Some.ensures.next c.in-Some.ensures.entry c.decode.ensures.places (search rules)
    (subst (λ (n : ℕ). AreRowsIn span.rows n span out (behind_cells (cells_above r c.args.row) new)) value (subst (λ (n : ℕ). AreRowsIn span.rows c.cells_on-columns.result span out (behind_cells n new)) above c.put_block.ensures.rows))
    (subst (λ (n : ℕ). IsKeptOutside span.rows n span (behind_cells (cells_above r c.args.row) old) (behind_cells (cells_above r c.args.row) new)) value
    (subst (λ (n : ℕ). IsKeptOutside span.rows c.cells_on-columns.result span (behind_cells n old) (behind_cells n new)) above c.put_block.ensures.kept))
