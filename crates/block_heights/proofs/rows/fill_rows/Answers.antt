use Rattle.std.proofs.Common.{◌≡◌, ◌*◌, ◌∙◌, ℕ, length, sym, arith, mul_comm}
use Rattle.std.proofs.lemmas.Result.{err_from_is_err_and}
use mathlib.Core.Path.{ap₂}
use Rattle.clip_regions.specs.Regions.{columns, rows}
use Rattle.four_point.specs.Patches.{patch_height}
use Rattle.block_heights.specs.Rows.{table_code}
use Rattle.block_heights.proofs.WholeRows.{room_below, out_of_count}
use Rattle.block_heights.proofs.rows.fill_rows.Goals as goal

pub fill_row-requires-clause-room : goal.fill_row-requires-clause-room
fill_row-requires-clause-room c =
    let region = c.args.codes.inside in
    let i = c.loop-b.invariant in
    let e = c.sides_of-sides.ensures in
    let below = e.rows in
    let room = room_below c.loop-b.b c.sides_of-sides.result.columns (rows region) (columns region) e.columns (omega (arith, below)) in
    omega (arith, room, i.start, c.requires.places, c.loop-b.auto.out)

pub returns-in_err-fill_row-clause-far : goal.returns-in_err-fill_row-clause-far
returns-in_err-fill_row-clause-far c =
    let region = c.args.codes.inside in
    let p = err_from_is_err_and c.from_residual.result c.from_residual.ensures.1 in
    rw (p.1, p.2) (out_of_count (patch_height c.args.codes.patch.now) c.args.codes.step (table_code region c.args.codes.table.now) region _ (length c.args.out.now) _ (sym c.requires.places) c.in_err-fill_row.ensures.far)

pub returns-clause-heights : goal.returns-clause-heights
returns-clause-heights c = λ k h.
    let region = c.args.codes.inside in
    let e = c.sides_of-sides.ensures in
    let i = c.loop-b.invariant in
    let all : c.loop-b.b ≡ rows region = omega (arith, e.rows) in
    let start : c.loop-b.start ≡ rows region * columns region = i.start ∙ ap₂ (λ (m n : ℕ). m * n) all e.columns in
    let turned = mul_comm (rows region) (columns region) in
    i.heights k (omega (arith, h, start, turned, c.requires.places, c.loop-b.auto.out))

pub returns-clause-near : goal.returns-clause-near
returns-clause-near c = λ k h.
    let region = c.args.codes.inside in
    let e = c.sides_of-sides.ensures in
    let i = c.loop-b.invariant in
    let all : c.loop-b.b ≡ rows region = omega (arith, e.rows) in
    let start : c.loop-b.start ≡ rows region * columns region = i.start ∙ ap₂ (λ (m n : ℕ). m * n) all e.columns in
    let turned = mul_comm (rows region) (columns region) in
    i.near k (omega (arith, h, start, turned, c.requires.places, c.loop-b.auto.out))
