use Rattle.std.proofs.Common.{◌≡◌, ℕ, ◌+◌, ◌*◌, ◌≤◌, ℤ, pos, ◌+ℤ◌, refl, sym, ◌∙◌, rules, arith}
use Rattle.std.specs.Int.{int_gap}
use Rattle.std.proofs.lemmas.Int.{ints}
use Rattle.std.proofs.Math.Nat.{mul-le-mul, mul-le-mul_left}
use mathlib.Core.Path.{ap₂}
use mir.Syntax.{w32}
use mir.Val.{SFits}
use Rattle.clip_regions.specs.FloorDivision.{floor_rem}
use Rattle.clip_regions.specs.Regions.{columns, rows, area}
use Rattle.torus_grid.proofs.Written.{IsShort, short_from, rows_more, rows_at, all_written}
use Rattle.torus_grid.proofs.tile.write_cells.Goals as goal
use Rattle.clip_regions.proofs.Numbers.{read_back}

pub span-width-requires-clause-order : goal.span-width-requires-clause-order
span-width-requires-clause-order c =
    let short : IsShort c.args.cells = short_from c.inside_is_held.ensures c.args.cells c.requires.block (sym c.is_empty.ensures.value ∙ c.if-is_empty.false) in
    omega (arith, ints, short.across)

pub span-width-requires-clause-short : goal.span-width-requires-clause-short
span-width-requires-clause-short c =
    let short : IsShort c.args.cells = short_from c.inside_is_held.ensures c.args.cells c.requires.block (sym c.is_empty.ensures.value ∙ c.if-is_empty.false) in
    omega (arith, ints, short.wide)

pub span-height-requires-clause-order : goal.span-height-requires-clause-order
span-height-requires-clause-order c =
    let short : IsShort c.args.cells = short_from c.inside_is_held.ensures c.args.cells c.requires.block (sym c.is_empty.ensures.value ∙ c.if-is_empty.false) in
    omega (arith, ints, short.along)

pub span-height-requires-clause-short : goal.span-height-requires-clause-short
span-height-requires-clause-short c =
    let short : IsShort c.args.cells = short_from c.inside_is_held.ensures c.args.cells c.requires.block (sym c.is_empty.ensures.value ∙ c.if-is_empty.false) in
    omega (arith, ints, short.high)

pub overflow_mul-row : goal.overflow_mul-row
unfolding columns rows
overflow_mul-row c =
    let short : IsShort c.args.cells = short_from c.inside_is_held.ensures c.args.cells c.requires.block (sym c.is_empty.ensures.value ∙ c.if-is_empty.false) in
    let x0 : SFits w32 c.args.cells.x0 = search rules in
    let x1 : SFits w32 c.args.cells.x1 = search rules in
    let y0 : SFits w32 c.args.cells.y0 = search rules in
    let y1 : SFits w32 c.args.cells.y1 = search rules in
    let width : c.span-width.result ≡ columns c.args.cells = c.span-width.ensures ∙ ap₂ (λ (a b : ℤ). int_gap a (b +ℤ pos 1)) (read_back c.args.cells.x0 x0) (read_back c.args.cells.x1 x1) in
    let height : c.span-height.result ≡ rows c.args.cells = c.span-height.ensures ∙ ap₂ (λ (a b : ℤ). int_gap a (b +ℤ pos 1)) (read_back c.args.cells.y0 y0) (read_back c.args.cells.y1 y1) in
    omega (arith, height, short.row)

pub overflow_add-first : goal.overflow_add-first
unfolding columns rows
overflow_add-first c =
    let short : IsShort c.args.cells = short_from c.inside_is_held.ensures c.args.cells c.requires.block (sym c.is_empty.ensures.value ∙ c.if-is_empty.false) in
    let x0 : SFits w32 c.args.cells.x0 = search rules in
    let x1 : SFits w32 c.args.cells.x1 = search rules in
    let y0 : SFits w32 c.args.cells.y0 = search rules in
    let y1 : SFits w32 c.args.cells.y1 = search rules in
    let width : c.span-width.result ≡ columns c.args.cells = c.span-width.ensures ∙ ap₂ (λ (a b : ℤ). int_gap a (b +ℤ pos 1)) (read_back c.args.cells.x0 x0) (read_back c.args.cells.x1 x1) in
    let height : c.span-height.result ≡ rows c.args.cells = c.span-height.ensures ∙ ap₂ (λ (a b : ℤ). int_gap a (b +ℤ pos 1)) (read_back c.args.cells.y0 y0) (read_back c.args.cells.y1 y1) in
    omega (arith, height, short.row, c.index_of-first.ensures.inside)

pub overflow_mul-width : goal.overflow_mul-width
unfolding columns rows
overflow_mul-width c =
    let short : IsShort c.args.cells = short_from c.inside_is_held.ensures c.args.cells c.requires.block (sym c.is_empty.ensures.value ∙ c.if-is_empty.false) in
    let x0 : SFits w32 c.args.cells.x0 = search rules in
    let x1 : SFits w32 c.args.cells.x1 = search rules in
    let y0 : SFits w32 c.args.cells.y0 = search rules in
    let y1 : SFits w32 c.args.cells.y1 = search rules in
    let width : c.span-width.result ≡ columns c.args.cells = c.span-width.ensures ∙ ap₂ (λ (a b : ℤ). int_gap a (b +ℤ pos 1)) (read_back c.args.cells.x0 x0) (read_back c.args.cells.x1 x1) in
    let height : c.span-height.result ≡ rows c.args.cells = c.span-height.ensures ∙ ap₂ (λ (a b : ℤ). int_gap a (b +ℤ pos 1)) (read_back c.args.cells.y0 y0) (read_back c.args.cells.y1 y1) in
    let wide : c.span-width.result ≤ 8 = omega (arith, width, short.column) in
    let high : c.loop-row.row ≤ 8 = omega (arith, height, short.row) in
    let most : c.span-width.result * c.loop-row.row ≤ 8 * 8 = mul-le-mul wide high in
    omega (arith, most)

pub write_row-requires-clause-inside : goal.write_row-requires-clause-inside
unfolding columns rows
write_row-requires-clause-inside c =
    let short : IsShort c.args.cells = short_from c.inside_is_held.ensures c.args.cells c.requires.block (sym c.is_empty.ensures.value ∙ c.if-is_empty.false) in
    let x0 : SFits w32 c.args.cells.x0 = search rules in
    let x1 : SFits w32 c.args.cells.x1 = search rules in
    let y0 : SFits w32 c.args.cells.y0 = search rules in
    let y1 : SFits w32 c.args.cells.y1 = search rules in
    let width : c.span-width.result ≡ columns c.args.cells = c.span-width.ensures ∙ ap₂ (λ (a b : ℤ). int_gap a (b +ℤ pos 1)) (read_back c.args.cells.x0 x0) (read_back c.args.cells.x1 x1) in
    let height : c.span-height.result ≡ rows c.args.cells = c.span-height.ensures ∙ ap₂ (λ (a b : ℤ). int_gap a (b +ℤ pos 1)) (read_back c.args.cells.y0 y0) (read_back c.args.cells.y1 y1) in
    let first : c.index_of-first.result ≡ 8 * floor_rem c.args.cells.y0 8 + floor_rem c.args.cells.x0 8 = c.index_of-first.ensures.value ∙ ap₂ (λ (b a : ℤ). 8 * floor_rem b 8 + floor_rem a 8) (read_back c.args.cells.y0 y0) (read_back c.args.cells.x0 x0) in
    omega (arith, width, height, first, short.row, short.column, c.loop-row.invariant.many)

pub write_row-requires-clause-there : goal.write_row-requires-clause-there
unfolding columns rows area
write_row-requires-clause-there c =
    let short : IsShort c.args.cells = short_from c.inside_is_held.ensures c.args.cells c.requires.block (sym c.is_empty.ensures.value ∙ c.if-is_empty.false) in
    let x0 : SFits w32 c.args.cells.x0 = search rules in
    let x1 : SFits w32 c.args.cells.x1 = search rules in
    let y0 : SFits w32 c.args.cells.y0 = search rules in
    let y1 : SFits w32 c.args.cells.y1 = search rules in
    let width : c.span-width.result ≡ columns c.args.cells = c.span-width.ensures ∙ ap₂ (λ (a b : ℤ). int_gap a (b +ℤ pos 1)) (read_back c.args.cells.x0 x0) (read_back c.args.cells.x1 x1) in
    let height : c.span-height.result ≡ rows c.args.cells = c.span-height.ensures ∙ ap₂ (λ (a b : ℤ). int_gap a (b +ℤ pos 1)) (read_back c.args.cells.y0 y0) (read_back c.args.cells.y1 y1) in
    let scaled : c.span-width.result * (c.loop-row.row + 1) ≤ c.span-width.result * c.span-height.result = mul-le-mul_left c.span-width.result (omega arith) in
    let whole : c.span-width.result * c.span-height.result ≡ columns c.args.cells * rows c.args.cells = ap₂ (λ (n m : ℕ). n * m) width height in
    omega (arith, scaled, whole, c.requires.many)

pub loop-row-preserved : goal.loop-row-preserved
unfolding columns rows
loop-row-preserved c =
    let short : IsShort c.args.cells = short_from c.inside_is_held.ensures c.args.cells c.requires.block (sym c.is_empty.ensures.value ∙ c.if-is_empty.false) in
    let x0 : SFits w32 c.args.cells.x0 = search rules in
    let x1 : SFits w32 c.args.cells.x1 = search rules in
    let y0 : SFits w32 c.args.cells.y0 = search rules in
    let y1 : SFits w32 c.args.cells.y1 = search rules in
    let width : c.span-width.result ≡ columns c.args.cells = c.span-width.ensures ∙ ap₂ (λ (a b : ℤ). int_gap a (b +ℤ pos 1)) (read_back c.args.cells.x0 x0) (read_back c.args.cells.x1 x1) in
    let height : c.span-height.result ≡ rows c.args.cells = c.span-height.ensures ∙ ap₂ (λ (a b : ℤ). int_gap a (b +ℤ pos 1)) (read_back c.args.cells.y0 y0) (read_back c.args.cells.y1 y1) in
    let first : c.index_of-first.result ≡ 8 * floor_rem c.args.cells.y0 8 + floor_rem c.args.cells.x0 8 = c.index_of-first.ensures.value ∙ ap₂ (λ (b a : ℤ). 8 * floor_rem b 8 + floor_rem a 8) (read_back c.args.cells.y0 y0) (read_back c.args.cells.x0 x0) in
    rows_more (floor_rem c.args.cells.x0 8) (floor_rem c.args.cells.y0 8) c.span-width.result c.loop-row.row (c.index_of-first.result + 8 * c.loop-row.row) (c.span-width.result * c.loop-row.row) c.args.tile.now c.args.heights.now c.loop-row.tile c.write_row.new.tile (omega (arith, width, short.column)) c.loop-row.invariant c.write_row.ensures.many c.write_row.ensures.written c.write_row.ensures.others (omega (arith, first)) refl

pub returns : goal.returns
unfolding columns rows
returns c =
    let short : IsShort c.args.cells = short_from c.inside_is_held.ensures c.args.cells c.requires.block (sym c.is_empty.ensures.value ∙ c.if-is_empty.false) in
    let x0 : SFits w32 c.args.cells.x0 = search rules in
    let x1 : SFits w32 c.args.cells.x1 = search rules in
    let y0 : SFits w32 c.args.cells.y0 = search rules in
    let y1 : SFits w32 c.args.cells.y1 = search rules in
    let width : c.span-width.result ≡ columns c.args.cells = c.span-width.ensures ∙ ap₂ (λ (a b : ℤ). int_gap a (b +ℤ pos 1)) (read_back c.args.cells.x0 x0) (read_back c.args.cells.x1 x1) in
    let height : c.span-height.result ≡ rows c.args.cells = c.span-height.ensures ∙ ap₂ (λ (a b : ℤ). int_gap a (b +ℤ pos 1)) (read_back c.args.cells.y0 y0) (read_back c.args.cells.y1 y1) in
    let last : c.loop-row.row ≡ c.span-height.result = omega arith in
    all_written c.args.cells c.args.tile.now c.args.heights.now c.loop-row.tile short (rows_at (floor_rem c.args.cells.x0 8) (floor_rem c.args.cells.y0 8) c.span-width.result (columns c.args.cells) c.loop-row.row (rows c.args.cells) c.args.tile.now c.args.heights.now c.loop-row.tile width (last ∙ height) c.loop-row.invariant)
