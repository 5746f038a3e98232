use Rattle.std.proofs.Common.{rules, ◌≡◌, ◌≤◌, ℤ, pos, ◌+ℤ◌, ◌∙◌, w32, arith}
use Rattle.std.specs.Int.{int_gap}
use Rattle.std.proofs.lemmas.Int.{ints}
use Rattle.std.proofs.Math.Nat.{mul-le-mul}
use mathlib.Core.Path.{ap₂}
use mir.Val.{SFits}
use Rattle.clip_regions.specs.Regions.{columns, rows}
use Rattle.clip_regions.proofs.Numbers.{read_back}
use Rattle.torus_grid.proofs.Written.{IsShort}
use Rattle.grid_fills.proofs.Filling.{short_of, side_is}
use Rattle.grid_fills.proofs.fills.BlockCells.of.Goals as goal

pub span-requires-clause-order : goal.span-requires-clause-order
span-requires-clause-order c =
    let short : IsShort c.cells-cells.result = short_of c.inside_is_held.ensures c.args.job.now.land c.args.job.now.note c.args.job.now.patch c.cells-cells.result c.patch-patch.ensures.kept c.cells-cells.ensures in
    let x0 : SFits w32 c.cells-cells.result.x0 = search rules in
    let x1 : SFits w32 c.cells-cells.result.x1 = search rules in
    omega (arith, ints, short.across)

pub span-requires-clause-short : goal.span-requires-clause-short
span-requires-clause-short c =
    let short : IsShort c.cells-cells.result = short_of c.inside_is_held.ensures c.args.job.now.land c.args.job.now.note c.args.job.now.patch c.cells-cells.result c.patch-patch.ensures.kept c.cells-cells.ensures in
    let x0 : SFits w32 c.cells-cells.result.x0 = search rules in
    let x1 : SFits w32 c.cells-cells.result.x1 = search rules in
    omega (arith, ints, short.wide)

pub span-requires-2-clause-order : goal.span-requires-2-clause-order
span-requires-2-clause-order c =
    let short : IsShort c.cells-cells.result = short_of c.inside_is_held.ensures c.args.job.now.land c.args.job.now.note c.args.job.now.patch c.cells-cells.result c.patch-patch.ensures.kept c.cells-cells.ensures in
    let y0 : SFits w32 c.cells-cells.result.y0 = search rules in
    let y1 : SFits w32 c.cells-cells.result.y1 = search rules in
    omega (arith, ints, short.along)

pub span-requires-2-clause-short : goal.span-requires-2-clause-short
span-requires-2-clause-short c =
    let short : IsShort c.cells-cells.result = short_of c.inside_is_held.ensures c.args.job.now.land c.args.job.now.note c.args.job.now.patch c.cells-cells.result c.patch-patch.ensures.kept c.cells-cells.ensures in
    let y0 : SFits w32 c.cells-cells.result.y0 = search rules in
    let y1 : SFits w32 c.cells-cells.result.y1 = search rules in
    omega (arith, ints, short.high)

pub invariant_of-result : goal.invariant_of-result
unfolding columns rows
invariant_of-result c =
    let r = c.cells-cells.result in
    let short : IsShort r = short_of c.inside_is_held.ensures c.args.job.now.land c.args.job.now.note c.args.job.now.patch r c.patch-patch.ensures.kept c.cells-cells.ensures in
    let x0 : SFits w32 r.x0 = search rules in
    let x1 : SFits w32 r.x1 = search rules in
    let y0 : SFits w32 r.y0 = search rules in
    let y1 : SFits w32 r.y1 = search rules in
    let across : c.span.result ≡ int_gap r.x0 (r.x1 +ℤ pos 1) = c.span.ensures ∙ ap₂ (λ (a b : ℤ). int_gap a (b +ℤ pos 1)) (read_back r.x0 x0) (read_back r.x1 x1) in
    let down : c.span-2.result ≡ int_gap r.y0 (r.y1 +ℤ pos 1) = c.span-2.ensures ∙ ap₂ (λ (a b : ℤ). int_gap a (b +ℤ pos 1)) (read_back r.y0 y0) (read_back r.y1 y1) in
    let east = side_is r.x0 r.x1 c.span.result across short.across in
    let south = side_is r.y0 r.y1 c.span-2.result down short.along in
    let wide : c.span.result ≤ 8 = omega (arith, ints, east, short.wide) in
    let high : c.span-2.result ≤ 8 = omega (arith, ints, south, short.high) in
    record {
      columns = across;
      rows = down;
      east = east;
      south = south;
      some = omega (arith, ints, east, short.across);
      wide = wide;
      high = high;
      few = mul-le-mul wide high;
    }
