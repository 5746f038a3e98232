use Rattle.std.proofs.Common.{◌≡◌, ◌+◌, ◌*◌, ◌<◌, ◌≤◌, ◌∙◌, ℕ, ℤ, pos, ◌+ℤ◌, length, set, refl, ap, subst, rules, arith}
use Rattle.std.specs.Int.{w16}
use Rattle.std.proofs.lemmas.Int.{to_z-of_z}
use Rattle.std.proofs.lemmas.Result.{err_from_is_err_and}
use mir.Val.{SFits, to_z, of_z}
use Rattle.clip_regions.specs.Regions.{columns, rows}
use Rattle.four_point.specs.Patches.{patch_height}
use Rattle.four_point.specs.Steps.{IsNear}
use Rattle.block_heights.specs.Rows.{table_code}
use Rattle.block_heights.specs.Pieces.{within, coded_height, IsPieceUpTo, AreNearUpTo, row_value}
use Rattle.block_heights.proofs.Cells.{piece_more, near_more}
use Rattle.block_heights.proofs.WholeRows.{column_in, row_in, height_here, near_here, out_here, out_same}
use Rattle.block_heights.proofs.ExactRows.{exact_heights, exact_are_near}
use Rattle.block_heights.proofs.rows.fill_row.Goals as goal

pub loop-a-preserved : goal.loop-a-preserved
loop-a-preserved c =
    let region = c.args.codes.inside in
    let w = c.args.width in
    let b = c.args.b in
    let s = c.args.start in
    let a = c.loop-a.a in
    let k = s + a in
    let coarser = patch_height c.args.codes.patch.now in
    let step = c.args.codes.step in
    let code = table_code region c.args.codes.table.now in
    let heights = within region (coded_height coarser step code) in
    let row = c.row_at-row in
    let r = row.result in
    let v = row_value r.predicted r.before r.codes r.step a in
    let i = region.x0 +ℤ pos a in
    let j = region.y0 +ℤ pos b in
    let is_width = c.requires.width in
    let wide : a < w = omega arith in
    let below : k < columns region * rows region = omega (arith, wide, c.requires.room, c.requires.places) in
    let inside : k < length c.loop-a.out = omega (arith, below, c.loop-a.auto.out, c.requires.places) in
    let column = column_in region w a b s is_width c.requires.start wide in
    let line = row_in region w a b s is_width c.requires.start wide in
    let room : r.before + a < 8 = omega (arith, row.ensures.room, is_width, wide) in
    let is = row.ensures.values a room in
    let got = c.in_ok-height.ensures in
    let fits : SFits w16 c.in_ok-height.height = search rules in
    let x = to_z w16 (of_z w16 c.in_ok-height.height) in
    let next : k + 1 ≡ s + (a + 1) = omega arith in
    record {
      heights =
          subst (λ (n : ℕ). IsPieceUpTo n heights region (set c.loop-a.out k x)) next
          (piece_more k heights region c.loop-a.out x inside
          (height_here coarser step code region k i j v x c.requires.inside below column line is (to_z-of_z w16 c.in_ok-height.height fits ∙ got.height))
          c.loop-a.invariant.heights);
      near =
          subst (λ (n : ℕ). AreNearUpTo n coarser step code region region) next
          (near_more k coarser step code region region
          (near_here coarser step code region k i j v column line is (subst (λ (n : ℕ). IsNear n v) row.ensures.step got.near))
          c.loop-a.invariant.near);
    }

pub returns-in_err-height-clause-far : goal.returns-in_err-height-clause-far
returns-in_err-height-clause-far c =
    let region = c.args.codes.inside in
    let w = c.args.width in
    let b = c.args.b in
    let s = c.args.start in
    let a = c.loop-a.a in
    let k = s + a in
    let coarser = patch_height c.args.codes.patch.now in
    let step = c.args.codes.step in
    let code = table_code region c.args.codes.table.now in
    let row = c.row_at-row in
    let r = row.result in
    let v = row_value r.predicted r.before r.codes r.step a in
    let i = region.x0 +ℤ pos a in
    let j = region.y0 +ℤ pos b in
    let is_width = c.requires.width in
    let wide : a < w = omega arith in
    let below : k < columns region * rows region = omega (arith, wide, c.requires.room, c.requires.places) in
    let column = column_in region w a b s is_width c.requires.start wide in
    let line = row_in region w a b s is_width c.requires.start wide in
    let room : r.before + a < 8 = omega (arith, row.ensures.room, is_width, wide) in
    let is = row.ensures.values a room in
    let p = err_from_is_err_and c.from_residual.result c.from_residual.ensures.1 in
    rw (p.1, p.2)
    (out_here coarser step code region k (columns region * rows region) i j v _ c.requires.inside refl below column line is
    (out_same v r.step step (r.cell.i +ℤ pos a) r.cell.j i j _ row.ensures.step (ap (λ (x : ℤ). x +ℤ pos a) row.ensures.column) row.ensures.row c.in_err-height.ensures.far)
    c.loop-a.invariant.near)

pub returns-clause-heights : goal.returns-clause-heights
returns-clause-heights c = λ k h. c.loop-a.invariant.heights k (omega (arith, h))

pub returns-clause-near : goal.returns-clause-near
returns-clause-near c = λ k h. c.loop-a.invariant.near k (omega (arith, h))

pub returns-in-Some-clause-heights : goal.returns-in-Some-clause-heights
returns-in-Some-clause-heights c =
    let region = c.args.codes.inside in
    let coarser = patch_height c.args.codes.patch.now in
    let code = table_code region c.args.codes.table.now in
    let row = c.row_at-row in
    let r = row.result in
    let value = λ (a : ℕ). row_value r.predicted r.before r.codes r.step a in
    let w = c.args.width in
    let eight : w ≡ 8 = c.if-width-eq8.true in
    let first : r.before ≡ 0 = omega (arith, row.ensures.room, c.requires.width, eight) in
    let room : c.args.start + w ≤ columns region * rows region = omega (arith, c.requires.room, c.requires.places) in
    exact_heights coarser c.args.codes.step code region w c.args.b c.args.start value c.args.out.now c.put_row.new.out c.in-Some.heights c.requires.inside c.requires.width c.requires.start eight room (λ (a : ℕ) (few : a < 8). row.ensures.values a (omega (arith, first, few))) c.in-Some.ensures c.put_row.ensures.row c.put_row.ensures.kept c.requires.heights

pub returns-in-Some-clause-near : goal.returns-in-Some-clause-near
returns-in-Some-clause-near c =
    let region = c.args.codes.inside in
    let coarser = patch_height c.args.codes.patch.now in
    let code = table_code region c.args.codes.table.now in
    let row = c.row_at-row in
    let r = row.result in
    let value = λ (a : ℕ). row_value r.predicted r.before r.codes r.step a in
    let w = c.args.width in
    let eight : w ≡ 8 = c.if-width-eq8.true in
    let first : r.before ≡ 0 = omega (arith, row.ensures.room, c.requires.width, eight) in
    exact_are_near coarser c.args.codes.step code region w c.args.b c.args.start value c.in-Some.heights c.requires.width c.requires.start eight (λ (a : ℕ) (few : a < 8). row.ensures.values a (omega (arith, first, few))) c.in-Some.ensures c.requires.near
