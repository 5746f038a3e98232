use Rattle.std.proofs.Common.{◌≡◌, ℤ, pos, ◌+ℤ◌, sym, ◌∙◌, subst}
use mathlib.Core.Path.{ap₂}
use Rattle.std.specs.Int.{w32}
use mir.Val.{to_z, of_z}
use Rattle.clip_regions.proofs.Numbers.{read_back}
use Rattle.torus_grid.specs.Grids.{height_at}
use Rattle.torus_grid.specs.Patches.{AreSevenHome}
use Rattle.clip_book.specs.Tiles.{HoldsSquare}
use Rattle.clip_book.proofs.SeenRows.{seen_some}
use Rattle.clip_book.proofs.WholeRows.{six_more, square_read, seven_home}
use Rattle.clip_book.proofs.tiles.seen_square.Goals as goal

pub patch-requires-clause-column : goal.patch-requires-clause-column
patch-requires-clause-column c = six_more c.args.i0 c.requires.column

pub patch-requires-clause-row : goal.patch-requires-clause-row
patch-requires-clause-row c = six_more c.args.j0 c.requires.row

pub patch-requires-clause-home : goal.patch-requires-clause-home
patch-requires-clause-home c =
    let held : HoldsSquare c.args.region c.args.i0 c.args.j0 = square_read c.args.region c.args.i0 c.args.j0 c.contains.result c.contains-then-contains.result c.requires.column c.requires.row c.contains.ensures c.contains-then-contains.ensures c.if-contains.true c.if-contains-2.true in
    subst (λ (z : ℤ). AreSevenHome c.args.torus.now z (to_z w32 (of_z w32 c.args.j0))) (sym (read_back c.args.i0 c.ranges.i0)) (subst (λ (z : ℤ). AreSevenHome c.args.torus.now c.args.i0 z) (sym (read_back c.args.j0 c.ranges.j0)) (seven_home c.args.torus.now c.args.region c.args.i0 c.args.j0 c.requires.home held))

pub returns-then-contains-2 : goal.returns-then-contains-2
returns-then-contains-2 c = λ a b l m.
    let held : HoldsSquare c.args.region c.args.i0 c.args.j0 = square_read c.args.region c.args.i0 c.args.j0 c.contains.result c.contains-then-contains.result c.requires.column c.requires.row c.contains.ensures c.contains-then-contains.ensures c.if-contains.true c.if-contains-2.true in
    c.patch.ensures a b l m
    ∙ ap₂ (λ (x y : ℤ). height_at c.args.torus.now (x +ℤ pos a) (y +ℤ pos b)) (read_back c.args.i0 c.ranges.i0) (read_back c.args.j0 c.ranges.j0)
    ∙ sym (seen_some c.args.torus.now c.args.region (c.args.i0 +ℤ pos a) (c.args.j0 +ℤ pos b) (held a b l m))
