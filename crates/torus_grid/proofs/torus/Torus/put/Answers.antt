use Rattle.std.proofs.Common.{◌≡◌, true, ◌<◌, length, Some, sym, subst, arith}
use Rattle.torus_grid.specs.Grids.{Grid, has_tile}
use Rattle.torus_grid.proofs.TilesAt.{column_of, row_of, tile_set, same_but}
use Rattle.torus_grid.proofs.torus.Torus.put.Goals as goal

pub number_of-number-requires-clause-column : goal.number_of-number-requires-clause-column
number_of-number-requires-clause-column c =
    let has : has_tile c.self.inside.k c.args.tile ≡ true = subst (λ (g : Grid). has_tile g.k c.args.tile ≡ true) (sym c.self.view_is) c.requires.there in
    column_of c.self.inside.k c.args.tile has

pub number_of-number-requires-clause-row : goal.number_of-number-requires-clause-row
number_of-number-requires-clause-row c =
    let has : has_tile c.self.inside.k c.args.tile ≡ true = subst (λ (g : Grid). has_tile g.k c.args.tile ≡ true) (sym c.self.view_is) c.requires.there in
    row_of c.self.inside.k c.args.tile has

pub returns-clause-home : goal.returns-clause-home
returns-clause-home c =
    let has : has_tile c.self.inside.k c.args.tile ≡ true = subst (λ (g : Grid). has_tile g.k c.args.tile ≡ true) (sym c.self.view_is) c.requires.there in
    let inside : c.number_of-number.result < length c.self.inside.tiles.items = omega (arith, c.number_of-number.ensures.inside, c.self.invariant.1) in
    tile_set c.self.inside.k c.self.inside.tiles.items c.args.tile c.number_of-number.result has c.number_of-number.ensures.value inside (Some c.args.back)

pub returns-clause-others : goal.returns-clause-others
returns-clause-others c =
    let has : has_tile c.self.inside.k c.args.tile ≡ true = subst (λ (g : Grid). has_tile g.k c.args.tile ≡ true) (sym c.self.view_is) c.requires.there in
    let inside : c.number_of-number.result < length c.self.inside.tiles.items = omega (arith, c.number_of-number.ensures.inside, c.self.invariant.1) in
    same_but c.self.inside.k c.self.inside.tiles.items c.args.tile c.number_of-number.result has c.number_of-number.ensures.value inside (Some c.args.back) c.args.self.now c.self.view_is
