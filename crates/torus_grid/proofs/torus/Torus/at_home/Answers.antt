use Rattle.std.proofs.Common.{◌≡◌, true, ◌<◌, length, None, ap, sym, ◌∙◌, arith}
use Rattle.std.specs.Prelude.{is_some}
use Rattle.std.proofs.lemmas.List.{get_or_read}
use Rattle.torus_grid.specs.Grids.{Grid, is_home, has_tile}
use Rattle.torus_grid.proofs.TilesAt.{grid_of, column_of, row_of, home_is, away}
use Rattle.torus_grid.proofs.torus.Torus.at_home.Goals as goal

pub number_of-requires-clause-column : goal.number_of-requires-clause-column
number_of-requires-clause-column c =
    let has : has_tile c.self.inside.k c.args.tile ≡ true = sym c.has_tile.ensures ∙ c.if-has_tile.true in
    column_of c.self.inside.k c.args.tile has

pub number_of-requires-clause-row : goal.number_of-requires-clause-row
number_of-requires-clause-row c =
    let has : has_tile c.self.inside.k c.args.tile ≡ true = sym c.has_tile.ensures ∙ c.if-has_tile.true in
    row_of c.self.inside.k c.args.tile has

pub returns-then-has_tile : goal.returns-then-has_tile
returns-then-has_tile c =
    let has : has_tile c.self.inside.k c.args.tile ≡ true = sym c.has_tile.ensures ∙ c.if-has_tile.true in
    let inside : c.number_of.result < length c.self.inside.tiles.items = omega (arith, c.number_of.ensures.inside, c.self.invariant.1) in
    let read = get_or_read c.self.inside.tiles.items c.number_of.result c.index.result.now inside c.index.ensures None in
    c.is_some.ensures ∙ ap is_some read ∙ home_is c.self.inside.k c.self.inside.tiles.items c.args.tile c.number_of.result has c.number_of.ensures.value inside ∙ ap (λ (g : Grid). is_home g c.args.tile) c.self.view_is

pub returns-else-has_tile : goal.returns-else-has_tile
returns-else-has_tile c =
    c.if-has_tile.false ∙ sym (away (grid_of c.self.inside.k c.self.inside.tiles.items) c.args.tile (sym c.has_tile.ensures ∙ c.if-has_tile.false)) ∙ ap (λ (g : Grid). is_home g c.args.tile) c.self.view_is
