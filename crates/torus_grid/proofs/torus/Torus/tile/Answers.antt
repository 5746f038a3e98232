use Rattle.std.proofs.Common.{◌≡◌, true, ◌<◌, length, Some, None, ap, sym, ◌∙◌, subst, arith}
use Rattle.std.specs.Prelude.{is_some}
use Rattle.std.proofs.lemmas.Bool.{true≢false}
use Rattle.std.proofs.lemmas.List.{get_or_read}
use Rattle.torus_grid.specs.Grids.{Grid, tile_at, is_home}
use Rattle.torus_grid.specs.Shown.{shown}
use Rattle.torus_grid.proofs.TilesAt.{grid_of, home_has, column_of, row_of, tile_is, home_is}
use Rattle.torus_grid.proofs.torus.Torus.tile.Goals as goal

pub number_of-requires-clause-column : goal.number_of-requires-clause-column
number_of-requires-clause-column c =
    let home : is_home (grid_of c.self.inside.k c.self.inside.tiles.items) c.args.tile ≡ true = subst (λ (g : Grid). is_home g c.args.tile ≡ true) (sym c.self.view_is) c.requires in
    column_of c.self.inside.k c.args.tile (home_has (grid_of c.self.inside.k c.self.inside.tiles.items) c.args.tile home)

pub number_of-requires-clause-row : goal.number_of-requires-clause-row
number_of-requires-clause-row c =
    let home : is_home (grid_of c.self.inside.k c.self.inside.tiles.items) c.args.tile ≡ true = subst (λ (g : Grid). is_home g c.args.tile ≡ true) (sym c.self.view_is) c.requires in
    row_of c.self.inside.k c.args.tile (home_has (grid_of c.self.inside.k c.self.inside.tiles.items) c.args.tile home)

pub unreachable-requires : goal.unreachable-requires
unreachable-requires c =
    let home : is_home (grid_of c.self.inside.k c.self.inside.tiles.items) c.args.tile ≡ true = subst (λ (g : Grid). is_home g c.args.tile ≡ true) (sym c.self.view_is) c.requires in
    let inside : c.number_of.result < length c.self.inside.tiles.items = omega (arith, c.number_of.ensures.inside, c.self.invariant.1) in
    let read = get_or_read c.self.inside.tiles.items c.number_of.result c.index.result.now inside c.index.ensures None in
    let there = home_is c.self.inside.k c.self.inside.tiles.items c.args.tile c.number_of.result (home_has (grid_of c.self.inside.k c.self.inside.tiles.items) c.args.tile home) c.number_of.ensures.value inside in
    true≢false (sym home ∙ sym there ∙ ap is_some (sym read ∙ c.in-None.is))

pub returns : goal.returns
returns c =
    let home : is_home (grid_of c.self.inside.k c.self.inside.tiles.items) c.args.tile ≡ true = subst (λ (g : Grid). is_home g c.args.tile ≡ true) (sym c.self.view_is) c.requires in
    let inside : c.number_of.result < length c.self.inside.tiles.items = omega (arith, c.number_of.ensures.inside, c.self.invariant.1) in
    let read = get_or_read c.self.inside.tiles.items c.number_of.result c.index.result.now inside c.index.ensures None in
    let there = tile_is c.self.inside.k c.self.inside.tiles.items c.args.tile c.number_of.result (home_has (grid_of c.self.inside.k c.self.inside.tiles.items) c.args.tile home) c.number_of.ensures.value inside in
    ap (λ (g : Grid). tile_at g c.args.tile) (sym c.self.view_is) ∙ there ∙ ap shown (sym read ∙ c.in-Some.is) ∙ ap Some (sym c.deref.ensures)
