use Rattle.std.proofs.Common.{◌≡◌, true, ◌<◌, length, None, ap, sym, ◌∙◌, subst, arith}
use Rattle.std.specs.Prelude.{is_some}
use Rattle.std.proofs.lemmas.List.{get_or_read}
use Rattle.torus_grid.specs.Grids.{Grid, tile_at, is_home}
use Rattle.torus_grid.specs.Shown.{shown}
use Rattle.torus_grid.proofs.TilesAt.{grid_of, home_has, column_of, row_of, tile_is, tile_set, same_but, home_is}
use Rattle.torus_grid.proofs.torus.Torus.take.Goals as goal

pub number_of-number-requires-clause-column : goal.number_of-number-requires-clause-column
number_of-number-requires-clause-column c =
    let home : is_home (grid_of c.self.inside.k c.self.inside.tiles.items) c.args.tile ≡ true = subst (λ (g : Grid). is_home g c.args.tile ≡ true) (sym c.self.view_is) c.requires in
    column_of c.self.inside.k c.args.tile (home_has (grid_of c.self.inside.k c.self.inside.tiles.items) c.args.tile home)

pub number_of-number-requires-clause-row : goal.number_of-number-requires-clause-row
number_of-number-requires-clause-row c =
    let home : is_home (grid_of c.self.inside.k c.self.inside.tiles.items) c.args.tile ≡ true = subst (λ (g : Grid). is_home g c.args.tile ≡ true) (sym c.self.view_is) c.requires in
    row_of c.self.inside.k c.args.tile (home_has (grid_of c.self.inside.k c.self.inside.tiles.items) c.args.tile home)

pub unwrap-requires : goal.unwrap-requires
unwrap-requires c =
    let home : is_home (grid_of c.self.inside.k c.self.inside.tiles.items) c.args.tile ≡ true = subst (λ (g : Grid). is_home g c.args.tile ≡ true) (sym c.self.view_is) c.requires in
    let inside : c.number_of-number.result < length c.self.inside.tiles.items = omega (arith, c.number_of-number.ensures.inside, c.self.invariant.1) in
    let read = get_or_read c.self.inside.tiles.items c.number_of-number.result c.index_mut.result.now inside c.index_mut.ensures.value None in
    let there = home_is c.self.inside.k c.self.inside.tiles.items c.args.tile c.number_of-number.result (home_has (grid_of c.self.inside.k c.self.inside.tiles.items) c.args.tile home) c.number_of-number.ensures.value inside in
    ap is_some (c.take-out.ensures.value ∙ read) ∙ there ∙ home

pub returns-clause-heights : goal.returns-clause-heights
returns-clause-heights c =
    let home : is_home (grid_of c.self.inside.k c.self.inside.tiles.items) c.args.tile ≡ true = subst (λ (g : Grid). is_home g c.args.tile ≡ true) (sym c.self.view_is) c.requires in
    let inside : c.number_of-number.result < length c.self.inside.tiles.items = omega (arith, c.number_of-number.ensures.inside, c.self.invariant.1) in
    let read = get_or_read c.self.inside.tiles.items c.number_of-number.result c.index_mut.result.now inside c.index_mut.ensures.value None in
    let there = tile_is c.self.inside.k c.self.inside.tiles.items c.args.tile c.number_of-number.result (home_has (grid_of c.self.inside.k c.self.inside.tiles.items) c.args.tile home) c.number_of-number.ensures.value inside in
    ap (λ (g : Grid). tile_at g c.args.tile) (sym c.self.view_is) ∙ there ∙ ap shown (sym read ∙ sym c.take-out.ensures.value ∙ c.unwrap.ensures)

pub returns-clause-out : goal.returns-clause-out
returns-clause-out c =
    let home : is_home (grid_of c.self.inside.k c.self.inside.tiles.items) c.args.tile ≡ true = subst (λ (g : Grid). is_home g c.args.tile ≡ true) (sym c.self.view_is) c.requires in
    let inside : c.number_of-number.result < length c.self.inside.tiles.items = omega (arith, c.number_of-number.ensures.inside, c.self.invariant.1) in
    tile_set c.self.inside.k c.self.inside.tiles.items c.args.tile c.number_of-number.result (home_has (grid_of c.self.inside.k c.self.inside.tiles.items) c.args.tile home) c.number_of-number.ensures.value inside c.take-out.new.self ∙ ap shown c.take-out.ensures.after

pub returns-clause-others : goal.returns-clause-others
returns-clause-others c =
    let home : is_home (grid_of c.self.inside.k c.self.inside.tiles.items) c.args.tile ≡ true = subst (λ (g : Grid). is_home g c.args.tile ≡ true) (sym c.self.view_is) c.requires in
    let inside : c.number_of-number.result < length c.self.inside.tiles.items = omega (arith, c.number_of-number.ensures.inside, c.self.invariant.1) in
    same_but c.self.inside.k c.self.inside.tiles.items c.args.tile c.number_of-number.result (home_has (grid_of c.self.inside.k c.self.inside.tiles.items) c.args.tile home) c.number_of-number.ensures.value inside c.take-out.new.self c.args.self.now c.self.view_is

pub returns-clause-there : goal.returns-clause-there
returns-clause-there c =
    let home : is_home (grid_of c.self.inside.k c.self.inside.tiles.items) c.args.tile ≡ true = subst (λ (g : Grid). is_home g c.args.tile ≡ true) (sym c.self.view_is) c.requires in
    home_has (grid_of c.self.inside.k c.self.inside.tiles.items) c.args.tile home
