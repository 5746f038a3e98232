use Rattle.std.proofs.Common.{◌≡◌, ◌≤◌, ℕ, ◌+◌, pos, ◌+ℤ◌, ℤ, ap, ◌∙◌, arith}
use mathlib.Core.Path.{ap₂}
use Rattle.clip_regions.specs.FloorDivision.{floor_rem}
use Rattle.clip_regions.proofs.Numbers.{read_back}
use Rattle.torus_grid.specs.Patches.{among_four}
use Rattle.torus_grid.proofs.Patches.{in_four, first_place, last_place, home_at, tile_there}
use Rattle.torus_grid.proofs.torus.Torus.patch.Goals as goal

pub tile_with-nw-requires : goal.tile_with-nw-requires
tile_with-nw-requires c =
    home_at c.args.self.now c.args.i0 c.args.j0 _ _ 0 0 c.requires.home (omega arith) (omega arith) (first_place c.args.i0 c.ranges.i0) (first_place c.args.j0 c.ranges.j0)

pub tile_with-ne-requires : goal.tile_with-ne-requires
tile_with-ne-requires c =
    home_at c.args.self.now c.args.i0 c.args.j0 _ _ 6 0 c.requires.home (omega arith) (omega arith) (last_place c.args.i0 c.ranges.i0 c.requires.column) (first_place c.args.j0 c.ranges.j0)

pub tile_with-sw-requires : goal.tile_with-sw-requires
tile_with-sw-requires c =
    home_at c.args.self.now c.args.i0 c.args.j0 _ _ 0 6 c.requires.home (omega arith) (omega arith) (first_place c.args.i0 c.ranges.i0) (last_place c.args.j0 c.ranges.j0 c.requires.row)

pub returns : goal.returns
returns c = λ a b l m.
    let g = c.args.self.now in
    let i0 = c.args.i0 in
    let j0 = c.args.j0 in
    let nw = c.tile_with-nw in
    let ne = c.tile_with-ne in
    let sw = c.tile_with-sw in
    let se = c.tile_with-se in
    let west = read_back i0 c.ranges.i0 in
    let east = last_place i0 c.ranges.i0 c.requires.column in
    let north = read_back j0 c.ranges.j0 in
    let south = last_place j0 c.ranges.j0 c.requires.row in
    let size : 3 ≤ g.k = omega (arith, nw.ensures.size) in
    let x : c.place_of.result ≡ floor_rem i0 8 = c.place_of.ensures.value ∙ ap (λ (z : ℤ). floor_rem z 8) west in
    let y : c.place_of-2.result ≡ floor_rem j0 8 = c.place_of-2.ensures.value ∙ ap (λ (z : ℤ). floor_rem z 8) north in
    c.patch_of_four.ensures a b l m
    ∙ ap₂ (λ (p q : ℕ). among_four nw.result.now ne.result.now sw.result.now se.result.now (p + a) (q + b)) x y
    ∙ in_four c.blocks_have_one_tile.ensures g size i0 j0 a b nw.result.now ne.result.now sw.result.now se.result.now l m
    (tile_there g nw.result.now _ _ i0 j0 west north nw.ensures.tile)
    (tile_there g ne.result.now _ _ (i0 +ℤ pos 6) j0 east north ne.ensures.tile)
    (tile_there g sw.result.now _ _ i0 (j0 +ℤ pos 6) west south sw.ensures.tile)
    (tile_there g se.result.now _ _ (i0 +ℤ pos 6) (j0 +ℤ pos 6) east south se.ensures.tile)
