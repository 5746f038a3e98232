use Rattle.std.proofs.Common.{◌≡◌, ℕ, ◌+◌, ◌*◌, ℤ, pos, List, get_or, ◌∙◌, rules}
use Rattle.std.proofs.lemmas.Int.{to_z-of_z}
use mathlib.Core.Path.{ap₂}
use mir.Syntax.{w16}
use mir.Val.{SFits}
use Rattle.clip_regions.specs.FloorDivision.{floor_rem}
use Rattle.torus_grid.specs.Places.{tile_height}
use Rattle.torus_grid.proofs.tile.Tile.cell.Goals as goal
use Rattle.clip_regions.proofs.Numbers.{read_back}

pub returns : goal.returns
unfolding tile_height
returns c =
    let fits : SFits w16 (get_or c.self.inside.heights c.index_of.result (pos 0)) = search rules in
    let index : c.index_of.result ≡ 8 * floor_rem c.args.j 8 + floor_rem c.args.i 8 = c.index_of.ensures.value ∙ ap₂ (λ (b a : ℤ). 8 * floor_rem b 8 + floor_rem a 8) (read_back c.args.j c.ranges.j) (read_back c.args.i c.ranges.i) in
    to_z-of_z w16 (get_or c.self.inside.heights c.index_of.result (pos 0)) fits ∙ ap₂ (λ (hs : List ℤ) (n : ℕ). get_or hs n (pos 0)) c.self.view_is index
