use Rattle.std.proofs.Common.{◌≡◌, ℕ, ◌<◌, ℤ, pos, List, length, get_or, w32, sym, ◌∙◌, subst}
use Rattle.std.specs.Int.{w16}
use Rattle.std.proofs.lemmas.Int.{to_z-of_z}
use Rattle.std.proofs.lemmas.List.{length-map}
use Rattle.clip_regions.specs.Regions.{contains, cells}
use Rattle.clip_regions.proofs.Cells.{lies}
use Rattle.terrain_model.specs.Terrain.{level_height}
use Rattle.mesh_model.specs.Height.{active_at}
use Rattle.mesh_laws.proofs.Sizes.{small_of}
use Rattle.torus_grid.specs.Places.{place_among}
use Rattle.decode_workers.specs.Copies.{heights_in}
use Rattle.decode_workers.proofs.Copying.{place_below}
use Rattle.decode_workers.proofs.copy_heights.CopyHeightsHeights.height.Goals as goal
use mir.Val.{to_z, of_z}

pub copied-requires-clause-small : goal.copied-requires-clause-small
copied-requires-clause-small g c = small_of c.args.self.now.copies.now.actives c.args.level c.requires.level c.requires.active

pub copied-requires-clause-cell : goal.copied-requires-clause-cell
copied-requires-clause-cell g c =
    let l = lies (active_at c.args.self.now.copies.now.actives c.args.level) (to_z w32 (of_z w32 c.args.i)) (to_z w32 (of_z w32 c.args.j)) ((λ t. contains (active_at c.args.self.now.copies.now.actives c.args.level) (to_z-of_z w32 c.args.i c.ranges.i t) (to_z-of_z w32 c.args.j c.ranges.j t)) ∙ c.requires.cell) in
    record { west = l.west; east = l.east; north = l.north; south = l.south }

pub copied-requires-clause-there : goal.copied-requires-clause-there
copied-requires-clause-there g c =
    let copies = c.args.self.now.copies.now in
    let r = active_at copies.actives c.args.level in
    let i = to_z w32 (of_z w32 c.args.i) in
    let j = to_z w32 (of_z w32 c.args.j) in
    let long : length (heights_in g.N.Named.terrain c.args.level r) ≡ length (cells r) = length-map (cells r) (λ (cell : ℤ × ℤ). level_height g.N.Named.terrain c.args.level cell.0 cell.1) in
    subst (λ (hs : List ℤ). place_among r i j < length hs) (sym (c.args.self.now.right c.args.level c.requires.level))
    (subst (λ (n : ℕ). place_among r i j < n) (sym long) (place_below r i j ((λ t. contains (active_at c.args.self.now.copies.now.actives c.args.level) (to_z-of_z w32 c.args.i c.ranges.i t) (to_z-of_z w32 c.args.j c.ranges.j t)) ∙ c.requires.cell)))

pub returns : goal.returns
returns g c =
    let copies = c.args.self.now.copies.now in
    let r = active_at copies.actives c.args.level in
    let i = to_z-of_z w32 c.args.i c.ranges.i in
    let j = to_z-of_z w32 c.args.j c.ranges.j in
    record {
      value = to_z-of_z w16 c.copied.result (record { sfits = c.copied.type_inv }) ∙ c.copied.ensures
          ∙ (λ t. get_or (c.args.self.now.right c.args.level c.requires.level t) (place_among r (i t) (j t)) (pos 0))
          ∙ c.cells_stand_in_rows.ensures r (λ (cell : ℤ × ℤ). level_height g.N.Named.terrain c.args.level cell.0 cell.1) c.args.i c.args.j c.requires.cell;
    }
