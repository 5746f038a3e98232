use Rattle.std.proofs.Common.{sym, subst, All, List, rules}
use Rattle.std.proofs.lemmas.List.Sorted.{All-permutation}
use Rattle.hgt_tiles.specs.TileView.{TileView}
use Rattle.mosaic.specs.Painting.{IsPlacedIn}
use Rattle.mosaic.proofs.Joined.{joined_is}
use Rattle.mosaic.proofs.joining.join.Goals as goal

pub paint-requires-clause-placed : goal.paint-requires-clause-placed
paint-requires-clause-placed c =
    let sorted = c.sorted_for_painting-sorted in
    let before : All (IsPlacedIn c.in_ok-extent.extent) c.args.tiles.items = search rules in
    subst (λ (ts : List TileView). All (IsPlacedIn c.in_ok-extent.extent) ts) (sym c.as_slice-2.ensures.value) (All-permutation (IsPlacedIn c.in_ok-extent.extent) c.args.tiles.items sorted.result.items sorted.ensures.permutation before)

pub returns-in-Ok-clause-terrain : goal.returns-in-Ok-clause-terrain
returns-in-Ok-clause-terrain c =
    joined_is c.in_ok-extent.extent c.args.tiles.items c.sorted_for_painting-sorted.result.items c.as_slice-2.result.now c.in-Ok.heights.items c.new.result (search rules) c.sorted_for_painting-sorted.ensures.permutation c.sorted_for_painting-sorted.ensures.order (search rules) c.as_slice-2.ensures.value c.in-Ok.ensures.rows (search rules) (search rules) c.new.ensures.table
