use Rattle.std.proofs.Common.{◌≡◌, [], true, ap, sym, ◌∙◌, option_map, Some, take, rules}
use Rattle.std.specs.List.{list_any}
use Rattle.mosaic.specs.Faults.{same_corner, twin_after}
use Rattle.mosaic.proofs.Twins.{twin_here}
use Rattle.mosaic.proofs.joining.twin.Goals as goal

pub returns-then-is_among : goal.returns-then-is_among
returns-then-is_among c =
    let tiles = c.args.tiles.now in
    let tile = c.index-tiles-n.result in
    let twin : list_any (same_corner tile) (take c.loop-n.n tiles) ≡ true = search rules in
    let found : twin_after [] tiles ≡ Some tile = sym c.loop-n.invariant ∙ twin_here tiles c.loop-n.n tile c.loop-n-test.true c.index-tiles-n.is twin in
    ap Some c.corner.ensures ∙ sym (ap (option_map (λ t. t.corner)) found)
