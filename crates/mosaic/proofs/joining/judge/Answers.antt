use Rattle.std.proofs.Common.{◌≡◌, [], ◌∷◌, ◌∙◌, map, drop, All, None, subst, rules, ℕ}
use Rattle.hgt_tiles.specs.TileView.{placed}
use Rattle.terrain_model.specs.Mosaic.{bounds_of}
use Rattle.mosaic.specs.Faults.{HasSide, twin_after, other_side}
use Rattle.mosaic.proofs.Judging.{split_first, rest_is, mapped_none, too_large_of, accepted_of, placed_of}
use Rattle.mosaic.proofs.joining.judge.Goals as goal

pub returns-then-samples-clause-fault : goal.returns-then-samples-clause-fault
returns-then-samples-clause-fault c =
    let tiles = c.args.tiles.now in
    let first = c.first-item.result in
    let split : tiles ≡ first ∷ drop 1 tiles = split_first tiles first c.in-len1-up.len_at_least c.first-item.is in
    let round : c.around-extent.result ≡ bounds_of (map placed (first ∷ drop 1 tiles)) = c.around-extent.ensures.value ∙ rest_is tiles first in
    let twins : twin_after [] tiles ≡ None = search (rules, mapped_none) in
    let others : other_side first.terrain.width tiles ≡ None = search rules in
    too_large_of tiles first (drop 1 tiles) c.around-extent.result c.width.result c.height.result split twins others round c.width.ensures.value c.height.ensures.value c.if-samples.true

pub returns-clause-accepted : goal.returns-clause-accepted
returns-clause-accepted c =
    let tiles = c.args.tiles.now in
    let first = c.first-item.result in
    let split : tiles ≡ first ∷ drop 1 tiles = split_first tiles first c.in-len1-up.len_at_least c.first-item.is in
    let round : c.around-extent.result ≡ bounds_of (map placed (first ∷ drop 1 tiles)) = c.around-extent.ensures.value ∙ rest_is tiles first in
    let twins : twin_after [] tiles ≡ None = search (rules, mapped_none) in
    let others : other_side first.terrain.width tiles ≡ None = search rules in
    accepted_of tiles first (drop 1 tiles) c.around-extent.result c.width.result c.height.result split twins others round c.width.ensures.value c.height.ensures.value c.if-samples.false

pub returns-clause-placed : goal.returns-clause-placed
returns-clause-placed c =
    let tiles = c.args.tiles.now in
    let first = c.first-item.result in
    let split : tiles ≡ first ∷ drop 1 tiles = split_first tiles first c.in-len1-up.len_at_least c.first-item.is in
    let round : c.around-extent.result ≡ bounds_of (map placed (first ∷ drop 1 tiles)) = c.around-extent.ensures.value ∙ rest_is tiles first in
    let squares : All (HasSide c.side-side.result) tiles = c.in_default-other_side.ensures.squares (search rules) in
    let sides : All (HasSide first.terrain.width) tiles = subst (λ (s : ℕ). All (HasSide s) tiles) c.side-side.ensures.value squares in
    placed_of tiles first (drop 1 tiles) c.around-extent.result split sides round
