use Rattle.std.proofs.Common.{◌≡◌, ◌++◌, take, drop, length, sym, subst, rules, arith, List}
use Rattle.std.specs.List.Sorted.{IsPermutation}
use Rattle.std.proofs.lemmas.List.Sorted.{answers_always, length_permutation}
use Rattle.hgt_tiles.specs.TileView.{TileView}
use Rattle.mosaic.specs.Painting.{IsInOrder}
use Rattle.mosaic.proofs.Parts.{buffer_is}
use Rattle.mosaic.proofs.Owners.{is_earlier, earlier_order, sorted_in_order}
use Rattle.mosaic.proofs.painting.sorted_for_painting.Goals as goal

pub returns-clause-permutation : goal.returns-clause-permutation
returns-clause-permutation c =
    let new = c.sort_unstable_by.new.self in
    let moved : IsPermutation c.args.tiles.items new = subst (λ (ts : List TileView). IsPermutation ts new) c.as_mut_slice.ensures.value c.sort_unstable_by.ensures.permutation in
    let buffer : take c.args.tiles.len (new ++ drop (length new) c.args.tiles.items) ≡ new = buffer_is c.args.tiles.len new (drop (length new) c.args.tiles.items) (omega (arith, length_permutation c.args.tiles.items new moved, c.args.tiles.ok.0)) in
    subst (λ (ts : List TileView). IsPermutation c.args.tiles.items ts) (sym buffer) moved

pub returns-clause-order : goal.returns-clause-order
returns-clause-order c =
    let new = c.sort_unstable_by.new.self in
    let moved : IsPermutation c.args.tiles.items new = subst (λ (ts : List TileView). IsPermutation ts new) c.as_mut_slice.ensures.value c.sort_unstable_by.ensures.permutation in
    let buffer : take c.args.tiles.len (new ++ drop (length new) c.args.tiles.items) ≡ new = buffer_is c.args.tiles.len new (drop (length new) c.args.tiles.items) (omega (arith, length_permutation c.args.tiles.items new moved, c.args.tiles.ok.0)) in
    let order : IsInOrder new = sorted_in_order _ (c.sort_unstable_by.ensures.sorted is_earlier earlier_order (answers_always _ _ _ (λ f a r g h. search rules))) in
    subst (λ (ts : List TileView). IsInOrder ts) (sym buffer) order
