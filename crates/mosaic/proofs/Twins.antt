-- The first tile that has the corner of an earlier one, tile by tile.
use Rattle.std.proofs.Common.{◌≡◌, ℕ, suc, ◌+◌, ◌<◌, ◌≤◌, true, false, cond, List, [], ◌∷◌, ◌++◌, length, get_or, take, drop, Some, None, ap, sym, ◌∙◌, arith, drop-cons}
use Rattle.std.specs.List.{list_any}
use Rattle.std.proofs.lemmas.List.{take_more, drop_all}
use Rattle.hgt_tiles.specs.TileView.{TileView}
use Rattle.mosaic.specs.Faults.{same_corner, twin_after}

drop_first : (tiles : List TileView) (n : ℕ) (d : TileView) → n < length tiles → drop n tiles ≡ get_or tiles n d ∷ drop (n + 1) tiles
drop_first tiles n d inside = let e : n + 1 ≡ suc n = omega arith in drop-cons tiles n d inside ∙ ap (λ m. get_or tiles n d ∷ drop m tiles) (sym e)

pub twin_here : (tiles : List TileView) (n : ℕ) (tile : TileView) → n < length tiles → tile ≡ get_or tiles n tile → list_any (same_corner tile) (take n tiles) ≡ true → twin_after (take n tiles) (drop n tiles) ≡ Some tile
twin_here tiles n tile inside here twin =
    let split : drop n tiles ≡ tile ∷ drop (n + 1) tiles = drop_first tiles n tile inside ∙ ap (λ t. t ∷ drop (n + 1) tiles) (sym here) in
    ap (twin_after (take n tiles)) split ∙ ap (λ b. cond b (Some tile) (twin_after (take n tiles ++ tile ∷ []) (drop (n + 1) tiles))) twin

pub twin_later : (tiles : List TileView) (n : ℕ) (tile : TileView) → n < length tiles → tile ≡ get_or tiles n tile → list_any (same_corner tile) (take n tiles) ≡ false → twin_after (take (n + 1) tiles) (drop (n + 1) tiles) ≡ twin_after (take n tiles) (drop n tiles)
twin_later tiles n tile inside here none =
    let split : drop n tiles ≡ tile ∷ drop (n + 1) tiles = drop_first tiles n tile inside ∙ ap (λ t. t ∷ drop (n + 1) tiles) (sym here) in
    let more : take (n + 1) tiles ≡ take n tiles ++ tile ∷ [] = take_more tiles n tile inside ∙ ap (λ t. take n tiles ++ t ∷ []) (sym here) in
    ap (λ front. twin_after front (drop (n + 1) tiles)) more
    ∙ sym (ap (twin_after (take n tiles)) split ∙ ap (λ b. cond b (Some tile) (twin_after (take n tiles ++ tile ∷ []) (drop (n + 1) tiles))) none)

pub no_twin : (tiles : List TileView) (n : ℕ) → length tiles ≤ n → twin_after (take n tiles) (drop n tiles) ≡ twin_after [] tiles → twin_after [] tiles ≡ None
no_twin tiles n all same = sym same ∙ ap (twin_after (take n tiles)) (drop_all n tiles all)
