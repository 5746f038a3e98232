-- The heights of a tile from a cell on to the end of its row.
use Rattle.std.proofs.Common.{◌≡◌, ℕ, ◌+◌, ◌-◌, ◌*◌, ◌<◌, ℤ, pos, ◌+ℤ◌, List, length, get_or, take, drop, map, ap, ◌∙◌, arith, length-take, length-drop, get_or-take, get_or-drop}
use Rattle.std.specs.List.{range_with_len}
use Rattle.std.proofs.lemmas.List.FromFn.{fill_by_all}
use Rattle.clip_regions.specs.FloorDivision.{floor_rem}
use Rattle.torus_grid.specs.Places.{tile_height}
use Rattle.torus_grid.proofs.Numbers.{eight_below, rem_on}

pub row_is : (hs : List ℤ) (i j : ℤ) (a k : ℕ) → length hs ≡ 64 → a ≡ 8 * floor_rem j 8 + floor_rem i 8 → k ≡ 8 - floor_rem i 8 → take k (drop a hs) ≡ map (λ (n : ℕ). tile_height hs (i +ℤ pos n) j) (range_with_len 0 (8 - floor_rem i 8))
unfolding tile_height
row_is hs i j a k many at count =
    let column : floor_rem i 8 < 8 = eight_below i in
    let row : floor_rem j 8 < 8 = eight_below j in
    fill_by_all (λ (n : ℕ). get_or hs (8 * floor_rem j 8 + floor_rem (i +ℤ pos n) 8) (pos 0)) (take k (drop a hs)) (8 - floor_rem i 8) (pos 0) (omega (arith, length-take k (drop a hs), length-drop a hs)) (λ n l. let inside : n < k = omega arith in let next : floor_rem (i +ℤ pos n) 8 ≡ floor_rem i 8 + n = rem_on i n (omega arith) in let place : a + n ≡ 8 * floor_rem j 8 + floor_rem (i +ℤ pos n) 8 = omega (arith, next) in get_or-take k (drop a hs) n (pos 0) inside ∙ get_or-drop a hs n (pos 0) ∙ ap (λ (m : ℕ). get_or hs m (pos 0)) place)
