-- The height of a cell of a torus, and the heights of the cells from one on to the end of its tile.
use Rattle.std.proofs.Common.{◌≡◌, ℕ, zero, suc, ◌+◌, ◌-◌, ◌<◌, ◌≤◌, ℤ, pos, ◌+ℤ◌, List, ◌∷◌, map, Option, Some, refl, ap, sym, ◌∙◌, arith}
use Rattle.std.specs.List.{range_with_len}
use mathlib.Core.Path.{ap₂}
use Rattle.clip_regions.specs.FloorDivision.{floor_div, floor_rem}
use Rattle.plan_model.specs.Blocks.{tile_of, tile_of_cell}
use Rattle.plan_model.specs.Laws.{OneTileABlock}
use Rattle.torus_grid.specs.Places.{tile_height}
use Rattle.torus_grid.specs.Grids.{Grid, tile_at, height_in, height_at}
use Rattle.torus_grid.proofs.Numbers.{eight_below, div_on}

pub height_is : (g : Grid) (hs : List ℤ) (i j : ℤ) → tile_at g (tile_of_cell g.k i j) ≡ Some hs → tile_height hs i j ≡ height_at g i j
unfolding height_at
height_is g hs i j e = sym (ap (λ (o : Option (List ℤ)). height_in o i j) e)

same_tile_on : OneTileABlock → (k : ℕ) (i j : ℤ) (n : ℕ) → 3 ≤ k → floor_rem i 8 + n < 8 → tile_of_cell k (i +ℤ pos n) j ≡ tile_of_cell k i j
same_tile_on law k i j n h inside =
    law k (i +ℤ pos n) j h ∙ ap (λ (b : ℤ). tile_of k b (floor_div j 8)) (div_on i n inside) ∙ sym (law k i j h)

same_maps : {X : Type 0} (f g : ℕ → X) (a n : ℕ) → ((m : ℕ) → m < a + n → f m ≡ g m) → map f (range_with_len a n) ≡ map g (range_with_len a n)
same_maps f g a zero each = refl
same_maps {X = X} f g a (suc n) each =
    ap₂ (λ (x : X) (xs : List X). x ∷ xs) (each a (omega arith)) (same_maps f g (a + 1) n (λ m l. each m (omega arith)))

pub row_heights : OneTileABlock → (g : Grid) (hs : List ℤ) (i j : ℤ) → 3 ≤ g.k → tile_at g (tile_of_cell g.k i j) ≡ Some hs → map (λ (n : ℕ). tile_height hs (i +ℤ pos n) j) (range_with_len 0 (8 - floor_rem i 8)) ≡ map (λ (n : ℕ). height_at g (i +ℤ pos n) j) (range_with_len 0 (8 - floor_rem i 8))
row_heights law g hs i j h e =
    let below : floor_rem i 8 < 8 = eight_below i in
    same_maps (λ (n : ℕ). tile_height hs (i +ℤ pos n) j) (λ (n : ℕ). height_at g (i +ℤ pos n) j) 0 (8 - floor_rem i 8) (λ m l. height_is g hs (i +ℤ pos m) j (ap (tile_at g) (same_tile_on law g.k i j m h (omega arith)) ∙ e))
