-- The squares of a block are placed where its corners are, and an empty region has no cell.
use Rattle.std.proofs.Common.{◌≡◌, ℕ, ◌^◌, Bool, true, false, ◌||◌, List, [], ◌∷◌, map, ℤ, pos, ◌+ℤ◌, ◌-ℤ◌, ◌≤ℤ◌, refl, ap, subst, ◌∙◌, arith}
use Rattle.std.specs.List.{flat_map}
use Rattle.std.proofs.lemmas.Bool.{true≢false}
use Rattle.std.proofs.lemmas.Int.{ints}
use lib.Signed.{lt_z}
use Rattle.clip_regions.specs.declared.region.Region.{Region}
use Rattle.clip_regions.specs.Regions.{is_empty, columns, rows, cells, numbers_from, IsWithin}
use Rattle.mesh_model.specs.Parts.{squares_in}
use Rattle.mesh_plain.specs.Blocks.{HasPlacedCorners}
use Rattle.mesh_plain_heights.specs.Placed.{IsPlacedAt, ArePlaced}
use Rattle.clip_regions.proofs.Gaps.{gap_none}
use Rattle.mesh_model.proofs.Ranges.{grid}

pub corners_within : (level : ℕ) (r : Region) → HasPlacedCorners level r → IsWithin (2 ^ 24) r
corners_within level r h = record {
  x0_low = h.west.small_low;
  x0_high = h.west.small_high;
  y0_low = h.north.small_low;
  y0_high = h.north.small_high;
  x1_low = h.east.small_low;
  x1_high = h.east.small_high;
  y1_low = h.south.small_low;
  y1_high = h.south.small_high;
}

pub squares_placed : (level : ℕ) (r : Region) → HasPlacedCorners level r → ArePlaced level (squares_in r)
unfolding squares_in
squares_placed level r h =
    let east : r.x1 ≡ r.x1 -ℤ pos 1 +ℤ pos 1 = omega (arith, ints) in
    let south : r.y1 ≡ r.y1 -ℤ pos 1 +ℤ pos 1 = omega (arith, ints) in
    record {
      west = h.west;
      north = h.north;
      east = subst (IsPlacedAt level) east h.east;
      south = subst (IsPlacedAt level) south h.south;
    }

-- the corners of a region that has a cell
pub record IsOrdered (r : Region) : Type 0 where
  pub x : r.x0 ≤ℤ r.x1
  pub y : r.y0 ≤ℤ r.y1

at_most : (a b : ℤ) → lt_z a b ≡ false → b ≤ℤ a
at_most a b h = grind (arith, ints)

neither : (a b : Bool) → (a || b) ≡ false → (a ≡ false) × (b ≡ false)
neither true b h = (h, absurd (true≢false h))
neither false b h = (refl, h)

pub ordered : (r : Region) → is_empty r ≡ false → IsOrdered r
unfolding is_empty
ordered r h =
    let parts = neither (lt_z r.x1 r.x0) (lt_z r.y1 r.y0) h in
    record { x = at_most r.x1 r.x0 parts.0; y = at_most r.y1 r.y0 parts.1 }

pub squares_within : (level : ℕ) (squares : Region) → ArePlaced level squares → is_empty squares ≡ false → IsWithin (2 ^ 24) squares
squares_within level squares placed some =
    let corners = ordered squares some in
    record {
      x0_low = placed.west.small_low;
      x0_high = placed.west.small_high;
      y0_low = placed.north.small_low;
      y0_high = placed.north.small_high;
      x1_low = omega (arith, ints, placed.west.small_low, corners.x);
      x1_high = omega (arith, ints, placed.east.small_high);
      y1_low = omega (arith, ints, placed.north.small_low, corners.y);
      y1_high = omega (arith, ints, placed.south.small_high);
    }

below : (a b : ℤ) → lt_z a b ≡ true → (a +ℤ pos 1) ≤ℤ b
below a b h = grind (arith, ints)

no_columns : (a : ℤ) (ys : List ℤ) → flat_map {A = ℤ × ℤ} (λ j. map (λ i. (i, j)) (numbers_from a 0)) ys ≡ []
no_columns a [] = refl
no_columns a (y ∷ ys) = no_columns a ys

second : (a b : Bool) → a ≡ false → (a || b) ≡ true → b ≡ true
second true b e h = absurd (true≢false e)
second false b e h = h

no_cells_by : (r : Region) (b : Bool) → lt_z r.x1 r.x0 ≡ b → (lt_z r.x1 r.x0 || lt_z r.y1 r.y0) ≡ true → cells r ≡ []
unfolding columns rows
no_cells_by r true e h =
    ap (λ (m : ℕ). grid r.x0 r.y0 m (rows r)) (gap_none r.x0 (r.x1 +ℤ pos 1) (below r.x1 r.x0 e))
    ∙ no_columns r.x0 (numbers_from r.y0 (rows r))
no_cells_by r false e h =
    ap (λ (n : ℕ). grid r.x0 r.y0 (columns r) n) (gap_none r.y0 (r.y1 +ℤ pos 1) (below r.y1 r.y0 (second (lt_z r.x1 r.x0) (lt_z r.y1 r.y0) e h)))

pub no_cells : (r : Region) → is_empty r ≡ true → cells r ≡ []
unfolding is_empty
no_cells r h = no_cells_by r (lt_z r.x1 r.x0) refl h
