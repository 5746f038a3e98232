-- The lines of cells along the border of a region.
use Rattle.std.proofs.Common.{◌≡◌, ℕ, ◌+◌, ◌-◌, ◌^◌, ◌<◌, true, false, List, [], ◌∷◌, ◌++◌, map, reverse, ℤ, pos, negsuc, neg_ℤ, ◌+ℤ◌, ◌≤ℤ◌, refl, ap, sym, ◌∙◌, arith}
use Rattle.std.specs.Int.{int_gap}
use Rattle.std.specs.List.{range_with_len}
use Rattle.std.proofs.lemmas.Int.{ints}
use Rattle.std.proofs.lemmas.List.FromFn.{map-range_with_len_more}
use Rattle.clip_regions.specs.declared.region.Region.{Region}
use Rattle.clip_regions.specs.Regions.{is_empty, columns, rows}
use Rattle.mesh_model.specs.declared.shapes.Vertex.{Vertex}
use Rattle.mesh_model.specs.declared.shapes.PartKind.TheVariants.{StitchNorth, StitchEast, StitchSouth, StitchWest}
use Rattle.mesh_model.specs.Parts.{corner_place, places_in_row, places_in_column, stitch_part, stitch_parts}
use Rattle.mesh_plain.specs.Blocks.{HasPlacedCorners}
use Rattle.mesh_plain_heights.specs.Placed.{IsPlacedAt}
use Rattle.mesh_plain.proofs.Between.{placed_between}
use Rattle.mesh_plain.proofs.Blocks.{ordered}
use Rattle.clip_regions.proofs.Gaps.{gap_holds}
use Rattle.mesh_model.proofs.Ranges.{map_of_map}

pub column_placed : (level : ℕ) (r : Region) (u : ℕ) → HasPlacedCorners level r → u < columns r → IsPlacedAt level (r.x0 +ℤ pos u)
unfolding columns
column_placed level r u h here =
    let inside = gap_holds r.x0 (r.x1 +ℤ pos 1) u here in
    placed_between level r.x0 r.x1 (r.x0 +ℤ pos u) h.west h.east (omega (arith, ints)) (omega (arith, ints, inside))

pub row_placed : (level : ℕ) (r : Region) (v : ℕ) → HasPlacedCorners level r → v < rows r → IsPlacedAt level (r.y0 +ℤ pos v)
unfolding rows
row_placed level r v h here =
    let inside = gap_holds r.y0 (r.y1 +ℤ pos 1) v here in
    placed_between level r.y0 r.y1 (r.y0 +ℤ pos v) h.north h.south (omega (arith, ints)) (omega (arith, ints, inside))

-- the numbers between two near ones are few
near_few : (a b : ℤ) → neg_ℤ (pos (2 ^ 24)) ≤ℤ a → b ≤ℤ pos (2 ^ 24 + 1) → int_gap a b < 2 ^ 26
near_few (pos a) (pos b) low high = omega (arith, ints)
near_few (pos a) (negsuc b) low high = omega (arith, ints)
near_few (negsuc a) (pos b) low high = omega (arith, ints)
near_few (negsuc a) (negsuc b) low high = omega (arith, ints)

pub few_columns : (level : ℕ) (r : Region) → HasPlacedCorners level r → columns r < 2 ^ 26
unfolding columns
few_columns level r h = near_few r.x0 (r.x1 +ℤ pos 1) h.west.small_low (omega (arith, ints, h.east.small_high))

pub few_rows : (level : ℕ) (r : Region) → HasPlacedCorners level r → rows r < 2 ^ 26
unfolding rows
few_rows level r h = near_few r.y0 (r.y1 +ℤ pos 1) h.north.small_low (omega (arith, ints, h.south.small_high))

-- as far as the gap, a number comes to the other
gap_reaches : (a b : ℤ) → a ≤ℤ b → a +ℤ pos (int_gap a b) ≡ b
gap_reaches (pos a) (pos b) h = omega (arith, ints)
gap_reaches (pos a) (negsuc b) h = absurd (omega (arith, ints))
gap_reaches (negsuc a) (pos b) h = omega (arith, ints)
gap_reaches (negsuc a) (negsuc b) h = omega (arith, ints)

-- from a number to one that is not less, both included, there is one at least, and the last is the end
pub record Reaches (a b : ℤ) (n : ℕ) : Type 0 where
  pub some : 0 < n
  pub last : a +ℤ pos (n - 1) ≡ b

last_reaches : (a b : ℤ) (n : ℕ) → a ≤ℤ b → a +ℤ pos n ≡ b +ℤ pos 1 → Reaches a b n
last_reaches a b n h e = record { some = omega (arith, ints); last = omega (arith, ints) }

reached : (a b : ℤ) → a ≤ℤ b → Reaches a b (int_gap a (b +ℤ pos 1))
reached a b h = last_reaches a b (int_gap a (b +ℤ pos 1)) h (gap_reaches a (b +ℤ pos 1) (omega (arith, ints)))

pub columns_reach : (r : Region) → is_empty r ≡ false → Reaches r.x0 r.x1 (columns r)
unfolding columns
columns_reach r some = reached r.x0 r.x1 (ordered r some).x

pub rows_reach : (r : Region) → is_empty r ≡ false → Reaches r.y0 r.y1 (rows r)
unfolding rows
rows_reach r some = reached r.y0 r.y1 (ordered r some).y

pub first_of : (a : ℤ) → a +ℤ pos 0 ≡ a
first_of a = omega (arith, ints)

-- the places along a line, counted from its first cell
pub row_is : (vertices : List Vertex) (level : ℕ) (r : Region) (j : ℤ) → map (λ u. corner_place vertices level (r.x0 +ℤ pos u) j) (range_with_len 0 (columns r)) ≡ places_in_row vertices level r j
unfolding places_in_row
row_is vertices level r j =
    sym (map_of_map (λ i. corner_place vertices level i j) (λ u. r.x0 +ℤ pos u) (range_with_len 0 (columns r)))

pub column_is : (vertices : List Vertex) (level : ℕ) (r : Region) (i : ℤ) → map (λ v. corner_place vertices level i (r.y0 +ℤ pos v)) (range_with_len 0 (rows r)) ≡ places_in_column vertices level r i
unfolding places_in_column
column_is vertices level r i =
    sym (map_of_map (λ j. corner_place vertices level i j) (λ v. r.y0 +ℤ pos v) (range_with_len 0 (rows r)))

pub no_stitch_parts : (vertices : List Vertex) (level : ℕ) (active : Region) → is_empty active ≡ true → stitch_parts vertices level active ≡ []
unfolding stitch_parts
no_stitch_parts vertices level active none = rw none refl

pub four_stitch_parts : (vertices : List Vertex) (level : ℕ) (active : Region) → is_empty active ≡ false → stitch_parts vertices level active ≡ stitch_part level StitchNorth (places_in_row vertices level active active.y0) ∷ stitch_part level StitchEast (places_in_column vertices level active active.x1) ∷ stitch_part level StitchSouth (reverse (places_in_row vertices level active active.y1)) ∷ stitch_part level StitchWest (reverse (places_in_column vertices level active active.x0)) ∷ []
unfolding stitch_parts
four_stitch_parts vertices level active some = rw some refl

-- one place more of a line
pub next_place : (place : ℕ → ℕ) (i next : ℕ) (old new : List ℕ) → old ≡ map place (range_with_len 0 i) → new ≡ old ++ next ∷ [] → next ≡ place i → new ≡ map place (range_with_len 0 (i + 1))
next_place place i next old new before added same =
    added
    ∙ ap (λ (places : List ℕ). places ++ next ∷ []) before
    ∙ ap (λ (last : ℕ). map place (range_with_len 0 i) ++ last ∷ []) same
    ∙ sym (map-range_with_len_more place 0 i i (omega arith))
