-- How many stitches along the border of an active region go from one vertex to another.
use Rattle.std.proofs.Common.{◌≡◌, ℕ, ◌+◌, ◌*◌, Bool, true, false, cond, ◌&&◌, List, [], ◌∷◌, ℤ, pos, negsuc, ◌+ℤ◌, ◌-ℤ◌, ◌*ℤ◌, map, reverse, refl, ap, sym, subst, ◌∙◌, inl, inr, arith}
use Rattle.std.specs.List.{sum_by, flat_map, range_with_len}
use Rattle.std.specs.Int.{int_gap}
use Rattle.std.specs.Ordering.{int_eq}
use Rattle.std.proofs.lemmas.Int.{ints}
use Rattle.std.proofs.lemmas.Bool.{false_from_ne_true}
use Rattle.clip_regions.specs.declared.region.Region.{Region}
use Rattle.clip_regions.specs.Regions.{contains, empty_region, columns, rows, HasEvenCorners}
use Rattle.plan_model.specs.Laws.{IsEvenOrEmpty}
use Rattle.active_region.specs.Active.{IsWideOrEmpty}
use Rattle.mesh_model.specs.declared.shapes.Vertex.{Vertex}
use Rattle.mesh_model.specs.declared.shapes.PartKind.TheVariants.{StitchNorth, StitchEast, StitchSouth, StitchWest}
use Rattle.mesh_model.specs.Vertices.{hole}
use Rattle.mesh_model.specs.Parts.{PartTriangles, corner_place, stitches_along, places_in_row, places_in_column, stitch_part, stitch_parts}
use Rattle.watertight_laws.specs.Edges.{Spot, Nowhere, At, coarser_spot, by_step, has_cell_at, north_steps, east_steps, south_steps, west_steps, border_edges}
use Rattle.watertight_laws.proofs.Sums.{sum_flat_map}
use Rattle.watertight_laws.proofs.Marks.{Marks}
use Rattle.watertight_laws.proofs.Squares.{edges_of}
use Rattle.watertight_laws.proofs.Regions.{wide_has_cell, twice}
use Rattle.watertight_laws.proofs.Walks.{turned, walk_tally, north_walk, east_walk, south_walk, west_walk, north_side, east_side, south_side, west_side}
use Rattle.plan_model.proofs.ActiveLaws.{even_if_cell}
use Rattle.mesh_model.proofs.Rectangles.{halved, hole_is, no_hole}
use Rattle.mesh_model.proofs.Ranges.{map_of_map}
use Rattle.clip_regions.proofs.Gaps.{gap_by}
use Rattle.clip_regions.proofs.Cells.{HasCell, Lies, empty_is_empty, lies, not_empty}

-- ---- an empty region has no border
pub by_none : (dx dz : ℤ) (count : ℤ → ℤ → ℕ) → ((x z : ℤ) → count x z ≡ 0) → (p q : Spot) → by_step dx dz count p q ≡ 0
by_none dx dz count none Nowhere q = refl
by_none dx dz count none (At x z) Nowhere = refl
by_none dx dz count none (At x z) (At x' z') = cases (int_eq x' (x +ℤ dx) && int_eq z' (z +ℤ dz))
  where
    cases : (s : Bool) → cond s (count x z) 0 ≡ 0
    cases true = none x z
    cases false = refl

no_cell_at : (r : Region) → ((x z : ℤ) → Lies r x z → ⊥) → (x z : ℤ) → has_cell_at r x z ≡ 0
unfolding has_cell_at
no_cell_at r none x z = ap (λ b. cond b 1 0) (false_from_ne_true (contains r x z) (λ t. none x z (lies r x z t)))

pub no_border : (p q : Spot) → border_edges empty_region p q ≡ 0
unfolding border_edges north_steps east_steps south_steps west_steps
no_border p q =
    let none : (x z : ℤ) → has_cell_at (north_steps empty_region) x z ≡ 0 = no_cell_at (north_steps empty_region) (λ x z l. let a = l.west in let b = l.east in omega (arith, ints, a, b)) in
    let none' : (x z : ℤ) → has_cell_at (east_steps empty_region) x z ≡ 0 = no_cell_at (east_steps empty_region) (λ x z l. let a = l.north in let b = l.south in omega (arith, ints, a, b)) in
    let none'' : (x z : ℤ) → has_cell_at (south_steps empty_region) x z ≡ 0 = no_cell_at (south_steps empty_region) (λ x z l. let a = l.west in let b = l.east in omega (arith, ints, a, b)) in
    let none''' : (x z : ℤ) → has_cell_at (west_steps empty_region) x z ≡ 0 = no_cell_at (west_steps empty_region) (λ x z l. let a = l.north in let b = l.south in omega (arith, ints, a, b)) in
    λ t. (by_none (pos 1) (pos 0) (has_cell_at (north_steps empty_region)) none p q t + by_none (pos 0) (pos 1) (has_cell_at (east_steps empty_region)) none' p q t)
    + (by_none (negsuc 0) (pos 0) (has_cell_at (south_steps empty_region)) none'' p q t + by_none (pos 0) (negsuc 0) (has_cell_at (west_steps empty_region)) none''' p q t)

-- ---- the corners of a region and those of its hole
pub record AreHalves (r g : Region) : Type 0 where
  pub west : r.x0 ≡ pos 2 *ℤ g.x0
  pub east : r.x1 ≡ pos 2 *ℤ g.x1
  pub north : r.y0 ≡ pos 2 *ℤ g.y0
  pub south : r.y1 ≡ pos 2 *ℤ g.y1

pub are_halves : (r : Region) → HasEvenCorners r → AreHalves r (halved r)
are_halves r even = record { west = twice r.x0 even.x0; east = twice r.x1 even.x1; north = twice r.y0 even.y0; south = twice r.y1 even.y1 }

more_columns : (r : Region) → HasCell r → columns r ≡ int_gap r.x0 r.x1 + 1
unfolding columns
more_columns r some = let a = some.across in let g = gap_by r.x0 r.x1 in let g' = gap_by r.x0 (r.x1 +ℤ pos 1) in omega (arith, ints, a, g, g')

more_rows : (r : Region) → HasCell r → rows r ≡ int_gap r.y0 r.y1 + 1
unfolding rows
more_rows r some = let a = some.along in let g = gap_by r.y0 r.y1 in let g' = gap_by r.y0 (r.y1 +ℤ pos 1) in omega (arith, ints, a, g, g')

half_columns : (r g : Region) → AreHalves r g → int_gap r.x0 r.x1 ≡ 2 * int_gap g.x0 g.x1
half_columns r g h = let a = h.west in let b = h.east in let w = gap_by r.x0 r.x1 in let w' = gap_by g.x0 g.x1 in omega (arith, ints, a, b, w, w')

half_rows : (r g : Region) → AreHalves r g → int_gap r.y0 r.y1 ≡ 2 * int_gap g.y0 g.y1
half_rows r g h = let a = h.north in let b = h.south in let w = gap_by r.y0 r.y1 in let w' = gap_by g.y0 g.y1 in omega (arith, ints, a, b, w, w')

-- ---- the walks in the mesh
module _ (vertices : List Vertex) (level : ℕ) (r : Region) (some : HasCell r) where
  north_places : places_in_row vertices level r r.y0 ≡ map (λ u. corner_place vertices level (north_walk r u).0 (north_walk r u).1) (range_with_len 0 (int_gap r.x0 r.x1 + 1))
  unfolding places_in_row
  north_places =
      map_of_map (λ i. corner_place vertices level i r.y0) (λ u. r.x0 +ℤ pos u) (range_with_len 0 (columns r))
      ∙ ap (λ n. map (λ u. corner_place vertices level (r.x0 +ℤ pos u) r.y0) (range_with_len 0 n)) (more_columns r some)

  east_places : places_in_column vertices level r r.x1 ≡ map (λ u. corner_place vertices level (east_walk r u).0 (east_walk r u).1) (range_with_len 0 (int_gap r.y0 r.y1 + 1))
  unfolding places_in_column
  east_places =
      map_of_map (λ j. corner_place vertices level r.x1 j) (λ u. r.y0 +ℤ pos u) (range_with_len 0 (rows r))
      ∙ ap (λ n. map (λ u. corner_place vertices level r.x1 (r.y0 +ℤ pos u)) (range_with_len 0 n)) (more_rows r some)

  south_places : reverse (places_in_row vertices level r r.y1) ≡ map (λ u. corner_place vertices level (south_walk r u).0 (south_walk r u).1) (range_with_len 0 (int_gap r.x0 r.x1 + 1))
  unfolding places_in_row
  south_places =
      ap reverse (map_of_map (λ i. corner_place vertices level i r.y1) (λ u. r.x0 +ℤ pos u) (range_with_len 0 (columns r))
      ∙ ap (λ n. map (λ u. corner_place vertices level (r.x0 +ℤ pos u) r.y1) (range_with_len 0 n)) (more_columns r some))
      ∙ turned (λ u. corner_place vertices level (r.x0 +ℤ pos u) r.y1) (λ u. corner_place vertices level (r.x1 -ℤ pos u) r.y1) (int_gap r.x0 r.x1 + 1) 0 (λ u w low e. ap (λ i. corner_place vertices level i r.y1) (back u w e))
    where
      back : (u w : ℕ) → u + w + 1 ≡ int_gap r.x0 r.x1 + 1 + 0 → r.x0 +ℤ pos u ≡ r.x1 -ℤ pos w
      back u w e = let a = some.across in let g = gap_by r.x0 r.x1 in omega (arith, ints, a, g, e)

  west_places : reverse (places_in_column vertices level r r.x0) ≡ map (λ u. corner_place vertices level (west_walk r u).0 (west_walk r u).1) (range_with_len 0 (int_gap r.y0 r.y1 + 1))
  unfolding places_in_column
  west_places =
      ap reverse (map_of_map (λ j. corner_place vertices level r.x0 j) (λ u. r.y0 +ℤ pos u) (range_with_len 0 (rows r))
      ∙ ap (λ n. map (λ u. corner_place vertices level r.x0 (r.y0 +ℤ pos u)) (range_with_len 0 n)) (more_rows r some))
      ∙ turned (λ u. corner_place vertices level r.x0 (r.y0 +ℤ pos u)) (λ u. corner_place vertices level r.x0 (r.y1 -ℤ pos u)) (int_gap r.y0 r.y1 + 1) 0 (λ u w low e. ap (λ j. corner_place vertices level r.x0 j) (back u w e))
    where
      back : (u w : ℕ) → u + w + 1 ≡ int_gap r.y0 r.y1 + 1 + 0 → r.y0 +ℤ pos u ≡ r.y1 -ℤ pos w
      back u w e = let a = some.along in let g = gap_by r.y0 r.y1 in omega (arith, ints, a, g, e)

-- the parts of the stitches round a region that has a cell
four_parts : List Vertex → ℕ → Region → List PartTriangles
four_parts vertices level r =
    stitch_part level StitchNorth (places_in_row vertices level r r.y0)
    ∷ stitch_part level StitchEast (places_in_column vertices level r r.x1)
    ∷ stitch_part level StitchSouth (reverse (places_in_row vertices level r r.y1))
    ∷ stitch_part level StitchWest (reverse (places_in_column vertices level r r.x0))
    ∷ []

parts_are : (vertices : List Vertex) (level : ℕ) (r : Region) → HasCell r → stitch_parts vertices level r ≡ four_parts vertices level r
unfolding stitch_parts four_parts
parts_are vertices level r some = rw (not_empty r some) refl

parts_none : (vertices : List Vertex) (level : ℕ) → stitch_parts vertices level empty_region ≡ []
unfolding stitch_parts
parts_none vertices level = rw empty_is_empty refl

module _ (vertices : List Vertex) (level a b : ℕ) (p q : Spot) (ma : Marks vertices level a p) (mb : Marks vertices level b q) where
  module _ (r g : Region) (some : HasCell r) (h : AreHalves r g) where
    north_tally : sum_by (edges_of a b) (stitches_along (places_in_row vertices level r r.y0))
        ≡ by_step (pos 1) (pos 0) (has_cell_at (north_steps r)) p q + by_step (pos 1) (pos 0) (has_cell_at (north_steps g)) (coarser_spot q) (coarser_spot p)
    north_tally =
        ap (λ walk. sum_by (edges_of a b) (stitches_along walk)) (north_places vertices level r some)
        ∙ walk_tally vertices level a b p q ma mb (north_walk r) (north_walk g) (int_gap r.x0 r.x1) (int_gap g.x0 g.x1) (half_columns r g h) (record {
          column = λ s. let e = h.west in omega (arith, ints, e);
          row = λ s. h.north;
        })
        ∙ (λ t. north_side r p q t + north_side g (coarser_spot q) (coarser_spot p) t)

    east_tally : sum_by (edges_of a b) (stitches_along (places_in_column vertices level r r.x1))
        ≡ by_step (pos 0) (pos 1) (has_cell_at (east_steps r)) p q + by_step (pos 0) (pos 1) (has_cell_at (east_steps g)) (coarser_spot q) (coarser_spot p)
    east_tally =
        ap (λ walk. sum_by (edges_of a b) (stitches_along walk)) (east_places vertices level r some)
        ∙ walk_tally vertices level a b p q ma mb (east_walk r) (east_walk g) (int_gap r.y0 r.y1) (int_gap g.y0 g.y1) (half_rows r g h) (record {
          column = λ s. h.east;
          row = λ s. let e = h.north in omega (arith, ints, e);
        })
        ∙ (λ t. east_side r p q t + east_side g (coarser_spot q) (coarser_spot p) t)

    south_tally : sum_by (edges_of a b) (stitches_along (reverse (places_in_row vertices level r r.y1)))
        ≡ by_step (negsuc 0) (pos 0) (has_cell_at (south_steps r)) p q + by_step (negsuc 0) (pos 0) (has_cell_at (south_steps g)) (coarser_spot q) (coarser_spot p)
    south_tally =
        ap (λ walk. sum_by (edges_of a b) (stitches_along walk)) (south_places vertices level r some)
        ∙ walk_tally vertices level a b p q ma mb (south_walk r) (south_walk g) (int_gap r.x0 r.x1) (int_gap g.x0 g.x1) (half_columns r g h) (record {
          column = λ s. let e = h.east in omega (arith, ints, e);
          row = λ s. h.south;
        })
        ∙ (λ t. south_side r p q t + south_side g (coarser_spot q) (coarser_spot p) t)

    west_tally : sum_by (edges_of a b) (stitches_along (reverse (places_in_column vertices level r r.x0)))
        ≡ by_step (pos 0) (negsuc 0) (has_cell_at (west_steps r)) p q + by_step (pos 0) (negsuc 0) (has_cell_at (west_steps g)) (coarser_spot q) (coarser_spot p)
    west_tally =
        ap (λ walk. sum_by (edges_of a b) (stitches_along walk)) (west_places vertices level r some)
        ∙ walk_tally vertices level a b p q ma mb (west_walk r) (west_walk g) (int_gap r.y0 r.y1) (int_gap g.y0 g.y1) (half_rows r g h) (record {
          column = λ s. h.west;
          row = λ s. let e = h.south in omega (arith, ints, e);
        })
        ∙ (λ t. west_side r p q t + west_side g (coarser_spot q) (coarser_spot p) t)

    around : sum_by (edges_of a b) (flat_map (λ (part : PartTriangles). part.triangles) (stitch_parts vertices level r)) ≡ border_edges r p q + border_edges g (coarser_spot q) (coarser_spot p)
    unfolding stitch_part border_edges four_parts
    around =
        let four = four_parts vertices level r in
        let tallies : sum_by (λ (part : PartTriangles). sum_by (edges_of a b) part.triangles) four
        ≡ 0 + sum_by (edges_of a b) (stitches_along (places_in_row vertices level r r.y0)) + sum_by (edges_of a b) (stitches_along (places_in_column vertices level r r.x1))
        + sum_by (edges_of a b) (stitches_along (reverse (places_in_row vertices level r r.y1))) + sum_by (edges_of a b) (stitches_along (reverse (places_in_column vertices level r r.x0))) = refl in
        let north = north_tally in
        let east = east_tally in
        let south = south_tally in
        let west = west_tally in
        ap (λ parts. sum_by (edges_of a b) (flat_map (λ (part : PartTriangles). part.triangles) parts)) (parts_are vertices level r some)
        ∙ sum_flat_map (edges_of a b) (λ (part : PartTriangles). part.triangles) four
        ∙ (omega (arith, tallies, north, east, south, west))

  pub border_tally : (active : Region) → IsWideOrEmpty active → IsEvenOrEmpty active →
      sum_by (edges_of a b) (flat_map (λ (part : PartTriangles). part.triangles) (stitch_parts vertices level active)) ≡ border_edges active p q + border_edges (hole active) (coarser_spot q) (coarser_spot p)
  border_tally active (inl e) shape =
      subst (λ (r : Region). sum_by (edges_of a b) (flat_map (λ (part : PartTriangles). part.triangles) (stitch_parts vertices level r)) ≡ border_edges r p q + border_edges (hole r) (coarser_spot q) (coarser_spot p)) (sym e) none
    where
      none : sum_by (edges_of a b) (flat_map (λ (part : PartTriangles). part.triangles) (stitch_parts vertices level empty_region)) ≡ border_edges empty_region p q + border_edges (hole empty_region) (coarser_spot q) (coarser_spot p)
      none =
          let holes : border_edges (hole empty_region) (coarser_spot q) (coarser_spot p) ≡ 0 = ap (λ r. border_edges r (coarser_spot q) (coarser_spot p)) no_hole ∙ no_border (coarser_spot q) (coarser_spot p) in
          let own = no_border p q in
          ap (λ parts. sum_by (edges_of a b) (flat_map (λ (part : PartTriangles). part.triangles) parts)) (parts_none vertices level) ∙ (omega (arith, holes, own))
  border_tally active (inr wide) shape =
      let some = wide_has_cell active wide in
      around active (halved active) some (are_halves active (even_if_cell active shape some))
      ∙ ap (λ g. border_edges active p q + border_edges g (coarser_spot q) (coarser_spot p)) (sym (hole_is active some))
