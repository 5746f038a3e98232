-- The stitches by places in closed form: a cell on the border of a region doesn't lie in its hole, so its ring lists it.
use Rattle.std.proofs.Common.{◌≡◌, ℕ, ◌+◌, ◌≤◌, List, [], ◌∷◌, ◌++◌, reverse, ℤ, ◌≤ℤ◌, map, refl, ap, ◌∙◌, ◌⊎◌, inl, inr, arith}
use Rattle.std.specs.List.{All}
use Rattle.std.proofs.lemmas.Int.{ints}
use Rattle.std.proofs.lemmas.Bool.{cases_Bool, false_from_ne_true}
use Rattle.std.proofs.lemmas.List.Elements.{All-head, All-tail}
use Rattle.clip_regions.specs.declared.region.Region.{Region}
use Rattle.clip_regions.specs.Regions.{contains, is_empty, columns, rows, numbers_from}
use Rattle.plan_model.specs.Laws.{AreNested}
use Rattle.terrain_model.specs.Terrain.{Terrain}
use Rattle.mesh_model.specs.declared.shapes.Vertex.{Vertex}
use Rattle.mesh_model.specs.declared.shapes.PartKind.TheVariants.{StitchNorth, StitchEast, StitchSouth, StitchWest}
use Rattle.mesh_model.specs.Vertices.{hole, mesh_vertices}
use Rattle.mesh_model.specs.Parts.{corner_place, places_in_row, places_in_column, stitch_part, stitch_parts, stitch_parts_from, all_stitch_parts}
use Rattle.mesh_model.specs.Laws.{VerticesApart, OwnPlaces}
use Rattle.mesh_laws.specs.declared.ring.Ring.{Ring}
use Rattle.mesh_laws.specs.Rings.{no_ring, next_ring, place_in}
use Rattle.mesh_laws.specs.Stitches.{row_places, column_places, ring_stitches, ring_stitches_from, all_ring_stitches}
use Rattle.mesh_laws.proofs.Rectangles.{IsDeep, hole_deep}
use Rattle.mesh_laws.proofs.Places.{IsPlaced, ArePlaced, all_placed, from_nothing}
use Rattle.clip_regions.proofs.Cells.{Lies, lies, HasCell, has_cell, cell_in}
use Rattle.mesh_model.proofs.Rectangles.{IsInner}
use Rattle.mesh_model.proofs.Cells.{all_between}

-- two functions that agree on a list give one list
map_same : {A B : Type 0} (f g : A → B) (xs : List A) → All (λ x. f x ≡ g x) xs → map f xs ≡ map g xs
map_same f g [] h = refl
map_same f g (x ∷ xs) h =
    ap (λ y. y ∷ map f xs) (All-head (λ z. f z ≡ g z) x xs h)
    ∙ ap (λ rest. g x ∷ rest) (map_same f g xs (All-tail (λ z. f z ≡ g z) x xs h))

-- a cell on one of the four sides of a region
abbrev pub OnSide : Region → ℤ → ℤ → Type 0
OnSide r i j = (i ≡ r.x0) ⊎ ((i ≡ r.x1) ⊎ ((j ≡ r.y0) ⊎ (j ≡ r.y1)))

pub not_deep : (e : ℕ) (active gap : Region) (i j : ℤ) → 1 ≤ e → IsDeep e active gap → Lies gap i j → OnSide active i j → ⊥
not_deep e active gap i j some d l (inl side) = omega (arith, ints, some, d.west, l.west, side)
not_deep e active gap i j some d l (inr (inl side)) = omega (arith, ints, some, d.east, l.east, side)
not_deep e active gap i j some d l (inr (inr (inl side))) = omega (arith, ints, some, d.north, l.north, side)
not_deep e active gap i j some d l (inr (inr (inr side))) = omega (arith, ints, some, d.south, l.south, side)

side_placed : (vertices : List Vertex) (level e : ℕ) (finer : Ring) (active : Region) (i j : ℤ) → 1 ≤ e → IsInner e finer.active active → IsPlaced vertices level (next_ring finer active) →
    Lies active i j → OnSide active i j → corner_place vertices level i j ≡ place_in (next_ring finer active) i j
unfolding next_ring
side_placed vertices level e finer active i j some inner placed l side =
    let gap = hole finer.active in
    placed.at i j l (false_from_ne_true (contains gap i j) (λ t.
    let deep : Lies gap i j = lies gap i j t in
    not_deep e active gap i j some (hole_deep e finer.active active inner (cell_in gap i j deep)) deep side))

-- what stands at each cell of a row or a column that is a side
row_same : (vertices : List Vertex) (level : ℕ) (ring : Ring) (j : ℤ) → ((i : ℤ) → ring.active.x0 ≤ℤ i → i ≤ℤ ring.active.x1 → corner_place vertices level i j ≡ place_in ring i j) →
    places_in_row vertices level ring.active j ≡ row_places ring j
unfolding places_in_row row_places columns
row_same vertices level ring j same =
    map_same (λ i. corner_place vertices level i j) (λ i. place_in ring i j) (numbers_from ring.active.x0 (columns ring.active))
    (all_between (λ i. corner_place vertices level i j ≡ place_in ring i j) ring.active.x0 ring.active.x1 same)

column_same : (vertices : List Vertex) (level : ℕ) (ring : Ring) (i : ℤ) → ((j : ℤ) → ring.active.y0 ≤ℤ j → j ≤ℤ ring.active.y1 → corner_place vertices level i j ≡ place_in ring i j) →
    places_in_column vertices level ring.active i ≡ column_places ring i
unfolding places_in_column column_places rows
column_same vertices level ring i same =
    map_same (λ j. corner_place vertices level i j) (λ j. place_in ring i j) (numbers_from ring.active.y0 (rows ring.active))
    (all_between (λ j. corner_place vertices level i j ≡ place_in ring i j) ring.active.y0 ring.active.y1 same)

border_same : (vertices : List Vertex) (level e : ℕ) (finer : Ring) (active : Region) → 1 ≤ e → IsInner e finer.active active → IsPlaced vertices level (next_ring finer active) →
    stitch_parts vertices level active ≡ ring_stitches level (next_ring finer active)
unfolding stitch_parts ring_stitches next_ring
border_same vertices level e finer active margin inner placed =
    elim (cases_Bool (is_empty active)) [
      | inl none ↦ rw none refl
      | inr some ↦ rw some (around (has_cell active some))
    ]
  where
    ring : Ring
    ring = next_ring finer active

    at : (i j : ℤ) → Lies active i j → OnSide active i j → corner_place vertices level i j ≡ place_in ring i j
    at i j l side = side_placed vertices level e finer active i j margin inner placed l side

    around : HasCell active →
        stitch_part level StitchNorth (places_in_row vertices level active active.y0)
        ∷ stitch_part level StitchEast (places_in_column vertices level active active.x1)
        ∷ stitch_part level StitchSouth (reverse (places_in_row vertices level active active.y1))
        ∷ stitch_part level StitchWest (reverse (places_in_column vertices level active active.x0))
        ∷ []
        ≡ stitch_part level StitchNorth (row_places ring active.y0)
        ∷ stitch_part level StitchEast (column_places ring active.x1)
        ∷ stitch_part level StitchSouth (reverse (row_places ring active.y1))
        ∷ stitch_part level StitchWest (reverse (column_places ring active.x0))
        ∷ []
    around some =
        let across = some.across in
        let along = some.along in
        let north : places_in_row vertices level active active.y0 ≡ row_places ring active.y0 = row_same vertices level ring active.y0 (λ i west east. at i active.y0 (record { west = west; east = east; north = omega (arith, ints); south = along }) (inr (inr (inl refl)))) in
        let east : places_in_column vertices level active active.x1 ≡ column_places ring active.x1 = column_same vertices level ring active.x1 (λ j north south. at active.x1 j (record { west = across; east = omega (arith, ints); north = north; south = south }) (inr (inl refl))) in
        let south : places_in_row vertices level active active.y1 ≡ row_places ring active.y1 = row_same vertices level ring active.y1 (λ i west east. at i active.y1 (record { west = west; east = east; north = along; south = omega (arith, ints) }) (inr (inr (inr refl)))) in
        let west : places_in_column vertices level active active.x0 ≡ column_places ring active.x0 = column_same vertices level ring active.x0 (λ j north south. at active.x0 j (record { west = omega (arith, ints); east = across; north = north; south = south }) (inl refl)) in
        λ t.
        stitch_part level StitchNorth (north t)
        ∷ stitch_part level StitchEast (east t)
        ∷ stitch_part level StitchSouth (reverse (south t))
        ∷ stitch_part level StitchWest (reverse (west t))
        ∷ []

borders_same : (vertices : List Vertex) (level e : ℕ) (finer : Ring) (active : Region) (coarser : List Region) → 1 ≤ e → ArePlaced vertices level finer (active ∷ coarser) →
    AreNested e (finer.active ∷ active ∷ coarser) → stitch_parts_from vertices level active coarser ≡ ring_stitches_from level (next_ring finer active) coarser
unfolding next_ring
borders_same vertices level e finer active [] margin placed nested = refl
borders_same vertices level e finer active (next ∷ coarser) margin placed nested =
    let here = border_same vertices level e finer active margin nested.0 placed.0 in
    let rest = borders_same vertices (level + 1) e (next_ring finer active) next coarser margin placed.1 nested.1 in
    λ t. here t ++ rest t

pub stitch_parts_same : (terrain : Terrain) (k e : ℕ) (actives : List Region) → 1 ≤ e → AreNested e actives → VerticesApart → OwnPlaces →
    all_stitch_parts (mesh_vertices terrain k actives) actives ≡ all_ring_stitches actives
stitch_parts_same terrain k e [] margin nested apart own = refl
stitch_parts_same terrain k e (active ∷ coarser) margin nested apart own =
    borders_same (mesh_vertices terrain k (active ∷ coarser)) 0 e no_ring active coarser margin
    (all_placed terrain k e (active ∷ coarser) nested apart own) (from_nothing e (active ∷ coarser) nested)
