-- The triangles of a ring by places in closed form: each corner of its squares is a cell that it lists or lies on the border of its hole.
use Rattle.std.proofs.Common.{◌≡◌, ℕ, ◌+◌, ◌≤◌, true, false, List, [], ◌∷◌, ◌++◌, ℤ, pos, ◌+ℤ◌, ◌-ℤ◌, ◌*ℤ◌, ◌≤ℤ◌, refl, ap, subst, ◌∙◌, inl, inr, arith}
use Rattle.std.proofs.lemmas.Int.{ints}
use Rattle.std.proofs.lemmas.Bool.{cases_Bool, false_from_ne_true}
use Rattle.clip_regions.specs.declared.region.Region.{Region}
use Rattle.clip_regions.specs.Regions.{contains, is_empty, empty_region, cells}
use Rattle.plan_model.specs.Laws.{IsEvenOrEmpty, AllEvenOrEmpty, AreNested}
use Rattle.terrain_model.specs.Terrain.{Terrain}
use Rattle.mesh_model.specs.declared.shapes.Vertex.{Vertex}
use Rattle.mesh_model.specs.declared.shapes.PartKind.{PartKind}
use Rattle.mesh_model.specs.declared.shapes.PartKind.TheVariants.{Whole, North, West, East, South}
use Rattle.mesh_model.specs.Vertices.{hole, mesh_vertices, place_of}
use Rattle.mesh_model.specs.Parts.{PartTriangles, corner_place, square_triangles, corners_at, squares_in, square_part, square_parts, square_parts_from}
use Rattle.mesh_model.specs.Laws.{VerticesApart, OwnPlaces}
use Rattle.mesh_laws.specs.declared.ring.Ring.{Ring}
use Rattle.mesh_laws.specs.Rings.{no_ring, next_ring, place_in, corner_of, ring_square, ring_triangles, ring_part, ring_parts, ring_parts_from}
use Rattle.mesh_laws.proofs.Lists.{flat_map_same}
use Rattle.mesh_laws.proofs.Rectangles.{IsAmid, amid_hole}
use Rattle.mesh_laws.proofs.Places.{IsPlaced, ArePlaced, all_placed, from_nothing}
use Rattle.clip_regions.proofs.Cells.{Lies, lies, HasCell, has_cell, cell_in, Within, empty_is_empty}
use Rattle.mesh_model.proofs.Rectangles.{IsInner, hole_within, none_in, no_hole, from_hole}
use Rattle.mesh_model.proofs.Cells.{all_cells}
use Rattle.mesh_model.proofs.Listed.{coarser_step}

finer_corner : (vertices : List Vertex) (level : ℕ) (i j : ℤ) → corner_place vertices (level + 1) i j ≡ corner_place vertices level (pos 2 *ℤ i) (pos 2 *ℤ j)
unfolding corner_place
finer_corner vertices level i j = λ t. place_of vertices (coarser_step i level t) (coarser_step j level t)

-- a cell on the border of a hole has the place of the finer ring's cell at its position
pub record HasRim (vertices : List Vertex) (level : ℕ) (finer : Ring) (gap : Region) : Type 0 where
  pub at : (i j : ℤ) → Lies gap i j → (IsAmid gap i j → ⊥) → corner_place vertices level i j ≡ place_in finer (pos 2 *ℤ i) (pos 2 *ℤ j)

pub no_rim : (vertices : List Vertex) → HasRim vertices 0 no_ring (hole empty_region)
no_rim vertices = record {
  at = λ i j l edge.
      let nowhere : Lies empty_region i j = subst (λ (r : Region). Lies r i j) no_hole l in
      none_in (corner_place vertices 0 i j ≡ place_in no_ring (pos 2 *ℤ i) (pos 2 *ℤ j)) empty_region empty_is_empty (cell_in empty_region i j nowhere);
}

pub next_rim : (vertices : List Vertex) (level e : ℕ) (finer : Ring) (active : Region) → 1 ≤ e → IsEvenOrEmpty active → IsInner e finer.active active →
    IsPlaced vertices level (next_ring finer active) → HasRim vertices (level + 1) (next_ring finer active) (hole active)
unfolding next_ring
next_rim vertices level e finer active margin shape inner placed = record {
  at = λ i j l edge.
      let out : contains (hole finer.active) (pos 2 *ℤ i) (pos 2 *ℤ j) ≡ false =
      false_from_ne_true (contains (hole finer.active) (pos 2 *ℤ i) (pos 2 *ℤ j)) (λ t. edge (amid_hole e finer.active active i j margin shape inner l (lies (hole finer.active) (pos 2 *ℤ i) (pos 2 *ℤ j) t))) in
      finer_corner vertices level i j ∙ placed.at (pos 2 *ℤ i) (pos 2 *ℤ j) (from_hole active i j shape l) out;
}

-- a cell of a ring's region that isn't strictly inside its hole
pub record IsCorner (ring : Ring) (i j : ℤ) : Type 0 where
  pub cell : Lies ring.active i j
  pub edge : IsAmid ring.hole i j → ⊥

pub corner_same : (vertices : List Vertex) (level : ℕ) (finer ring : Ring) (i j : ℤ) → HasRim vertices level finer ring.hole → IsPlaced vertices level ring → IsCorner ring i j →
    corner_place vertices level i j ≡ corner_of finer ring i j
unfolding corner_of
corner_same vertices level finer ring i j rim placed corner =
    elim (cases_Bool (contains ring.hole i j)) [
      | inl e ↦ rw e (rim.at i j (lies ring.hole i j e) corner.edge)
      | inr e ↦ rw e (placed.at i j corner.cell e)
    ]

-- a block of squares between these lines that lies in a ring
record IsBlock (ring : Ring) (x0 x1 y0 y1 : ℤ) : Type 0 where
  west : ring.active.x0 ≤ℤ x0
  east : x1 ≤ℤ ring.active.x1
  north : ring.active.y0 ≤ℤ y0
  south : y1 ≤ℤ ring.active.y1
  clear : (i j : ℤ) → x0 ≤ℤ i → i ≤ℤ x1 → y0 ≤ℤ j → j ≤ℤ y1 → IsAmid ring.hole i j → ⊥

block_corner : (ring : Ring) (x0 x1 y0 y1 : ℤ) → IsBlock ring x0 x1 y0 y1 → (i j : ℤ) → x0 ≤ℤ i → i ≤ℤ x1 → y0 ≤ℤ j → j ≤ℤ y1 → IsCorner ring i j
block_corner ring x0 x1 y0 y1 block i j west east north south =
    let bw = block.west in
    let be = block.east in
    let bn = block.north in
    let bs = block.south in
    record {
      cell = record { west = omega (arith, ints, bw, west); east = omega (arith, ints, be, east); north = omega (arith, ints, bn, north); south = omega (arith, ints, bs, south) };
      edge = block.clear i j west east north south;
    }

block_same : (vertices : List Vertex) (level : ℕ) (kind : PartKind) (finer ring : Ring) (x0 x1 y0 y1 : ℤ) → HasRim vertices level finer ring.hole → IsPlaced vertices level ring →
    IsBlock ring x0 x1 y0 y1 → square_part vertices level kind (squares_in (corners_at x0 y0 x1 y1)) ≡ ring_part finer ring level kind (squares_in (corners_at x0 y0 x1 y1))
unfolding square_part ring_part ring_triangles squares_in square_triangles ring_square
block_same vertices level kind finer ring x0 x1 y0 y1 rim placed block =
    ap {A = List (List ℕ)} {B = PartTriangles} (λ triangles. record { level = level; kind = kind; triangles = triangles })
    (flat_map_same (λ cell. square_triangles vertices level cell.0 cell.1) (λ cell. ring_square finer ring cell.0 cell.1) (cells squares)
    (all_cells (λ cell. square_triangles vertices level cell.0 cell.1 ≡ ring_square finer ring cell.0 cell.1) squares (λ i j l. square i j l)))
  where
    squares : Region
    squares = record { x0 = x0; y0 = y0; x1 = x1 -ℤ pos 1; y1 = y1 -ℤ pos 1 }

    same : (i j : ℤ) → IsCorner ring i j → corner_place vertices level i j ≡ corner_of finer ring i j
    same i j corner = corner_same vertices level finer ring i j rim placed corner

    square : (i j : ℤ) → Lies squares i j → square_triangles vertices level i j ≡ ring_square finer ring i j
    square i j l =
        let lw = l.west in
        let le = l.east in
        let ln = l.north in
        let ls = l.south in
        let corner = block_corner ring x0 x1 y0 y1 block in
        let nw = same i j (corner i j lw (omega (arith, ints, le)) ln (omega (arith, ints, ls))) in
        let sw = same i (j +ℤ pos 1) (corner i (j +ℤ pos 1) lw (omega (arith, ints, le)) (omega (arith, ints, ln)) (omega (arith, ints, ls))) in
        let se = same (i +ℤ pos 1) (j +ℤ pos 1) (corner (i +ℤ pos 1) (j +ℤ pos 1) (omega (arith, ints, lw)) (omega (arith, ints, le)) (omega (arith, ints, ln)) (omega (arith, ints, ls))) in
        let ne = same (i +ℤ pos 1) j (corner (i +ℤ pos 1) j (omega (arith, ints, lw)) (omega (arith, ints, le)) ln (omega (arith, ints, ls))) in
        λ t. (nw t ∷ sw t ∷ se t ∷ []) ∷ (nw t ∷ se t ∷ ne t ∷ []) ∷ []

parts_same : (vertices : List Vertex) (level e : ℕ) (finer : Ring) (active : Region) → HasRim vertices level finer (hole finer.active) → IsPlaced vertices level (next_ring finer active) →
    IsInner e finer.active active → square_parts vertices level finer.active active ≡ ring_parts level finer (next_ring finer active)
unfolding square_parts ring_parts next_ring
parts_same vertices level e finer active rim placed inner =
    elim (cases_Bool (is_empty active)) [
      | inl none ↦ rw none refl
      | inr some ↦ elim (cases_Bool (is_empty gap)) [
        | inl closed ↦ rw (some, closed) (ap (λ part. part ∷ []) (block_same vertices level Whole finer ring active.x0 active.x1 active.y0 active.y1 rim placed (whole_block closed)))
        | inr open' ↦ rw (some, open') (around (has_cell gap open'))
      ]
    ]
  where
    gap : Region
    gap = hole finer.active

    ring : Ring
    ring = next_ring finer active

    whole_block : is_empty gap ≡ true → IsBlock ring active.x0 active.x1 active.y0 active.y1
    whole_block closed = record {
      west = omega (arith, ints);
      east = omega (arith, ints);
      north = omega (arith, ints);
      south = omega (arith, ints);
      clear = λ i j _ _ _ _ amid. none_in ⊥ gap closed (record { across = omega (arith, ints, amid.west, amid.east); along = omega (arith, ints, amid.north, amid.south) });
    }

    around : HasCell gap →
        square_part vertices level North (squares_in (corners_at active.x0 active.y0 active.x1 gap.y0))
        ∷ square_part vertices level West (squares_in (corners_at active.x0 gap.y0 gap.x0 gap.y1))
        ∷ square_part vertices level East (squares_in (corners_at gap.x1 gap.y0 active.x1 gap.y1))
        ∷ square_part vertices level South (squares_in (corners_at active.x0 gap.y1 active.x1 active.y1))
        ∷ []
        ≡ ring_part finer ring level North (squares_in (corners_at active.x0 active.y0 active.x1 gap.y0))
        ∷ ring_part finer ring level West (squares_in (corners_at active.x0 gap.y0 gap.x0 gap.y1))
        ∷ ring_part finer ring level East (squares_in (corners_at gap.x1 gap.y0 active.x1 gap.y1))
        ∷ ring_part finer ring level South (squares_in (corners_at active.x0 gap.y1 active.x1 active.y1))
        ∷ []
    around some =
        let w : Within active gap = hole_within e finer.active active inner some in
        let across = some.across in
        let along = some.along in
        let ww = w.west in
        let we = w.east in
        let wn = w.north in
        let ws = w.south in
        let north = block_same vertices level North finer ring active.x0 active.x1 active.y0 gap.y0 rim placed (record {
          west = omega (arith, ints);
          east = omega (arith, ints);
          north = omega (arith, ints);
          south = omega (arith, ints, along, ws);
          clear = λ i j _ _ _ low amid. omega (arith, ints, low, amid.north);
        }) in
        let west = block_same vertices level West finer ring active.x0 gap.x0 gap.y0 gap.y1 rim placed (record {
          west = omega (arith, ints);
          east = omega (arith, ints, across, we);
          north = wn;
          south = ws;
          clear = λ i j _ low _ _ amid. omega (arith, ints, low, amid.west);
        }) in
        let east = block_same vertices level East finer ring gap.x1 active.x1 gap.y0 gap.y1 rim placed (record {
          west = omega (arith, ints, across, ww);
          east = omega (arith, ints);
          north = wn;
          south = ws;
          clear = λ i j high _ _ _ amid. omega (arith, ints, high, amid.east);
        }) in
        let south = block_same vertices level South finer ring active.x0 active.x1 gap.y1 active.y1 rim placed (record {
          west = omega (arith, ints);
          east = omega (arith, ints);
          north = omega (arith, ints, along, wn);
          south = omega (arith, ints);
          clear = λ i j _ _ high _ amid. omega (arith, ints, high, amid.south);
        }) in
        λ t. north t ∷ west t ∷ east t ∷ south t ∷ []

all_parts_same : (vertices : List Vertex) (level e : ℕ) (finer : Ring) (actives : List Region) → 1 ≤ e → HasRim vertices level finer (hole finer.active) → ArePlaced vertices level finer actives →
    AllEvenOrEmpty actives → AreNested e (finer.active ∷ actives) → square_parts_from vertices level finer.active actives ≡ ring_parts_from level finer actives
unfolding next_ring
all_parts_same vertices level e finer [] margin rim placed shapes nested = refl
all_parts_same vertices level e finer (active ∷ coarser) margin rim placed shapes nested =
    let here = parts_same vertices level e finer active rim placed.0 nested.0 in
    let next = next_rim vertices level e finer active margin shapes.0 nested.0 placed.0 in
    let rest = all_parts_same vertices (level + 1) e (next_ring finer active) coarser margin next placed.1 shapes.1 nested.1 in
    λ t. here t ++ rest t

pub square_parts_same : (terrain : Terrain) (k e : ℕ) (actives : List Region) → 1 ≤ e → AllEvenOrEmpty actives → AreNested e actives → VerticesApart → OwnPlaces →
    square_parts_from (mesh_vertices terrain k actives) 0 empty_region actives ≡ ring_parts_from 0 no_ring actives
square_parts_same terrain k e actives margin shapes nested apart own =
    let vertices = mesh_vertices terrain k actives in
    all_parts_same vertices 0 e no_ring actives margin (no_rim vertices) (all_placed terrain k e actives nested apart own) shapes (from_nothing e actives nested)
