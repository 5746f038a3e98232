-- Each part of a mesh of a frame's active regions has a triangle.
use Rattle.std.proofs.Common.{◌≡◌, ℕ, ◌+◌, ◌*◌, ◌%◌, ◌≤◌, false, ℤ, pos, ◌+ℤ◌, ◌-ℤ◌, ◌≤ℤ◌, ◌<ℤ◌, List, [], ◌∷◌, ◌++◌, length, reverse, refl, ap, sym, ◌∙◌, subst, inl, inr, arith}
use Rattle.std.specs.List.{All}
use Rattle.std.specs.Int.{int_gap}
use Rattle.std.proofs.Math.Nat.{one-le-mul}
use Rattle.std.proofs.lemmas.Int.{ints}
use Rattle.std.proofs.lemmas.Bool.{cases_Bool, true≢false}
use Rattle.std.proofs.lemmas.List.{length-reverse}
use Rattle.std.proofs.lemmas.List.Elements.{All-nil, All-cons, All-append, All-head, All-tail}
use Rattle.clip_regions.specs.declared.region.Region.{Region}
use Rattle.clip_regions.specs.FloorDivision.{floor_div}
use Rattle.clip_regions.specs.Regions.{is_empty, empty_region, columns, rows, HasEvenCorners}
use Rattle.clip_regions.proofs.Cells.{HasCell, has_cell, not_empty, empty_is_empty}
use Rattle.clip_regions.proofs.Gaps.{gap_by}
use Rattle.plan_model.specs.Laws.{IsEvenOrEmpty, AllEvenOrEmpty, AreNested}
use Rattle.plan_model.specs.Window.{margin}
use Rattle.plan_model.proofs.ActiveLaws.{even_if_cell}
use Rattle.terrain_model.specs.Terrain.{Terrain}
use Rattle.active_region.specs.Active.{IsWide, IsWideOrEmpty, AreActive}
use Rattle.mesh_model.specs.declared.shapes.Vertex.{Vertex}
use Rattle.mesh_model.specs.declared.shapes.Part.{Part}
use Rattle.mesh_model.specs.declared.shapes.PartKind.{PartKind}
use Rattle.mesh_model.specs.declared.shapes.PartKind.TheVariants.{Whole, North, West, East, South, StitchNorth, StitchEast, StitchSouth, StitchWest}
use Rattle.mesh_model.specs.Vertices.{hole, mesh_vertices}
use Rattle.mesh_model.specs.Parts.{PartTriangles, corners_at, squares_in, square_part, square_parts, square_parts_from, places_in_row, places_in_column, stitch_part, stitch_parts, stitch_parts_from, all_stitch_parts, parts_of_regions}
use Rattle.mesh_model.specs.Mesh.{part_at, parts_from, mesh_of_parts, mesh}
use Rattle.mesh_model.proofs.Rectangles.{rem_below, half_and_rest, hole_is, hole_needs_cell, IsInner}
use Rattle.mesh_model.proofs.Named.{from_nothing}
use Rattle.mesh_model.proofs.Tallies.{part_length, side_length, row_length, column_length, odd_gap}
use Rattle.mesh_laws.proofs.Rectangles.{IsDeep, hole_deep}

abbrev HasTriangle : PartTriangles → Type 0
HasTriangle part = 1 ≤ length part.triangles

wide_of : (r : Region) → IsWideOrEmpty r → is_empty r ≡ false → IsWide r
wide_of r (inl e) some = absurd (true≢false (sym (ap is_empty e ∙ empty_is_empty) ∙ some))
wide_of r (inr w) some = w

-- ---- squares
some_gap : (a b : ℤ) → a <ℤ b → 1 ≤ int_gap a b
some_gap a b h = omega (arith, ints, gap_by a b)

some_squares : (vertices : List Vertex) (level : ℕ) (kind : PartKind) (x0 x1 y0 y1 : ℤ) → x0 <ℤ x1 → y0 <ℤ y1 → HasTriangle (square_part vertices level kind (squares_in (corners_at x0 y0 x1 y1)))
some_squares vertices level kind x0 x1 y0 y1 across along =
    let many : 1 ≤ int_gap x0 x1 * int_gap y0 y1 = one-le-mul (some_gap x0 x1 across) (some_gap y0 y1 along) in
    omega (arith, many, part_length vertices level kind x0 x1 y0 y1)

half_apart : (a b : ℤ) → pos 2 ≤ℤ (b -ℤ a) → floor_div a 2 <ℤ floor_div b 2
half_apart a b h = omega (arith, ints, half_and_rest a, half_and_rest b, rem_below a, rem_below b)

squares_filled : (vertices : List Vertex) (level e : ℕ) (finer active : Region) → 1 ≤ e → IsWideOrEmpty finer → IsWideOrEmpty active → IsInner e finer active →
    All HasTriangle (square_parts vertices level finer active)
unfolding square_parts
squares_filled vertices level e finer active apart wide_finer wide inner =
    elim (cases_Bool (is_empty active)) [
      | inl none ↦ rw none (All-nil HasTriangle)
      | inr some ↦ elim (cases_Bool (is_empty (hole finer))) [
        | inl closed ↦ rw (some, closed) (whole (wide_of active wide some))
        | inr open' ↦ rw (some, open') (round (has_cell (hole finer) open') (wide_of active wide some))
      ]
    ]
  where
    whole : IsWide active → All HasTriangle (square_part vertices level Whole (squares_in active) ∷ [])
    whole w =
        All-cons HasTriangle (square_part vertices level Whole (squares_in active)) []
        (some_squares vertices level Whole active.x0 active.x1 active.y0 active.y1 (omega (arith, ints, w.across)) (omega (arith, ints, w.along))) (All-nil HasTriangle)

    round : HasCell (hole finer) → IsWide active → All HasTriangle
        (square_part vertices level North (squares_in (corners_at active.x0 active.y0 active.x1 (hole finer).y0))
        ∷ square_part vertices level West (squares_in (corners_at active.x0 (hole finer).y0 (hole finer).x0 (hole finer).y1))
        ∷ square_part vertices level East (squares_in (corners_at (hole finer).x1 (hole finer).y0 active.x1 (hole finer).y1))
        ∷ square_part vertices level South (squares_in (corners_at active.x0 (hole finer).y1 active.x1 active.y1))
        ∷ [])
    round cell w =
        let gap = hole finer in
        let own : HasCell finer = hole_needs_cell finer cell in
        let v : IsWide finer = wide_of finer wide_finer (not_empty finer own) in
        let half = hole_is finer own in
        let deep : IsDeep e active gap = hole_deep e finer active inner cell in
        let along : gap.y0 <ℤ gap.y1 = subst (λ (g : Region). g.y0 <ℤ g.y1) (sym half) (half_apart finer.y0 finer.y1 v.along) in
        let west : active.x0 <ℤ gap.x0 = omega (arith, ints, deep.west) in
        let east : gap.x1 <ℤ active.x1 = omega (arith, ints, deep.east) in
        let north : active.y0 <ℤ gap.y0 = omega (arith, ints, deep.north) in
        let south : gap.y1 <ℤ active.y1 = omega (arith, ints, deep.south) in
        let across : active.x0 <ℤ active.x1 = omega (arith, ints, w.across) in
        let n = square_part vertices level North (squares_in (corners_at active.x0 active.y0 active.x1 gap.y0)) in
        let w' = square_part vertices level West (squares_in (corners_at active.x0 gap.y0 gap.x0 gap.y1)) in
        let e' = square_part vertices level East (squares_in (corners_at gap.x1 gap.y0 active.x1 gap.y1)) in
        let s = square_part vertices level South (squares_in (corners_at active.x0 gap.y1 active.x1 active.y1)) in
        All-cons HasTriangle n (w' ∷ e' ∷ s ∷ []) (some_squares vertices level North active.x0 active.x1 active.y0 gap.y0 across north)
        (All-cons HasTriangle w' (e' ∷ s ∷ []) (some_squares vertices level West active.x0 gap.x0 gap.y0 gap.y1 west along)
        (All-cons HasTriangle e' (s ∷ []) (some_squares vertices level East gap.x1 active.x1 gap.y0 gap.y1 east along)
        (All-cons HasTriangle s [] (some_squares vertices level South active.x0 active.x1 gap.y1 active.y1 across south) (All-nil HasTriangle))))

all_squares_filled : (vertices : List Vertex) (level e : ℕ) (finer : Region) (actives : List Region) → 1 ≤ e → All IsWideOrEmpty (finer ∷ actives) → AreNested e (finer ∷ actives) →
    All HasTriangle (square_parts_from vertices level finer actives)
all_squares_filled vertices level e finer [] apart wide nested = All-nil HasTriangle
all_squares_filled vertices level e finer (active ∷ coarser) apart wide nested =
    let rest = All-tail IsWideOrEmpty finer (active ∷ coarser) wide in
    All-append HasTriangle (square_parts vertices level finer active) (square_parts_from vertices (level + 1) active coarser)
    (squares_filled vertices level e finer active apart (All-head IsWideOrEmpty finer (active ∷ coarser) wide) (All-head IsWideOrEmpty active coarser rest) nested.0)
    (all_squares_filled vertices (level + 1) e active coarser apart rest nested.1)

-- ---- stitches
some_stitches : (level : ℕ) (kind : PartKind) (walk : List ℕ) (n : ℕ) → length walk ≡ n → n % 2 ≡ 1 → 3 ≤ n → HasTriangle (stitch_part level kind walk)
unfolding stitch_part
some_stitches level kind walk n e odd long = omega (arith, side_length walk n e odd)

long_side : (a b : ℤ) → pos 2 ≤ℤ (b -ℤ a) → 3 ≤ int_gap a (b +ℤ pos 1)
long_side a b h = omega (arith, ints, gap_by a (b +ℤ pos 1))

stitches_filled : (vertices : List Vertex) (level : ℕ) (active : Region) → IsWideOrEmpty active → IsEvenOrEmpty active → All HasTriangle (stitch_parts vertices level active)
unfolding stitch_parts columns rows
stitches_filled vertices level active wide shape =
    elim (cases_Bool (is_empty active)) [
      | inl none ↦ rw none (All-nil HasTriangle)
      | inr some ↦ rw some (border (has_cell active some) (wide_of active wide some))
    ]
  where
    border : HasCell active → IsWide active → All HasTriangle
        (stitch_part level StitchNorth (places_in_row vertices level active active.y0)
        ∷ stitch_part level StitchEast (places_in_column vertices level active active.x1)
        ∷ stitch_part level StitchSouth (reverse (places_in_row vertices level active active.y1))
        ∷ stitch_part level StitchWest (reverse (places_in_column vertices level active active.x0))
        ∷ [])
    border cell w =
        let even : HasEvenCorners active = even_if_cell active shape cell in
        let odd_columns : columns active % 2 ≡ 1 = odd_gap active.x0 active.x1 even.x0 even.x1 cell.across in
        let odd_rows : rows active % 2 ≡ 1 = odd_gap active.y0 active.y1 even.y0 even.y1 cell.along in
        let n = places_in_row vertices level active active.y0 in
        let e = places_in_column vertices level active active.x1 in
        let s = places_in_row vertices level active active.y1 in
        let w' = places_in_column vertices level active active.x0 in
        let wide_columns : 3 ≤ columns active = long_side active.x0 active.x1 w.across in
        let wide_rows : 3 ≤ rows active = long_side active.y0 active.y1 w.along in
        let part = λ (kind : PartKind) (walk : List ℕ). stitch_part level kind walk in
        All-cons HasTriangle (part StitchNorth n) (part StitchEast e ∷ part StitchSouth (reverse s) ∷ part StitchWest (reverse w') ∷ [])
        (some_stitches level StitchNorth n (columns active) (row_length vertices level active active.y0) odd_columns wide_columns)
        (All-cons HasTriangle (part StitchEast e) (part StitchSouth (reverse s) ∷ part StitchWest (reverse w') ∷ [])
        (some_stitches level StitchEast e (rows active) (column_length vertices level active active.x1) odd_rows wide_rows)
        (All-cons HasTriangle (part StitchSouth (reverse s)) (part StitchWest (reverse w') ∷ [])
        (some_stitches level StitchSouth (reverse s) (columns active) (length-reverse s ∙ row_length vertices level active active.y1) odd_columns wide_columns)
        (All-cons HasTriangle (part StitchWest (reverse w')) []
        (some_stitches level StitchWest (reverse w') (rows active) (length-reverse w' ∙ column_length vertices level active active.x0) odd_rows wide_rows)
        (All-nil HasTriangle))))

stitches_filled_from : (vertices : List Vertex) (level : ℕ) (active : Region) (coarser : List Region) → All IsWideOrEmpty (active ∷ coarser) → AllEvenOrEmpty (active ∷ coarser) →
    All HasTriangle (stitch_parts_from vertices level active coarser)
stitches_filled_from vertices level active [] wide shapes = All-nil HasTriangle
stitches_filled_from vertices level active (next ∷ coarser) wide shapes =
    All-append HasTriangle (stitch_parts vertices level active) (stitch_parts_from vertices (level + 1) next coarser)
    (stitches_filled vertices level active (All-head IsWideOrEmpty active (next ∷ coarser) wide) shapes.0)
    (stitches_filled_from vertices (level + 1) next coarser (All-tail IsWideOrEmpty active (next ∷ coarser) wide) shapes.1)

all_stitches_filled : (vertices : List Vertex) (actives : List Region) → All IsWideOrEmpty actives → AllEvenOrEmpty actives → All HasTriangle (all_stitch_parts vertices actives)
all_stitches_filled vertices [] wide shapes = All-nil HasTriangle
all_stitches_filled vertices (active ∷ coarser) wide shapes = stitches_filled_from vertices 0 active coarser wide shapes

-- ---- parts
parts_filled : (vertices : List Vertex) (first : ℕ) (parts : List PartTriangles) → All HasTriangle parts → All (λ (part : Part). 1 ≤ part.count) (parts_from vertices first parts)
unfolding part_at
parts_filled vertices first [] h = All-nil (λ (part : Part). 1 ≤ part.count)
parts_filled vertices first (part ∷ parts) h =
    All-cons (λ (p : Part). 1 ≤ p.count) (part_at vertices first part) (parts_from vertices (first + length part.triangles) parts) (All-head HasTriangle part parts h)
    (parts_filled vertices (first + length part.triangles) parts (All-tail HasTriangle part parts h))

some_margin : (k : ℕ) → 1 ≤ margin k
unfolding margin
some_margin k = omega arith

pub mesh_filled : (terrain : Terrain) (k : ℕ) (actives : List Region) → AreActive actives → All (λ (part : Part). 1 ≤ part.count) (mesh terrain k actives).parts
unfolding mesh mesh_of_parts parts_of_regions
mesh_filled terrain k actives active =
    let vertices = mesh_vertices terrain k actives in
    let e = margin active.k in
    let apart : 1 ≤ e = some_margin active.k in
    let wide = active.drawn.wide in
    parts_filled vertices 0 (square_parts_from vertices 0 empty_region actives ++ all_stitch_parts vertices actives)
    (All-append HasTriangle (square_parts_from vertices 0 empty_region actives) (all_stitch_parts vertices actives)
    (all_squares_filled vertices 0 e empty_region actives apart (All-cons IsWideOrEmpty empty_region actives (inl refl) wide) (from_nothing e actives active.drawn.nested))
    (all_stitches_filled vertices actives wide active.drawn.even))
