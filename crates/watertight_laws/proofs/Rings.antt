-- The edges of one level that are one step long: as many go one way as the other.
use Rattle.std.proofs.Common.{◌≡◌, ℕ, ◌+◌, ◌*◌, true, cond, ◌&&◌, ◌∷◌, ℤ, pos, ◌+ℤ◌, ◌-ℤ◌, ◌≤ℤ◌, ◌<ℤ◌, ap, sym, ◌∙◌, arith}
use Rattle.std.specs.List.{count_by}
use Rattle.std.proofs.lemmas.Int.{ints}
use Rattle.std.proofs.lemmas.Bool.{and_parts, and_from}
use Rattle.std.proofs.lemmas.List.Sums.{sum_by-cons}
use lib.Signed.{le_z}
use Rattle.clip_regions.specs.declared.region.Region.{Region}
use Rattle.clip_regions.specs.Regions.{contains}
use Rattle.mesh_model.specs.Vertices.{hole}
use Rattle.mesh_model.specs.Parts.{squares_in}
use Rattle.mesh_laws.specs.Conditions.{HasHole}
use Rattle.mesh_laws.specs.Squares.{part_squares}
use Rattle.mesh_laws.specs.Laws.{SquaresOnce}
use Rattle.watertight_laws.specs.Edges.{squares_at, has_cell_at, north_steps, east_steps, south_steps, west_steps}
use Rattle.watertight_laws.proofs.Sums.{one_if}
use Rattle.watertight_laws.proofs.Lines.{in_span, is_end, span_ends, span_end_most, end_in_span, shifted, one_and, IsLine}
use Rattle.clip_regions.proofs.Cells.{Lies, le_tested, tested_le}

-- a region with sides, and one with sides strictly inside another
pub record HasSides (r : Region) : Type 0 where
  pub across : r.x0 <ℤ r.x1
  pub along : r.y0 <ℤ r.y1

pub record IsStrictlyIn (r g : Region) : Type 0 where
  pub west : r.x0 <ℤ g.x0
  pub east : g.x1 <ℤ r.x1
  pub north : r.y0 <ℤ g.y0
  pub south : g.y1 <ℤ r.y1

-- a region and its hole: each is empty or has sides, and the hole is strictly inside
pub record IsRingShape (r g : Region) : Type 0 where
  pub columns : r.x0 ≤ℤ r.x1 → HasSides r
  pub rows : r.y0 ≤ℤ r.y1 → HasSides r
  pub gap_columns : g.x0 ≤ℤ g.x1 → HasSides g × IsStrictlyIn r g
  pub gap_rows : g.y0 ≤ℤ g.y1 → HasSides g × IsStrictlyIn r g
  pub gap : HasHole r g

-- nothing goes along the edge, or one triangle each way and both ends lie in the region
pub data Balanced (r : Region) (x z x' z' : ℤ) (there back : ℕ) : Type 0 where
  Unused : there ≡ 0 → back ≡ 0 → Balanced r x z x' z' there back
  Shared : there ≡ 1 → back ≡ 1 → Lies r x z → Lies r x' z' → Balanced r x z x' z' there back

pub spans : (a b c : ℤ) → in_span a b c ≡ true → (a ≤ℤ c) × ((c +ℤ pos 1) ≤ℤ b)
spans a b c e =
    let parts : (le_z a c ≡ true) × (le_z c (b -ℤ pos 1) ≡ true) = and_parts (le_z a c) (le_z c (b -ℤ pos 1)) e in
    let low : a ≤ℤ c = tested_le a c parts.0 in
    let high : c ≤ℤ (b -ℤ pos 1) = tested_le c (b -ℤ pos 1) parts.1 in
    (low, omega (arith, ints, high))

wider : (a b a' b' c : ℤ) → a <ℤ a' → b' <ℤ b → in_span a' b' c ≡ true → in_span a b c ≡ true
wider a b a' b' c low high e =
    let s = spans a' b' c e in
    let from = s.0 in
    let to = s.1 in
    and_from (le_z a c) (le_z c (b -ℤ pos 1)) (le_tested a c (omega (arith, ints, low, from))) (le_tested c (b -ℤ pos 1) (omega (arith, ints, high, to)))

-- ---- how many squares
square_is : (r : Region) (x z : ℤ) → one_if (contains (squares_in r) x z) ≡ one_if (in_span r.x0 r.x1 x) * one_if (in_span r.y0 r.y1 z)
unfolding contains squares_in
square_is r x z = one_and (in_span r.x0 r.x1 x) (in_span r.y0 r.y1 z)

squares_are : SquaresOnce → (finer active : Region) (x z : ℤ) → HasHole active (hole finer) →
    squares_at finer active x z + one_if (contains (squares_in (hole finer)) x z) ≡ one_if (contains (squares_in active) x z)
unfolding squares_at
squares_are once finer active x z has =
    let both : count_by (λ squares. contains squares x z) (squares_in (hole finer) ∷ part_squares finer active) ≡ one_if (contains (squares_in active) x z) = once finer active x z has in
    let parts = sum_by-cons (λ (squares : Region). cond (contains squares x z) 1 0) (squares_in (hole finer)) (part_squares finer active) in
    omega (arith, both, parts)

pub squares_line : SquaresOnce → (finer active : Region) (x z : ℤ) → HasHole active (hole finer) →
    squares_at finer active x z + one_if (in_span (hole finer).x0 (hole finer).x1 x) * one_if (in_span (hole finer).y0 (hole finer).y1 z)
    ≡ one_if (in_span active.x0 active.x1 x) * one_if (in_span active.y0 active.y1 z)
squares_line once finer active x z has =
    let e = squares_are once finer active x z has in
    ap (λ n. squares_at finer active x z + n) (sym (square_is (hole finer) x z)) ∙ e ∙ square_is active x z

-- the same by rows first
squares_line' : SquaresOnce → (finer active : Region) (x z : ℤ) → HasHole active (hole finer) →
    squares_at finer active x z + one_if (in_span (hole finer).y0 (hole finer).y1 z) * one_if (in_span (hole finer).x0 (hole finer).x1 x)
    ≡ one_if (in_span active.y0 active.y1 z) * one_if (in_span active.x0 active.x1 x)
squares_line' once finer active x z has =
    ap (λ n. squares_at finer active x z + n) (swap (one_if (in_span (hole finer).y0 (hole finer).y1 z)) (one_if (in_span (hole finer).x0 (hole finer).x1 x)))
    ∙ squares_line once finer active x z has ∙ swap (one_if (in_span active.x0 active.x1 x)) (one_if (in_span active.y0 active.y1 z))
  where
    swap : (m n : ℕ) → m * n ≡ n * m
    swap m n = omega arith

-- ---- how many steps along a side
pub east_is : (r : Region) (x z : ℤ) → has_cell_at (east_steps r) x z ≡ one_if (is_end r.x1 x) * one_if (in_span r.y0 r.y1 z)
unfolding has_cell_at contains east_steps
east_is r x z = one_and (is_end r.x1 x) (in_span r.y0 r.y1 z)

pub west_is : (r : Region) (x z x' z' : ℤ) → x' ≡ x → z' ≡ z +ℤ pos 1 → has_cell_at (west_steps r) x' z' ≡ one_if (is_end r.x0 x) * one_if (in_span r.y0 r.y1 z)
unfolding has_cell_at contains west_steps
west_is r x z x' z' hx hz =
    (λ t. one_if (is_end r.x0 (hx t) && shifted r.y0 r.y1 z z' hz t)) ∙ one_and (is_end r.x0 x) (in_span r.y0 r.y1 z)

pub north_is : (r : Region) (x z : ℤ) → has_cell_at (north_steps r) x z ≡ one_if (is_end r.y0 z) * one_if (in_span r.x0 r.x1 x)
unfolding has_cell_at contains north_steps
north_is r x z = one_and (in_span r.x0 r.x1 x) (is_end r.y0 z) ∙ swap (one_if (in_span r.x0 r.x1 x)) (one_if (is_end r.y0 z))
  where
    swap : (m n : ℕ) → m * n ≡ n * m
    swap m n = omega arith

pub south_is : (r : Region) (x z x' z' : ℤ) → x' ≡ x +ℤ pos 1 → z' ≡ z → has_cell_at (south_steps r) x' z' ≡ one_if (is_end r.y1 z) * one_if (in_span r.x0 r.x1 x)
unfolding has_cell_at contains south_steps
south_is r x z x' z' hx hz =
    (λ t. one_if (shifted r.x0 r.x1 x x' hx t && is_end r.y1 (hz t))) ∙ one_and (in_span r.x0 r.x1 x) (is_end r.y1 z) ∙ swap (one_if (in_span r.x0 r.x1 x)) (one_if (is_end r.y1 z))
  where
    swap : (m n : ℕ) → m * n ≡ n * m
    swap m n = omega arith

-- ---- the line through a step
pub south_line : SquaresOnce → (finer active : Region) (x z : ℤ) → IsRingShape active (hole finer) →
    IsLine (in_span active.y0 active.y1 z) (in_span (hole finer).y0 (hole finer).y1 z) (squares_at finer active x z) (squares_at finer active (x -ℤ pos 1) z)
    (one_if (in_span active.x0 active.x1 x)) (one_if (in_span active.x0 active.x1 (x -ℤ pos 1))) (one_if (is_end active.x0 x)) (one_if (is_end active.x1 x))
    (one_if (in_span (hole finer).x0 (hole finer).x1 x)) (one_if (in_span (hole finer).x0 (hole finer).x1 (x -ℤ pos 1))) (one_if (is_end (hole finer).x0 x)) (one_if (is_end (hole finer).x1 x))
south_line once finer active x z shape = record {
  squares = squares_line once finer active x z shape.gap;
  squares' = squares_line once finer active (x -ℤ pos 1) z shape.gap;
  region = λ e. span_ends active.x0 active.x1 x (ordered (sides e).across);
  most = λ e. span_end_most active.x0 active.x1 x;
  gap = λ e. span_ends (hole finer).x0 (hole finer).x1 x (ordered (gap_sides e).0.across);
  within = λ e. end_in_span (hole finer).x0 (hole finer).x1 x (gap_sides e).0.across;
  both = λ e. inside e;
}
  where
    ordered : {a b : ℤ} → a <ℤ b → a ≤ℤ b
    ordered {a} {b} h = omega (arith, ints, h)

    sides : in_span active.y0 active.y1 z ≡ true → HasSides active
    sides e = let s = spans active.y0 active.y1 z e in let low = s.0 in let high = s.1 in shape.rows (omega (arith, ints, low, high))

    gap_sides : in_span (hole finer).y0 (hole finer).y1 z ≡ true → HasSides (hole finer) × IsStrictlyIn active (hole finer)
    gap_sides e = let s = spans (hole finer).y0 (hole finer).y1 z e in let low = s.0 in let high = s.1 in shape.gap_rows (omega (arith, ints, low, high))

    inside : in_span (hole finer).y0 (hole finer).y1 z ≡ true → in_span active.y0 active.y1 z ≡ true
    inside e = wider active.y0 active.y1 (hole finer).y0 (hole finer).y1 z (gap_sides e).1.north (gap_sides e).1.south e

pub east_line : SquaresOnce → (finer active : Region) (x z : ℤ) → IsRingShape active (hole finer) →
    IsLine (in_span active.x0 active.x1 x) (in_span (hole finer).x0 (hole finer).x1 x) (squares_at finer active x z) (squares_at finer active x (z -ℤ pos 1))
    (one_if (in_span active.y0 active.y1 z)) (one_if (in_span active.y0 active.y1 (z -ℤ pos 1))) (one_if (is_end active.y0 z)) (one_if (is_end active.y1 z))
    (one_if (in_span (hole finer).y0 (hole finer).y1 z)) (one_if (in_span (hole finer).y0 (hole finer).y1 (z -ℤ pos 1))) (one_if (is_end (hole finer).y0 z)) (one_if (is_end (hole finer).y1 z))
east_line once finer active x z shape = record {
  squares = squares_line' once finer active x z shape.gap;
  squares' = squares_line' once finer active x (z -ℤ pos 1) shape.gap;
  region = λ e. span_ends active.y0 active.y1 z (ordered (sides e).along);
  most = λ e. span_end_most active.y0 active.y1 z;
  gap = λ e. span_ends (hole finer).y0 (hole finer).y1 z (ordered (gap_sides e).0.along);
  within = λ e. end_in_span (hole finer).y0 (hole finer).y1 z (gap_sides e).0.along;
  both = λ e. inside e;
}
  where
    ordered : {a b : ℤ} → a <ℤ b → a ≤ℤ b
    ordered {a} {b} h = omega (arith, ints, h)

    sides : in_span active.x0 active.x1 x ≡ true → HasSides active
    sides e = let s = spans active.x0 active.x1 x e in let low = s.0 in let high = s.1 in shape.columns (omega (arith, ints, low, high))

    gap_sides : in_span (hole finer).x0 (hole finer).x1 x ≡ true → HasSides (hole finer) × IsStrictlyIn active (hole finer)
    gap_sides e = let s = spans (hole finer).x0 (hole finer).x1 x e in let low = s.0 in let high = s.1 in shape.gap_columns (omega (arith, ints, low, high))

    inside : in_span (hole finer).x0 (hole finer).x1 x ≡ true → in_span active.x0 active.x1 x ≡ true
    inside e = wider active.x0 active.x1 (hole finer).x0 (hole finer).x1 x (gap_sides e).1.west (gap_sides e).1.east e
