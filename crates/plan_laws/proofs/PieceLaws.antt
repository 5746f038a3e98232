-- The laws of pieces.
use Rattle.std.proofs.Common.{◌≡◌, ℕ, ◌+◌, ◌<◌, ◌≤◌, true, false, ℤ, pos, negsuc, ◌+ℤ◌, ◌*ℤ◌, ◌≤ℤ◌, ◌<ℤ◌, List, map, get_or, refl, ap, sym, ◌∙◌, subst, inl, inr, arith}
use Rattle.std.proofs.lemmas.Int.{ints}
use Rattle.std.proofs.lemmas.Bool.{cases_Bool, and_parts, and_left, and_right}
use Rattle.std.proofs.lemmas.List.Elements.{All-nil, All-map}
use Rattle.std.specs.List.{All, Contains, range_with_len}
use Rattle.std.specs.Int.{int_gap}
use mathlib.Core.Path.{ap₂}
use lib.Signed.{le_z}
use Rattle.clip_regions.specs.declared.region.Region.{Region}
use Rattle.clip_regions.specs.FloorDivision.{floor_div, floor_rem}
use Rattle.clip_regions.specs.Regions.{contains, is_empty, meet, holds, numbers_from}
use Rattle.plan_model.specs.Blocks.{same_number, same_block, block_cells, tile_of, tile_of_cell}
use Rattle.plan_model.specs.Strips.{block_columns, block_rows, piece_in, pieces}
use Rattle.plan_model.specs.Laws.{OneTileABlock}
use Rattle.plan_model.specs.declared.tiles.Piece.{Piece}
use Rattle.plan_laws.specs.Pieces.{PiecesAreMeets, PiecesHaveCells, PiecesInBlocks, PiecesInRegion, PiecesInTiles, DifferentBlocks, OnePieceABlock}
use Rattle.plan_laws.proofs.Lists.{All-range, All-flat_map, Pairs, pairs_nil, pairs_map, pairs_range, pairs_weaker, pairs_flat_map, all_pairs}
use Rattle.clip_regions.proofs.Quotients.{rem_below, quotient_and_rest}
use Rattle.clip_regions.proofs.Cells.{Lies, lies, HasCell, has_cell, not_empty, both, meet_is, meet_in_left, meet_in_right, meet_cells, spelled_other, tested_le}
use Rattle.plan_model.proofs.PieceLaws.{piece_rows, pieces_some, pieces_none}

-- ---- the listed blocks
-- a number of a gap stays below the gap's end
below_gap : (a b : ℤ) (i : ℕ) → i < int_gap a b → (a +ℤ pos i) <ℤ b
below_gap (pos a) (pos b) i h = omega (arith, ints)
below_gap (pos a) (negsuc b) i h = absurd (omega arith)
below_gap (negsuc a) (pos b) i h = omega (arith, ints)
below_gap (negsuc a) (negsuc b) i h = omega (arith, ints)

-- a block column or row is listed for the numbers from first to last
pub record Listed (first last b : ℤ) : Type 0 where
  pub low : floor_div first 8 ≤ℤ b
  pub high : b ≤ℤ floor_div last 8

pub all_listed : (P : ℤ → Type 0) (first last : ℤ) → ((b : ℤ) → Listed first last b → P b) → All P (numbers_from (floor_div first 8) (int_gap (floor_div first 8) (floor_div last 8 +ℤ pos 1)))
all_listed P first last each =
    All-map P (λ (i : ℕ). floor_div first 8 +ℤ pos i) (range_with_len 0 (int_gap (floor_div first 8) (floor_div last 8 +ℤ pos 1))) (All-range (λ (i : ℕ). P (floor_div first 8 +ℤ pos i)) 0 (int_gap (floor_div first 8) (floor_div last 8 +ℤ pos 1)) (λ (i : ℕ) (low : 0 ≤ i) (high : i < 0 + int_gap (floor_div first 8) (floor_div last 8 +ℤ pos 1)). let inside : i < int_gap (floor_div first 8) (floor_div last 8 +ℤ pos 1) = omega arith in let below : (floor_div first 8 +ℤ pos i) <ℤ (floor_div last 8 +ℤ pos 1) = below_gap (floor_div first 8) (floor_div last 8 +ℤ pos 1) i inside in each (floor_div first 8 +ℤ pos i) (record { low = omega (arith, ints); high = omega (arith, ints) })))

-- ---- what is true of each piece
all_rows : (P : Piece → Type 0) (r : Region) → ((bx by : ℤ) → Listed r.x0 r.x1 bx → Listed r.y0 r.y1 by → P (piece_in r bx by)) → All P (piece_rows r)
unfolding piece_rows block_columns block_rows
all_rows P r each =
    All-flat_map P (λ (by : ℤ). map (λ (bx : ℤ). piece_in r bx by) (block_columns r)) (block_rows r) (all_listed (λ (by : ℤ). All P (map (λ (bx : ℤ). piece_in r bx by) (block_columns r))) r.y0 r.y1 (λ (by : ℤ) (along : Listed r.y0 r.y1 by). All-map P (λ (bx : ℤ). piece_in r bx by) (block_columns r) (all_listed (λ (bx : ℤ). P (piece_in r bx by)) r.x0 r.x1 (λ (bx : ℤ) (across : Listed r.x0 r.x1 bx). each bx by across along))))

pub all_pieces : (P : Piece → Type 0) (r : Region) → (HasCell r → (bx by : ℤ) → Listed r.x0 r.x1 bx → Listed r.y0 r.y1 by → P (piece_in r bx by)) → All P (pieces r)
all_pieces P r each =
    elim (cases_Bool (is_empty r)) [
      | inl e ↦ subst (All P) (sym (pieces_none r e)) (All-nil P)
      | inr e ↦ subst (All P) (sym (pieces_some r e)) (all_rows P r (each (has_cell r e)))
    ]

-- ---- meets, blocks and the region
pub pieces_are_meets : PiecesAreMeets
unfolding piece_in
pieces_are_meets r =
    all_pieces (λ (piece : Piece). piece.cells ≡ meet r (block_cells piece.bx piece.by)) r (λ _ bx by _ _. refl)

-- a piece is the one of its block
of_its_block : (r : Region) → All (λ piece. piece ≡ piece_in r piece.bx piece.by) (pieces r)
unfolding piece_in
of_its_block r = all_pieces (λ (piece : Piece). piece ≡ piece_in r piece.bx piece.by) r (λ _ bx by _ _. refl)

pub pieces_in_blocks : PiecesInBlocks
unfolding piece_in
pieces_in_blocks r =
    all_pieces (λ (piece : Piece). holds (block_cells piece.bx piece.by) piece.cells ≡ true) r (λ _ bx by _ _. meet_in_right r (block_cells bx by) (meet r (block_cells bx by)) refl)

pub pieces_in_region : PiecesInRegion
unfolding piece_in
pieces_in_region r =
    all_pieces (λ (piece : Piece). holds r piece.cells ≡ true) r (λ _ bx by _ _. meet_in_left r (block_cells bx by) (meet r (block_cells bx by)) refl)

-- ---- a cell
-- the numbers from first to last and those of a listed block have one in common
axis_meets : (first last b : ℤ) → first ≤ℤ last → Listed first last b → (first ≤ℤ (pos 8 *ℤ b +ℤ pos 7)) × ((pos 8 *ℤ b) ≤ℤ last)
axis_meets first last b h l =
    let ra : floor_rem first 8 < 8 = rem_below first 8 (omega arith) in
    let rb : floor_rem last 8 < 8 = rem_below last 8 (omega arith) in
    let wa : first ≡ pos 8 *ℤ floor_div first 8 +ℤ pos (floor_rem first 8) = quotient_and_rest first 8 (omega arith) in
    let wb : last ≡ pos 8 *ℤ floor_div last 8 +ℤ pos (floor_rem last 8) = quotient_and_rest last 8 (omega arith) in
    (omega (arith, ints), omega (arith, ints))

both_has_cell : (r : Region) (bx by : ℤ) → HasCell r → Listed r.x0 r.x1 bx → Listed r.y0 r.y1 by → HasCell (both r (block_cells bx by))
unfolding both block_cells
both_has_cell r bx by some across along =
    let x : (r.x0 ≤ℤ (pos 8 *ℤ bx +ℤ pos 7)) × ((pos 8 *ℤ bx) ≤ℤ r.x1) = axis_meets r.x0 r.x1 bx some.across across in
    let y : (r.y0 ≤ℤ (pos 8 *ℤ by +ℤ pos 7)) × ((pos 8 *ℤ by) ≤ℤ r.y1) = axis_meets r.y0 r.y1 by some.along along in
    record { across = grind (arith, ints, x.0, x.1); along = grind (arith, ints, y.0, y.1) }

pub meet_some : (a b : Region) → HasCell (both a b) → meet a b ≡ both a b
meet_some a b some = meet_is a b ∙ spelled_other (both a b) (not_empty (both a b) some)

pub pieces_have_cells : PiecesHaveCells
unfolding piece_in
pieces_have_cells r =
    all_pieces (λ (piece : Piece). is_empty piece.cells ≡ false) r (λ some bx by across along. let cell : HasCell (both r (block_cells bx by)) = both_has_cell r bx by some across along in ap is_empty (meet_some r (block_cells bx by) cell) ∙ not_empty (both r (block_cells bx by)) cell)

-- ---- tiles
block_of_number : (b z : ℤ) → (pos 8 *ℤ b) ≤ℤ z → z ≤ℤ (pos 8 *ℤ b +ℤ pos 7) → floor_div z 8 ≡ b
block_of_number b z low high =
    let below : floor_rem z 8 < 8 = rem_below z 8 (omega arith) in
    let whole : z ≡ pos 8 *ℤ floor_div z 8 +ℤ pos (floor_rem z 8) = quotient_and_rest z 8 (omega arith) in
    omega (arith, ints)

cell_has_tile : OneTileABlock → (k : ℕ) (bx by i j : ℤ) → 3 ≤ k → Lies (block_cells bx by) i j → tile_of_cell k i j ≡ tile_of k bx by
unfolding block_cells
cell_has_tile law k bx by i j h l =
    law k i j h ∙ ap₂ (tile_of k) (block_of_number bx i l.west l.east) (block_of_number by j l.north l.south)

in_block : (r : Region) (bx by i j : ℤ) → contains (meet r (block_cells bx by)) i j ≡ true → Lies (block_cells bx by) i j
in_block r bx by i j t =
    lies (block_cells bx by) i j (and_parts (contains r i j) (contains (block_cells bx by) i j) (sym (meet_cells r (block_cells bx by) (meet r (block_cells bx by)) refl i j) ∙ t)).1

pub pieces_in_tiles : OneTileABlock → PiecesInTiles
unfolding piece_in
pieces_in_tiles law k r h =
    all_pieces (λ (piece : Piece). (i j : ℤ) → contains piece.cells i j ≡ true → tile_of_cell k i j ≡ tile_of k piece.bx piece.by) r (λ _ bx by _ _ i j t. cell_has_tile law k bx by i j h (in_block r bx by i j t))

-- ---- different blocks
apart : (a b : ℤ) → a <ℤ b → same_number a b ≡ false
unfolding same_number
apart a b h = grind (arith, ints)

numbers_rise : (a : ℤ) (n : ℕ) → Pairs (λ x y. x <ℤ y) (numbers_from a n)
numbers_rise a n =
    pairs_map (λ (x y : ℤ). x <ℤ y) (λ (i : ℕ). a +ℤ pos i) (range_with_len 0 n) (pairs_weaker (λ (i j : ℕ). i < j) (λ (i j : ℕ). (a +ℤ pos i) <ℤ (a +ℤ pos j)) (λ (i j : ℕ) (h : i < j). omega (arith, ints)) (range_with_len 0 n) (pairs_range 0 n))

columns_rise : (r : Region) → Pairs (λ x y. x <ℤ y) (block_columns r)
unfolding block_columns
columns_rise r = numbers_rise (floor_div r.x0 8) (int_gap (floor_div r.x0 8) (floor_div r.x1 8 +ℤ pos 1))

rows_rise : (r : Region) → Pairs (λ x y. x <ℤ y) (block_rows r)
unfolding block_rows
rows_rise r = numbers_rise (floor_div r.y0 8) (int_gap (floor_div r.y0 8) (floor_div r.y1 8 +ℤ pos 1))

-- two pieces have different blocks
abbrev Differ : Piece → Piece → Type 0
Differ p q = same_block p q ≡ false

other_column : (r : Region) (a b by : ℤ) → a <ℤ b → Differ (piece_in r a by) (piece_in r b by)
unfolding same_block piece_in
other_column r a b by h = and_left (same_number a b) (same_number by by) (apart a b h)

other_row : (r : Region) (bx bx' a b : ℤ) → a <ℤ b → Differ (piece_in r bx a) (piece_in r bx' b)
unfolding same_block piece_in
other_row r bx bx' a b h = and_right (same_number bx bx') (same_number a b) (apart a b h)

row_of : Region → ℤ → List Piece
row_of r by = map (λ bx. piece_in r bx by) (block_columns r)

in_row : (r : Region) (by : ℤ) → Pairs Differ (row_of r by)
unfolding row_of
in_row r by =
    pairs_map Differ (λ (bx : ℤ). piece_in r bx by) (block_columns r) (pairs_weaker (λ (x y : ℤ). x <ℤ y) (λ (x y : ℤ). Differ (piece_in r x by) (piece_in r y by)) (λ (x y : ℤ) (h : x <ℤ y). other_column r x y by h) (block_columns r) (columns_rise r))

each_of : (P : ℤ → Type 0) → ((z : ℤ) → P z) → (zs : List ℤ) → All P zs
each_of P each zs k d h = each (get_or zs k d)

across_rows : (r : Region) (a b : ℤ) → a <ℤ b → All (λ p. All (Differ p) (row_of r b)) (row_of r a)
unfolding row_of
across_rows r a b h =
    All-map (λ (p : Piece). All (Differ p) (row_of r b)) (λ (bx : ℤ). piece_in r bx a) (block_columns r) (each_of (λ (bx : ℤ). All (Differ (piece_in r bx a)) (row_of r b)) (λ (bx : ℤ). All-map (Differ (piece_in r bx a)) (λ (bx' : ℤ). piece_in r bx' b) (block_columns r) (each_of (λ (bx' : ℤ). Differ (piece_in r bx a) (piece_in r bx' b)) (λ (bx' : ℤ). other_row r bx bx' a b h) (block_columns r))) (block_columns r))

rows_differ : (r : Region) → Pairs Differ (piece_rows r)
unfolding piece_rows row_of
rows_differ r =
    pairs_flat_map (λ (x y : ℤ). x <ℤ y) Differ (row_of r) (in_row r) (across_rows r) (block_rows r) (rows_rise r)

pieces_differ : (r : Region) → Pairs Differ (pieces r)
pieces_differ r =
    elim (cases_Bool (is_empty r)) [
      | inl e ↦ subst (Pairs Differ) (sym (pieces_none r e)) (pairs_nil Differ)
      | inr e ↦ subst (Pairs Differ) (sym (pieces_some r e)) (rows_differ r)
    ]

pub different_blocks : DifferentBlocks
different_blocks r = all_pairs Differ (pieces r) (pieces_differ r)

-- ---- one piece a block
same_from_test : (a b : ℤ) → same_number a b ≡ true → a ≡ b
unfolding same_number
same_from_test a b e =
    let parts : (le_z a b ≡ true) × (le_z b a ≡ true) = and_parts (le_z a b) (le_z b a) e in
    let low : a ≤ℤ b = tested_le a b parts.0 in
    let high : b ≤ℤ a = tested_le b a parts.1 in
    omega (arith, ints)

member_is : (P : Piece → Type 0) (ps : List Piece) (p : Piece) → All P ps → Contains ps p → P p
member_is P ps p all member = subst P member.2 (all member.0 p member.1)

pub one_piece_a_block : OnePieceABlock
unfolding same_block
one_piece_a_block r p q here there e =
    let parts : (same_number p.bx q.bx ≡ true) × (same_number p.by q.by ≡ true) = and_parts (same_number p.bx q.bx) (same_number p.by q.by) e in
    let a : p ≡ piece_in r p.bx p.by = member_is (λ (piece : Piece). piece ≡ piece_in r piece.bx piece.by) (pieces r) p (of_its_block r) here in
    let b : q ≡ piece_in r q.bx q.by = member_is (λ (piece : Piece). piece ≡ piece_in r piece.bx piece.by) (pieces r) q (of_its_block r) there in
    a ∙ ap₂ (piece_in r) (same_from_test p.bx q.bx parts.0) (same_from_test p.by q.by parts.1) ∙ sym b
