-- How many blocks lie between two, one more piece of a row, and one more row.
use Rattle.std.proofs.Common.{◌≡◌, ℕ, ◌+◌, Bool, true, false, ◌||◌, ℤ, pos, ◌+ℤ◌, ◌-ℤ◌, ◌*ℤ◌, ◌≤ℤ◌, ◌<ℤ◌, List, [], ◌∷◌, ◌++◌, map, flat_map, refl, ap, sym, ◌∙◌, append_assoc, arith}
use Rattle.std.specs.List.{range_with_len}
use Rattle.std.specs.Int.{int_gap}
use Rattle.std.proofs.lemmas.Int.{ints}
use Rattle.std.proofs.lemmas.Bool.{true≢false}
use Rattle.std.proofs.lemmas.List.FromFn.{map-range_with_len_more}
use Rattle.std.proofs.lemmas.List.Folds.{flat_map-map}
use Rattle.std.proofs.lemmas.List.{flat_map_more, map-id}
use Rattle.std.proofs.lemmas.Simd.{map-map}
use Rattle.clip_regions.specs.declared.region.Region.{Region}
use Rattle.clip_regions.specs.FloorDivision.{floor_div}
use Rattle.clip_regions.specs.Regions.{is_empty}
use Rattle.plan_model.specs.Strips.{piece_in, block_columns, block_rows, pieces}
use Rattle.plan_model.specs.declared.tiles.Piece.{Piece}
use Rattle.plan_plain_pieces.proofs.Numbers.{gap_from}

-- q is the quotient of v by 8, rounded down
pub record Eighth (v q : ℤ) : Type 0 where
  pub below : (pos 8 *ℤ q) ≤ℤ v
  pub above : v <ℤ (pos 8 *ℤ q +ℤ pos 8)

pub ascending : (x0 x1 q0 q1 : ℤ) → Eighth x0 q0 → Eighth x1 q1 → x0 ≤ℤ x1 → q0 ≤ℤ (q1 +ℤ pos 1)
ascending x0 x1 q0 q1 d e h = omega (arith, ints)

pub count_is : (x0 x1 q0 q1 : ℤ) (n : ℕ) → Eighth x0 q0 → Eighth x1 q1 → x0 ≤ℤ x1 → pos n ≡ q1 +ℤ pos 1 -ℤ q0 → n ≡ int_gap q0 (q1 +ℤ pos 1)
count_is x0 x1 q0 q1 n d e h p =
    gap_from q0 (q1 +ℤ pos 1) n (ascending x0 x1 q0 q1 d e h) p

neither : (a b : Bool) → (a || b) ≡ false → (a ≡ false) × (b ≡ false)
neither true b h = (h, absurd (true≢false h))
neither false b h = (refl, h)

-- one more piece of a row
pub row_more : {X : Type 0} (f : ℕ → X) (i : ℕ) (base old new : List X) → old ≡ base ++ map f (range_with_len 0 i) → new ≡ old ++ f i ∷ [] → new ≡ base ++ map f (range_with_len 0 (i + 1))
row_more {X = X} f i base old new e g =
    g ∙ ap (λ (xs : List X). xs ++ f i ∷ []) e ∙ append_assoc base (map f (range_with_len 0 i)) (f i ∷ []) ∙ ap (λ (xs : List X). base ++ xs) (sym (map-range_with_len_more f 0 i i (omega arith)))

pub ranged : (i : ℕ) → range_with_len 0 (i + 1) ≡ range_with_len 0 i ++ i ∷ []
ranged i =
    sym (map-id (range_with_len 0 (i + 1))) ∙ map-range_with_len_more (λ (n : ℕ). n) 0 i i (omega arith) ∙ ap (λ (xs : List ℕ). xs ++ i ∷ []) (map-id (range_with_len 0 i))

rows_split : {X : Type 0} (f : ℕ → List X) (i : ℕ) → flat_map f (range_with_len 0 i) ++ f i ≡ flat_map f (range_with_len 0 (i + 1))
rows_split f i =
    flat_map_more f [] (range_with_len 0 i) i ∙ ap (flat_map f) (sym (ranged i))

-- one more row
pub rows_more : {X : Type 0} (f : ℕ → List X) (i : ℕ) (old new : List X) → old ≡ flat_map f (range_with_len 0 i) → new ≡ old ++ f i → new ≡ flat_map f (range_with_len 0 (i + 1))
rows_more {X = X} f i old new e g =
    g ∙ ap (λ (xs : List X). xs ++ f i) e ∙ rows_split f i

-- the rows and the columns by their numbers
pub row_of : (f : ℤ → Piece) (r : Region) (n : ℕ) → n ≡ int_gap (floor_div r.x0 8) (floor_div r.x1 8 +ℤ pos 1) → map (λ (i : ℕ). f (floor_div r.x0 8 +ℤ pos i)) (range_with_len 0 n) ≡ map f (block_columns r)
unfolding block_columns
row_of f r n e =
    ap (λ (k : ℕ). map (λ (i : ℕ). f (floor_div r.x0 8 +ℤ pos i)) (range_with_len 0 k)) e ∙ sym (map-map f (λ (i : ℕ). floor_div r.x0 8 +ℤ pos i) (range_with_len 0 (int_gap (floor_div r.x0 8) (floor_div r.x1 8 +ℤ pos 1))))

abbrev pub row : Region → ℤ → List Piece
row r by = map (λ (bx : ℤ). piece_in r bx by) (block_columns r)

pub pieces_none : (r : Region) → is_empty r ≡ true → pieces r ≡ []
unfolding pieces
pieces_none r h = rw h

pub pieces_are : (r : Region) (n : ℕ) → is_empty r ≡ false → n ≡ int_gap (floor_div r.y0 8) (floor_div r.y1 8 +ℤ pos 1) → flat_map (λ (j : ℕ). row r (floor_div r.y0 8 +ℤ pos j)) (range_with_len 0 n) ≡ pieces r
unfolding pieces block_rows
pieces_are r n h e =
    rw h (ap (λ (k : ℕ). flat_map (λ (j : ℕ). row r (floor_div r.y0 8 +ℤ pos j)) (range_with_len 0 k)) e ∙ sym (flat_map-map (row r) (λ (j : ℕ). floor_div r.y0 8 +ℤ pos j) (range_with_len 0 (int_gap (floor_div r.y0 8) (floor_div r.y1 8 +ℤ pos 1)))))
