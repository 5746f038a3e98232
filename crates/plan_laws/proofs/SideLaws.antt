-- The laws of the columns and the rows of tiles that a region meets.
use Rattle.std.proofs.Common.{◌≡◌, ℕ, Bool, true, false, cond, ◌&&◌, ◌||◌, ◌==◌, ℤ, List, [], ◌∷◌, ◌++◌, map, refl, ap, sym, ◌∙◌, inl, inr}
use Rattle.std.proofs.lemmas.Bool.{cases_Bool}
use Rattle.std.proofs.lemmas.List.Elements.{filter-append, filter_agree}
use Rattle.std.proofs.lemmas.List.Folds.{list_any-append}
use Rattle.std.proofs.Math.Bool.{and-or_distrib_right, and-or_distrib_left}
use Rattle.std.specs.List.{list_any, filter, flat_map, range_with_len}
use mathlib.Core.Path.{ap₂}
use Rattle.clip_regions.specs.declared.region.Region.{Region}
use Rattle.clip_regions.specs.FloorDivision.{floor_rem}
use Rattle.plan_model.specs.Blocks.{tiles_per_side, tile_of, same_tile}
use Rattle.plan_model.specs.Strips.{block_columns, block_rows, piece_in}
use Rattle.plan_model.specs.Tiles.{tiles, meets_tile, tiles_met}
use Rattle.plan_model.specs.declared.tiles.Piece.{Piece}
use Rattle.plan_model.specs.declared.tiles.TileId.{TileId}
use Rattle.plan_laws.specs.Tiles.{meets_column, meets_row, TilesMetBySides, TilesMetAreProducts}
use Rattle.plan_model.proofs.PieceLaws.{piece_rows, pieces_some}

-- ---- a test of rows and one of columns
any_map : {X Y : Type 0} (p : Y → Bool) (f : X → Y) (xs : List X) → list_any p (map f xs) ≡ list_any (λ x. p (f x)) xs
any_map p f [] = refl
any_map p f (x ∷ xs) = ap (λ (b : Bool). p (f x) || b) (any_map p f xs)

any_flat_map : {X Y : Type 0} (p : Y → Bool) (f : X → List Y) (xs : List X) → list_any p (flat_map f xs) ≡ list_any (λ x. list_any p (f x)) xs
any_flat_map p f [] = refl
any_flat_map p f (x ∷ xs) = list_any-append p (f x) (flat_map f xs) ∙ ap (λ (b : Bool). list_any p (f x) || b) (any_flat_map p f xs)

any_same : {X : Type 0} (p q : X → Bool) → ((x : X) → p x ≡ q x) → (xs : List X) → list_any p xs ≡ list_any q xs
any_same p q each [] = refl
any_same p q each (x ∷ xs) = ap₂ (λ (a b : Bool). a || b) (each x) (any_same p q each xs)

any_and_right : {X : Type 0} (p : X → Bool) (b : Bool) (xs : List X) → list_any (λ x. p x && b) xs ≡ (list_any p xs && b)
any_and_right p b [] = refl
any_and_right p b (x ∷ xs) =
    ap (λ (c : Bool). (p x && b) || c) (any_and_right p b xs) ∙ sym (and-or_distrib_right (p x) (list_any p xs) b)

any_and_left : {X : Type 0} (p : X → Bool) (b : Bool) (xs : List X) → list_any (λ x. b && p x) xs ≡ (b && list_any p xs)
any_and_left p b [] = and_nothing b
  where
    and_nothing : (b : Bool) → false ≡ (b && false)
    and_nothing true = refl
    and_nothing false = refl
any_and_left p b (x ∷ xs) =
    ap (λ (c : Bool). (b && p x) || c) (any_and_left p b xs) ∙ sym (and-or_distrib_left b (p x) (list_any p xs))

-- the tile of a block is t, on each side
on_column : ℕ → ℕ → ℤ → Bool
on_column k tx bx = floor_rem bx (tiles_per_side k) == tx

on_row : ℕ → ℕ → ℤ → Bool
on_row k ty by = floor_rem by (tiles_per_side k) == ty

tile_test : ℕ → TileId → Piece → Bool
tile_test k t p = same_tile (tile_of k p.bx p.by) t

one_piece : (k : ℕ) (t : TileId) (r : Region) (bx by : ℤ) → tile_test k t (piece_in r bx by) ≡ (on_column k t.tx bx && on_row k t.ty by)
unfolding tile_test same_tile tile_of piece_in on_column on_row
one_piece k t r bx by = refl

one_row : (k : ℕ) (t : TileId) (r : Region) (by : ℤ) → list_any (tile_test k t) (map (λ bx. piece_in r bx by) (block_columns r)) ≡ (list_any (on_column k t.tx) (block_columns r) && on_row k t.ty by)
one_row k t r by =
    any_map (tile_test k t) (λ (bx : ℤ). piece_in r bx by) (block_columns r) ∙ any_same (λ (bx : ℤ). tile_test k t (piece_in r bx by)) (λ (bx : ℤ). on_column k t.tx bx && on_row k t.ty by) (λ (bx : ℤ). one_piece k t r bx by) (block_columns r) ∙ any_and_right (on_column k t.tx) (on_row k t.ty by) (block_columns r)

all_rows : (k : ℕ) (t : TileId) (r : Region) → list_any (tile_test k t) (piece_rows r) ≡ (list_any (on_column k t.tx) (block_columns r) && list_any (on_row k t.ty) (block_rows r))
unfolding piece_rows
all_rows k t r =
    any_flat_map (tile_test k t) (λ (by : ℤ). map (λ (bx : ℤ). piece_in r bx by) (block_columns r)) (block_rows r) ∙ any_same (λ (by : ℤ). list_any (tile_test k t) (map (λ (bx : ℤ). piece_in r bx by) (block_columns r))) (λ (by : ℤ). list_any (on_column k t.tx) (block_columns r) && on_row k t.ty by) (λ (by : ℤ). one_row k t r by) (block_rows r) ∙ any_and_left (on_row k t.ty) (list_any (on_column k t.tx) (block_columns r)) (block_rows r)

pub tiles_met_by_sides : TilesMetBySides
unfolding meets_tile meets_column meets_row tile_test on_column on_row
tiles_met_by_sides k r t some = ap (list_any (tile_test k t)) (pieces_some r some) ∙ all_rows k t r

-- ---- a filter of rows and columns
filter_map : {X Y : Type 0} (p : Y → Bool) (f : X → Y) (xs : List X) → filter p (map f xs) ≡ map f (filter (λ x. p (f x)) xs)
filter_map p f [] = refl
filter_map p f (x ∷ xs) =
    elim (cases_Bool (p (f x))) [
      | inl t ↦ rw t (ap (λ (rest : List _). f x ∷ rest) (filter_map p f xs))
      | inr t ↦ rw t (filter_map p f xs)
    ]

filter_none : {X : Type 0} (p : X → Bool) (xs : List X) → filter (λ x. p x && false) xs ≡ []
filter_none p [] = refl
filter_none p (x ∷ xs) =
    elim (cases_Bool (p x)) [
      | inl t ↦ rw t (filter_none p xs)
      | inr t ↦ rw t (filter_none p xs)
    ]

filter_all : {X : Type 0} (p : X → Bool) (xs : List X) → filter (λ x. p x && true) xs ≡ filter p xs
filter_all p xs = filter_agree (λ x. p x && true) p (λ x. and_true (p x)) xs
  where
    and_true : (b : Bool) → (b && true) ≡ b
    and_true true = refl
    and_true false = refl

-- the elements of rows that pass a test of the row and one of the column
module _ {X Y Z : Type 0} (test : Z → Bool) (pair : X → Y → Z) (c : X → Bool) (r : Y → Bool) (each : (x : X) (y : Y) → test (pair x y) ≡ (c x && r y)) (xs : List X) where
  row : (y : Y) → filter test (map (λ x. pair x y) xs) ≡ cond (r y) (map (λ x. pair x y) (filter c xs)) []
  row y =
      filter_map test (λ x. pair x y) xs ∙ ap (map (λ x. pair x y)) (filter_agree (λ x. test (pair x y)) (λ x. c x && r y) (λ x. each x y) xs) ∙ elim (cases_Bool (r y)) [
        | inl t ↦ rw t (ap (map (λ x. pair x y)) (filter_all c xs))
        | inr t ↦ rw t (ap (map (λ x. pair x y)) (filter_none c xs))
      ]

  step : (y : Y) (ys : List Y) → cond (r y) (map (λ x. pair x y) (filter c xs)) [] ++ flat_map (λ z. map (λ x. pair x z) (filter c xs)) (filter r ys) ≡ flat_map (λ z. map (λ x. pair x z) (filter c xs)) (cond (r y) (y ∷ filter r ys) (filter r ys))
  step y ys =
      elim (cases_Bool (r y)) [
        | inl t ↦ rw t refl
        | inr t ↦ rw t refl
      ]

  filter_rows : (ys : List Y) → filter test (flat_map (λ y. map (λ x. pair x y) xs) ys) ≡ flat_map (λ y. map (λ x. pair x y) (filter c xs)) (filter r ys)
  filter_rows [] = refl
  filter_rows (y ∷ ys) =
      filter-append test (map (λ x. pair x y) xs) (flat_map (λ z. map (λ x. pair x z) xs) ys) ∙ ap₂ (λ (a b : List Z). a ++ b) (row y) (filter_rows ys) ∙ step y ys

abbrev tile : ℕ → ℕ → TileId
tile tx ty = record { tx = tx; ty = ty }

pub tiles_met_are_products : TilesMetAreProducts
unfolding tiles_met tiles
tiles_met_are_products k r some =
    filter_rows (meets_tile k r) tile (meets_column k r) (meets_row k r) (λ (tx ty : ℕ). tiles_met_by_sides k r (tile tx ty) some) (range_with_len 0 (tiles_per_side k)) (range_with_len 0 (tiles_per_side k))
