-- A walk over the pieces of a region: where it begins, one more step in a row, and the step to the next row.
use Rattle.std.proofs.Common.{◌≡◌, ℕ, zero, suc, ◌+◌, ℤ, pos, ◌+ℤ◌, List, [], ◌∷◌, ◌++◌, map, flat_map, refl, ap, sym, ◌∙◌, arith}
use Rattle.std.specs.List.{range_with_len}
use Rattle.std.proofs.lemmas.Int.{ints}
use mathlib.Core.Path.{ap₂}
use Rattle.clip_regions.specs.declared.region.Region.{Region}
use Rattle.clip_regions.specs.Regions.{numbers_from}
use Rattle.plan_model.specs.Strips.{piece_in}
use Rattle.plan_model.specs.declared.tiles.Piece.{Piece}
use Rattle.strip_planner.specs.Left.{row_from, rows_from}

-- ---- the first of some numbers
shifted : {X : Type 0} (f : ℕ → X) (b n : ℕ) → map f (range_with_len (b + 1) n) ≡ map (λ (i : ℕ). f (i + 1)) (range_with_len b n)
shifted f b zero = refl
shifted {X = X} f b (suc n) = ap (λ (xs : List X). f (b + 1) ∷ xs) (shifted f (b + 1) n)

next_is : (a : ℤ) (i : ℕ) → a +ℤ pos (i + 1) ≡ (a +ℤ pos 1) +ℤ pos i
next_is a i = omega (arith, ints)

first_is : (a : ℤ) → a +ℤ pos 0 ≡ a
first_is a = omega (arith, ints)

numbers_next : (a : ℤ) (n : ℕ) → numbers_from a (suc n) ≡ a ∷ numbers_from (a +ℤ pos 1) n
numbers_next a n =
    ap₂ (λ (x : ℤ) (xs : List ℤ). x ∷ xs) (first_is a) (shifted (λ (i : ℕ). a +ℤ pos i) 0 n ∙ λ t. map (λ (i : ℕ). next_is a i t) (range_with_len 0 n))

-- ---- rows
row_next : (r : Region) (bx by : ℤ) (n : ℕ) → row_from r bx (suc n) by ≡ piece_in r bx by ∷ row_from r (bx +ℤ pos 1) n by
unfolding row_from
row_next r bx by n = ap (map (λ (b : ℤ). piece_in r b by)) (numbers_next bx n)

pub rows_next : (r : Region) (bx by : ℤ) (n m : ℕ) → rows_from r bx n by (suc m) ≡ row_from r bx n by ++ rows_from r bx n (by +ℤ pos 1) m
unfolding rows_from
rows_next r bx by n m = ap (flat_map (row_from r bx n)) (numbers_next by m)

pub row_ends : (r : Region) (bx by : ℤ) → row_from r bx 0 by ≡ []
unfolding row_from
row_ends r bx by = refl

pub rows_end : (r : Region) (bx by : ℤ) (n : ℕ) → rows_from r bx n by 0 ≡ []
unfolding rows_from
rows_end r bx by n = refl

-- ---- what a walk has left
unfoldable pub left : Region → ℤ → ℕ → ℤ → ℤ → ℕ → ℕ → List Piece
left r first columns bx by n m = row_from r bx n by ++ rows_from r first columns (by +ℤ pos 1) m

pub left_none : (r : Region) (first : ℤ) (columns : ℕ) (bx by : ℤ) (n m : ℕ) → n ≡ 0 → m ≡ 0 → left r first columns bx by n m ≡ []
unfolding left
left_none r first columns bx by n m e g =
    ap₂ (λ (a b : ℕ). row_from r bx a by ++ rows_from r first columns (by +ℤ pos 1) b) e g ∙ ap₂ (λ (xs ys : List Piece). xs ++ ys) (row_ends r bx by) (rows_end r first (by +ℤ pos 1) columns)

-- where it begins
pub left_first : (r : Region) (first : ℤ) (columns : ℕ) (by : ℤ) (rows m : ℕ) → rows ≡ m + 1 → left r first columns first by columns m ≡ rows_from r first columns by rows
unfolding left
left_first r first columns by rows m e =
    let next : rows ≡ suc m = omega arith in
    sym (ap (λ (k : ℕ). rows_from r first columns by k) next ∙ rows_next r first by columns m)

-- one more piece of the row
pub left_more : (r : Region) (first : ℤ) (columns : ℕ) (bx by bx' : ℤ) (n n' m : ℕ) → n ≡ n' + 1 → bx' ≡ bx +ℤ pos 1 → left r first columns bx by n m ≡ piece_in r bx by ∷ left r first columns bx' by n' m
unfolding left
left_more r first columns bx by bx' n n' m e g =
    let next : n ≡ suc n' = omega arith in
    ap (λ (k : ℕ). row_from r bx k by ++ rows_from r first columns (by +ℤ pos 1) m) next ∙ ap (λ (xs : List Piece). xs ++ rows_from r first columns (by +ℤ pos 1) m) (row_next r bx by n') ∙ ap (λ (b : ℤ). piece_in r bx by ∷ (row_from r b n' by ++ rows_from r first columns (by +ℤ pos 1) m)) (sym g)

-- the last piece of a row, with more rows to come
pub left_turn : (r : Region) (first : ℤ) (columns : ℕ) (bx by by' : ℤ) (n m m' : ℕ) → n ≡ 1 → m ≡ m' + 1 → by' ≡ by +ℤ pos 1 → left r first columns bx by n m ≡ piece_in r bx by ∷ left r first columns first by' columns m'
unfolding left
left_turn r first columns bx by by' n m m' e g h =
    let next : m ≡ suc m' = omega arith in
    ap₂ (λ (a b : ℕ). row_from r bx a by ++ rows_from r first columns (by +ℤ pos 1) b) e next ∙ ap (λ (xs : List Piece). xs ++ rows_from r first columns (by +ℤ pos 1) (suc m')) (row_next r bx by 0 ∙ ap (λ (xs : List Piece). piece_in r bx by ∷ xs) (row_ends r (bx +ℤ pos 1) by)) ∙ ap (λ (xs : List Piece). piece_in r bx by ∷ xs) (rows_next r first (by +ℤ pos 1) columns m') ∙ ap (λ (b : ℤ). piece_in r bx by ∷ (row_from r first columns b ++ rows_from r first columns (b +ℤ pos 1) m')) (sym h)
