-- The squares of the parts of an active region and of its hole cover the region's squares once: a product of two axes.
use Rattle.std.proofs.Common.{◌≡◌, ℕ, ◌+◌, ◌*◌, Bool, true, false, cond, ◌&&◌, ℤ, pos, ◌-ℤ◌, ◌≤ℤ◌, List, [], ◌∷◌, map, refl, ap, sym, ◌∙◌, inl, inr, arith, zero-add}
use Rattle.std.specs.List.{count_by}
use Rattle.std.proofs.lemmas.Int.{ints}
use Rattle.std.proofs.lemmas.Bool.{cases_Bool, false_from_ne_true}
use Rattle.std.proofs.lemmas.List.Sums.{sum_by-append}
use lib.Signed.{le_z}
use Rattle.clip_regions.specs.declared.region.Region.{Region}
use Rattle.clip_regions.specs.Regions.{contains, is_empty}
use Rattle.mesh_model.specs.declared.shapes.Vertex.{Vertex}
use Rattle.mesh_model.specs.Vertices.{hole}
use Rattle.mesh_model.specs.Parts.{corners_at, squares_in, square_part, square_parts}
use Rattle.mesh_laws.specs.Conditions.{IsCut, HasHole}
use Rattle.mesh_laws.specs.Squares.{part_squares, triangles_in}
use Rattle.clip_regions.proofs.Cells.{Lies, lies, HasCell, has_cell, empty_is_empty}
use Rattle.mesh_model.proofs.Rectangles.{none_in}

pub part_squares_are : (vertices : List Vertex) (level : ℕ) (finer active : Region) → map (λ part. part.triangles) (square_parts vertices level finer active) ≡ map (triangles_in vertices level) (part_squares finer active)
unfolding square_parts square_part part_squares triangles_in squares_in
part_squares_are vertices level finer active =
    elim (cases_Bool (is_empty active)) [
      | inl none ↦ rw none refl
      | inr some ↦ elim (cases_Bool (is_empty (hole finer))) [
        | inl closed ↦ rw (some, closed) refl
        | inr open' ↦ rw (some, open') refl
      ]
    ]

-- ---- counts
unfoldable pub one_if : Bool → ℕ
one_if b = cond b 1 0

pub count_cons : {X : Type 0} (p : X → Bool) (x : X) (xs : List X) → count_by p (x ∷ xs) ≡ one_if (p x) + count_by p xs
unfolding one_if
count_cons p x xs =
    sum_by-append (λ y. cond (p y) 1 0) (x ∷ []) xs ∙ ap (λ (n : ℕ). n + count_by p xs) (zero-add (cond (p x) 1 0))

pub one_and : (x y : Bool) → one_if (x && y) ≡ one_if x * one_if y
unfolding one_if
one_and true y = omega arith
one_and false y = omega arith

-- how often a number lies between two lines
unfoldable pub between : ℤ → ℤ → ℤ → ℕ
between a b i = one_if (le_z a i && le_z i (b -ℤ pos 1))

axis : (a p q b i : ℤ) → a ≤ℤ p → p ≤ℤ q → q ≤ℤ b → between a p i + between p q i + between q b i ≡ between a b i
unfolding between one_if
axis a p q b i h k l = grind (arith, ints)

pub square_is : (x0 x1 y0 y1 i j : ℤ) → one_if (contains (squares_in (corners_at x0 y0 x1 y1)) i j) ≡ between x0 x1 i * between y0 y1 j
unfolding contains squares_in between
square_is x0 x1 y0 y1 i j = one_and (le_z x0 i && le_z i (x1 -ℤ pos 1)) (le_z y0 j && le_z j (y1 -ℤ pos 1))

count_one : (x0 x1 y0 y1 i j : ℤ) (rs : List Region) → count_by (λ q. contains q i j) (squares_in (corners_at x0 y0 x1 y1) ∷ rs) ≡ between x0 x1 i * between y0 y1 j + count_by (λ q. contains q i j) rs
count_one x0 x1 y0 y1 i j rs =
    count_cons (λ (q : Region). contains q i j) (squares_in (corners_at x0 y0 x1 y1)) rs ∙ ap (λ (n : ℕ). n + count_by (λ (q : Region). contains q i j) rs) (square_is x0 x1 y0 y1 i j)

add_up : (a b c w a' b' c' w' : ℕ) → a + b + c ≡ w → a' + b' + c' ≡ w' → b * b' + (w * a' + (a * b' + (c * b' + (w * c' + 0)))) ≡ w * w'
add_up a b c w a' b' c' w' e e' =
    let middle : (a + b + c) * b' ≡ w * b' = ap (λ (n : ℕ). n * b') e in
    let whole : w * (a' + b' + c') ≡ w * w' = ap (λ (n : ℕ). w * n) e' in
    omega (arith, middle, whole)

around : (r g : Region) (i j : ℤ) → IsCut r g →
    count_by (λ q. contains q i j)
    (squares_in g ∷ squares_in (corners_at r.x0 r.y0 r.x1 g.y0) ∷ squares_in (corners_at r.x0 g.y0 g.x0 g.y1) ∷ squares_in (corners_at g.x1 g.y0 r.x1 g.y1) ∷ squares_in (corners_at r.x0 g.y1 r.x1 r.y1) ∷ [])
    ≡ one_if (contains (squares_in r) i j)
around r g i j cut =
    let north = squares_in (corners_at r.x0 r.y0 r.x1 g.y0) in
    let west = squares_in (corners_at r.x0 g.y0 g.x0 g.y1) in
    let east = squares_in (corners_at g.x1 g.y0 r.x1 g.y1) in
    let south = squares_in (corners_at r.x0 g.y1 r.x1 r.y1) in
    count_one g.x0 g.x1 g.y0 g.y1 i j (north ∷ west ∷ east ∷ south ∷ [])
    ∙ ap (λ (n : ℕ). between g.x0 g.x1 i * between g.y0 g.y1 j + n) (count_one r.x0 r.x1 r.y0 g.y0 i j (west ∷ east ∷ south ∷ [])
    ∙ ap (λ (n : ℕ). between r.x0 r.x1 i * between r.y0 g.y0 j + n) (count_one r.x0 g.x0 g.y0 g.y1 i j (east ∷ south ∷ [])
    ∙ ap (λ (n : ℕ). between r.x0 g.x0 i * between g.y0 g.y1 j + n) (count_one g.x1 r.x1 g.y0 g.y1 i j (south ∷ [])
    ∙ ap (λ (n : ℕ). between g.x1 r.x1 i * between g.y0 g.y1 j + n) (count_one r.x0 r.x1 g.y1 r.y1 i j []))))
    ∙ add_up (between r.x0 g.x0 i) (between g.x0 g.x1 i) (between g.x1 r.x1 i) (between r.x0 r.x1 i) (between r.y0 g.y0 j) (between g.y0 g.y1 j) (between g.y1 r.y1 j) (between r.y0 r.y1 j)
    (axis r.x0 g.x0 g.x1 r.x1 i cut.west cut.across cut.east) (axis r.y0 g.y0 g.y1 r.y1 j cut.north cut.along cut.south)
    ∙ sym (square_is r.x0 r.x1 r.y0 r.y1 i j)

-- a region with no cell has no square
no_square : (r : Region) (i j : ℤ) → is_empty r ≡ true → contains (squares_in r) i j ≡ false
unfolding squares_in
no_square r i j none = false_from_ne_true (contains (squares_in r) i j) (λ t. found (lies (squares_in r) i j t))
  where
    found : Lies (squares_in r) i j → ⊥
    found l =
        let w = l.west in
        let e = l.east in
        let n = l.north in
        let s = l.south in
        none_in ⊥ r none (record { across = omega (arith, ints, w, e); along = omega (arith, ints, n, s) })

count_skip : (r : Region) (i j : ℤ) (rs : List Region) → is_empty r ≡ true → count_by (λ q. contains q i j) (squares_in r ∷ rs) ≡ count_by (λ q. contains q i j) rs
unfolding one_if
count_skip r i j rs none =
    count_cons (λ (q : Region). contains q i j) (squares_in r) rs ∙ ap (λ (b : Bool). cond b 1 0 + count_by (λ (q : Region). contains q i j) rs) (no_square r i j none) ∙ zero-add (count_by (λ (q : Region). contains q i j) rs)

some_in_cut : (r g : Region) → IsCut r g → HasCell r
some_in_cut r g cut =
    let w = cut.west in
    let a = cut.across in
    let e = cut.east in
    let n = cut.north in
    let l = cut.along in
    let s = cut.south in
    record { across = omega (arith, ints, w, a, e); along = omega (arith, ints, n, l, s) }

parts_none : (finer active : Region) → is_empty active ≡ true → part_squares finer active ≡ []
unfolding part_squares
parts_none finer active none = rw none refl

parts_whole : (finer active : Region) → is_empty active ≡ false → is_empty (hole finer) ≡ true → part_squares finer active ≡ squares_in active ∷ []
unfolding part_squares
parts_whole finer active some closed = rw (some, closed) refl

parts_round : (finer active : Region) → is_empty active ≡ false → is_empty (hole finer) ≡ false →
    part_squares finer active
    ≡ squares_in (corners_at active.x0 active.y0 active.x1 (hole finer).y0)
    ∷ squares_in (corners_at active.x0 (hole finer).y0 (hole finer).x0 (hole finer).y1)
    ∷ squares_in (corners_at (hole finer).x1 (hole finer).y0 active.x1 (hole finer).y1)
    ∷ squares_in (corners_at active.x0 (hole finer).y1 active.x1 active.y1)
    ∷ []
unfolding part_squares
parts_round finer active some open' = rw (some, open') refl

-- a hole in an empty region is empty, and one that has a cell is cut out
hole_empty : (active gap : Region) → is_empty active ≡ true → HasHole active gap → is_empty gap ≡ true
hole_empty active gap none (inl e) = ap is_empty e ∙ empty_is_empty
hole_empty active gap none (inr cut) = none_in (is_empty gap ≡ true) active none (some_in_cut active gap cut)

hole_cut : (active gap : Region) → is_empty gap ≡ false → HasHole active gap → IsCut active gap
hole_cut active gap some (inl e) = none_in (IsCut active gap) gap (ap is_empty e ∙ empty_is_empty) (has_cell gap some)
hole_cut active gap some (inr cut) = cut

alone : (n : ℕ) → n + 0 ≡ n
alone n = omega arith

pub squares_once : (finer active : Region) (i j : ℤ) → HasHole active (hole finer) →
    count_by (λ squares. contains squares i j) (squares_in (hole finer) ∷ part_squares finer active) ≡ cond (contains (squares_in active) i j) 1 0
unfolding one_if squares_in
squares_once finer active i j has =
    elim (cases_Bool (is_empty active)) [
      | inl none ↦ ap (λ (rs : List Region). count_by (λ (q : Region). contains q i j) (squares_in (hole finer) ∷ rs)) (parts_none finer active none)
          ∙ count_skip (hole finer) i j [] (hole_empty active (hole finer) none has)
          ∙ sym (ap (λ (b : Bool). cond b 1 0) (no_square active i j none))
      | inr some ↦ elim (cases_Bool (is_empty (hole finer))) [
        | inl closed ↦ ap (λ (rs : List Region). count_by (λ (q : Region). contains q i j) (squares_in (hole finer) ∷ rs)) (parts_whole finer active some closed)
            ∙ count_skip (hole finer) i j (squares_in active ∷ []) closed
            ∙ count_cons (λ (q : Region). contains q i j) (squares_in active) [] ∙ alone (cond (contains (squares_in active) i j) 1 0)
        | inr open' ↦ ap (λ (rs : List Region). count_by (λ (q : Region). contains q i j) (squares_in (hole finer) ∷ rs)) (parts_round finer active some open')
            ∙ around active (hole finer) i j (hole_cut active (hole finer) open' has)
      ]
    ]
