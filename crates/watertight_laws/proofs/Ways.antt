-- Steps from one cell to another: which of the kinds of edges a step can be.
use Rattle.std.proofs.Common.{◌≡◌, ℕ, ◌+◌, Bool, true, false, cond, ◌&&◌, ◌==◌, List, [], ◌∷◌, ℤ, pos, negsuc, ◌+ℤ◌, ◌-ℤ◌, refl, ap, sym, ◌∙◌, inl, inr, ◌⊎◌, arith}
use Rattle.std.specs.Ordering.{int_eq}
use Rattle.std.proofs.lemmas.Int.{ints}
use Rattle.std.proofs.lemmas.Bool.{cases_Bool, and_parts, eqb-true}
use Rattle.clip_regions.specs.declared.region.Region.{Region}
use Rattle.clip_regions.specs.FloorDivision.{floor_div, floor_rem}
use Rattle.mesh_model.specs.Vertices.{hole}
use Rattle.watertight_laws.specs.Edges.{Spot, Nowhere, At, coarser_spot, by_step, squares_at, ring_edges, has_cell_at, north_steps, east_steps, south_steps, west_steps, border_edges, square_edges_from, stitch_edges_from}
use Rattle.watertight_laws.proofs.Picks.{same_from, same_int}
use Rattle.mesh_model.proofs.Rectangles.{half_and_rest}
use Rattle.clip_regions.proofs.Cells.{same_test}

-- from (x, z) it is dx columns and dz rows to (x', z')
pub record IsStep (dx dz x z x' z' : ℤ) : Type 0 where
  pub column : x' ≡ x +ℤ dx
  pub row : z' ≡ z +ℤ dz

same_step : (d e x x' : ℤ) → x' ≡ x +ℤ d → int_eq x' (x +ℤ e) ≡ int_eq d e
same_step d e x x' h =
    same_test (int_eq x' (x +ℤ e)) (int_eq d e)
    (λ t. same_int d e (let s : x' ≡ x +ℤ e = same_from x' (x +ℤ e) t in omega (arith, ints, h, s)))
    (λ t. same_int x' (x +ℤ e) (let s : d ≡ e = same_from d e t in omega (arith, ints, h, s)))

step_at : (ex ez : ℤ) (count : ℤ → ℤ → ℕ) (dx dz x z x' z' : ℤ) → IsStep dx dz x z x' z' → by_step ex ez count (At x z) (At x' z') ≡ cond (int_eq dx ex && int_eq dz ez) (count x z) 0
step_at ex ez count dx dz x z x' z' h = λ t. cond (same_step dx ex x x' h.column t && same_step dz ez z z' h.row t) (count x z) 0

pub ring_at : (finer active : Region) (dx dz x z x' z' : ℤ) → IsStep dx dz x z x' z' → ring_edges finer active (At x z) (At x' z')
    ≡ ((cond (int_eq dx (pos 0) && int_eq dz (pos 1)) (squares_at finer active x z) 0
    + cond (int_eq dx (pos 1) && int_eq dz (pos 0)) (squares_at finer active x (z -ℤ pos 1)) 0)
    + cond (int_eq dx (negsuc 0) && int_eq dz (negsuc 0)) (squares_at finer active (x -ℤ pos 1) (z -ℤ pos 1)) 0)
    + ((cond (int_eq dx (pos 1) && int_eq dz (pos 1)) (squares_at finer active x z) 0
    + cond (int_eq dx (pos 0) && int_eq dz (negsuc 0)) (squares_at finer active (x -ℤ pos 1) (z -ℤ pos 1)) 0)
    + cond (int_eq dx (negsuc 0) && int_eq dz (pos 0)) (squares_at finer active (x -ℤ pos 1) z) 0)
unfolding ring_edges
ring_at finer active dx dz x z x' z' h =
    let s = squares_at finer active in
    λ t. ((step_at (pos 0) (pos 1) s dx dz x z x' z' h t
    + step_at (pos 1) (pos 0) (λ i j. s i (j -ℤ pos 1)) dx dz x z x' z' h t)
    + step_at (negsuc 0) (negsuc 0) (λ i j. s (i -ℤ pos 1) (j -ℤ pos 1)) dx dz x z x' z' h t)
    + ((step_at (pos 1) (pos 1) s dx dz x z x' z' h t
    + step_at (pos 0) (negsuc 0) (λ i j. s (i -ℤ pos 1) (j -ℤ pos 1)) dx dz x z x' z' h t)
    + step_at (negsuc 0) (pos 0) (λ i j. s (i -ℤ pos 1) j) dx dz x z x' z' h t)

pub border_at : (r : Region) (dx dz x z x' z' : ℤ) → IsStep dx dz x z x' z' → border_edges r (At x z) (At x' z')
    ≡ (cond (int_eq dx (pos 1) && int_eq dz (pos 0)) (has_cell_at (north_steps r) x z) 0
    + cond (int_eq dx (pos 0) && int_eq dz (pos 1)) (has_cell_at (east_steps r) x z) 0)
    + (cond (int_eq dx (negsuc 0) && int_eq dz (pos 0)) (has_cell_at (south_steps r) x z) 0
    + cond (int_eq dx (pos 0) && int_eq dz (negsuc 0)) (has_cell_at (west_steps r) x z) 0)
unfolding border_edges
border_at r dx dz x z x' z' h =
    λ t. (step_at (pos 1) (pos 0) (has_cell_at (north_steps r)) dx dz x z x' z' h t
    + step_at (pos 0) (pos 1) (has_cell_at (east_steps r)) dx dz x z x' z' h t)
    + (step_at (negsuc 0) (pos 0) (has_cell_at (south_steps r)) dx dz x z x' z' h t
    + step_at (pos 0) (negsuc 0) (has_cell_at (west_steps r)) dx dz x z x' z' h t)

-- ---- south, east and across
module _ (finer active : Region) (x z x' z' : ℤ) where
  pub south_ring : IsStep (pos 0) (pos 1) x z x' z' → ring_edges finer active (At x z) (At x' z') ≡ squares_at finer active x z
  south_ring h = ring_at finer active (pos 0) (pos 1) x z x' z' h ∙ (omega arith)

  pub east_ring : IsStep (pos 1) (pos 0) x z x' z' → ring_edges finer active (At x z) (At x' z') ≡ squares_at finer active x (z -ℤ pos 1)
  east_ring h = ring_at finer active (pos 1) (pos 0) x z x' z' h ∙ (omega arith)

  pub across_ring : IsStep (pos 1) (pos 1) x z x' z' → ring_edges finer active (At x z) (At x' z') ≡ squares_at finer active x z
  across_ring h = ring_at finer active (pos 1) (pos 1) x z x' z' h ∙ (omega arith)

  pub north_ring : IsStep (pos 0) (negsuc 0) x z x' z' → ring_edges finer active (At x z) (At x' z') ≡ squares_at finer active (x -ℤ pos 1) (z -ℤ pos 1)
  north_ring h = ring_at finer active (pos 0) (negsuc 0) x z x' z' h ∙ (omega arith)

  pub west_ring : IsStep (negsuc 0) (pos 0) x z x' z' → ring_edges finer active (At x z) (At x' z') ≡ squares_at finer active (x -ℤ pos 1) z
  west_ring h = ring_at finer active (negsuc 0) (pos 0) x z x' z' h ∙ (omega arith)

  pub back_ring : IsStep (negsuc 0) (negsuc 0) x z x' z' → ring_edges finer active (At x z) (At x' z') ≡ squares_at finer active (x -ℤ pos 1) (z -ℤ pos 1)
  back_ring h = ring_at finer active (negsuc 0) (negsuc 0) x z x' z' h ∙ (omega arith)

module _ (r : Region) (x z x' z' : ℤ) where
  pub south_border : IsStep (pos 0) (pos 1) x z x' z' → border_edges r (At x z) (At x' z') ≡ has_cell_at (east_steps r) x z
  south_border h = border_at r (pos 0) (pos 1) x z x' z' h ∙ (omega arith)

  pub east_border : IsStep (pos 1) (pos 0) x z x' z' → border_edges r (At x z) (At x' z') ≡ has_cell_at (north_steps r) x z
  east_border h = border_at r (pos 1) (pos 0) x z x' z' h ∙ (omega arith)

  pub across_border : IsStep (pos 1) (pos 1) x z x' z' → border_edges r (At x z) (At x' z') ≡ 0
  across_border h = border_at r (pos 1) (pos 1) x z x' z' h ∙ (omega arith)

  pub north_border : IsStep (pos 0) (negsuc 0) x z x' z' → border_edges r (At x z) (At x' z') ≡ has_cell_at (west_steps r) x z
  north_border h = border_at r (pos 0) (negsuc 0) x z x' z' h ∙ (omega arith)

  pub west_border : IsStep (negsuc 0) (pos 0) x z x' z' → border_edges r (At x z) (At x' z') ≡ has_cell_at (south_steps r) x z
  west_border h = border_at r (negsuc 0) (pos 0) x z x' z' h ∙ (omega arith)

  pub back_border : IsStep (negsuc 0) (negsuc 0) x z x' z' → border_edges r (At x z) (At x' z') ≡ 0
  back_border h = border_at r (negsuc 0) (negsuc 0) x z x' z' h ∙ (omega arith)

-- ---- any other step
-- no edge has this step, neither way
pub record IsFar (dx dz : ℤ) : Type 0 where
  pub south : (int_eq dx (pos 0) && int_eq dz (pos 1)) ≡ false
  pub east : (int_eq dx (pos 1) && int_eq dz (pos 0)) ≡ false
  pub back : (int_eq dx (negsuc 0) && int_eq dz (negsuc 0)) ≡ false
  pub across : (int_eq dx (pos 1) && int_eq dz (pos 1)) ≡ false
  pub north : (int_eq dx (pos 0) && int_eq dz (negsuc 0)) ≡ false
  pub west : (int_eq dx (negsuc 0) && int_eq dz (pos 0)) ≡ false

none_of : (b : Bool) (n : ℕ) → b ≡ false → cond b n 0 ≡ 0
none_of b n e = ap (λ c. cond c n 0) e

pub far_ring : (finer active : Region) (dx dz x z x' z' : ℤ) → IsStep dx dz x z x' z' → IsFar dx dz → ring_edges finer active (At x z) (At x' z') ≡ 0
far_ring finer active dx dz x z x' z' h far =
    let s = squares_at finer active in
    ring_at finer active dx dz x z x' z' h
    ∙ (λ t. ((none_of (int_eq dx (pos 0) && int_eq dz (pos 1)) (s x z) far.south t
    + none_of (int_eq dx (pos 1) && int_eq dz (pos 0)) (s x (z -ℤ pos 1)) far.east t)
    + none_of (int_eq dx (negsuc 0) && int_eq dz (negsuc 0)) (s (x -ℤ pos 1) (z -ℤ pos 1)) far.back t)
    + ((none_of (int_eq dx (pos 1) && int_eq dz (pos 1)) (s x z) far.across t
    + none_of (int_eq dx (pos 0) && int_eq dz (negsuc 0)) (s (x -ℤ pos 1) (z -ℤ pos 1)) far.north t)
    + none_of (int_eq dx (negsuc 0) && int_eq dz (pos 0)) (s (x -ℤ pos 1) z) far.west t))

pub far_border : (r : Region) (dx dz x z x' z' : ℤ) → IsStep dx dz x z x' z' → IsFar dx dz → border_edges r (At x z) (At x' z') ≡ 0
far_border r dx dz x z x' z' h far =
    border_at r dx dz x z x' z' h
    ∙ (λ t. (none_of (int_eq dx (pos 1) && int_eq dz (pos 0)) (has_cell_at (north_steps r) x z) far.east t
    + none_of (int_eq dx (pos 0) && int_eq dz (pos 1)) (has_cell_at (east_steps r) x z) far.south t)
    + (none_of (int_eq dx (negsuc 0) && int_eq dz (pos 0)) (has_cell_at (south_steps r) x z) far.west t
    + none_of (int_eq dx (pos 0) && int_eq dz (negsuc 0)) (has_cell_at (west_steps r) x z) far.north t))

-- a spot is no step from itself
pub self_far : IsFar (pos 0) (pos 0)
self_far = record { south = refl; east = refl; back = refl; across = refl; north = refl; west = refl }

-- the step back
turn : (dx ex dz ez : ℤ) (kx lx kz lz : ℤ) → dx +ℤ ex ≡ pos 0 → dz +ℤ ez ≡ pos 0 → kx +ℤ lx ≡ pos 0 → kz +ℤ lz ≡ pos 0 → (int_eq dx kx && int_eq dz kz) ≡ false → (int_eq ex lx && int_eq ez lz) ≡ false
turn dx ex dz ez kx lx kz lz hx hz gx gz e =
    sym ((λ t. same_test (int_eq dx kx) (int_eq ex lx) forward back t && same_test (int_eq dz kz) (int_eq ez lz) forward' back' t)) ∙ e
  where
    forward : int_eq dx kx ≡ true → int_eq ex lx ≡ true
    forward t = let s : dx ≡ kx = same_from dx kx t in same_int ex lx (omega (arith, ints, s, hx, gx))

    back : int_eq ex lx ≡ true → int_eq dx kx ≡ true
    back t = let s : ex ≡ lx = same_from ex lx t in same_int dx kx (omega (arith, ints, s, hx, gx))

    forward' : int_eq dz kz ≡ true → int_eq ez lz ≡ true
    forward' t = let s : dz ≡ kz = same_from dz kz t in same_int ez lz (omega (arith, ints, s, hz, gz))

    back' : int_eq ez lz ≡ true → int_eq dz kz ≡ true
    back' t = let s : ez ≡ lz = same_from ez lz t in same_int dz kz (omega (arith, ints, s, hz, gz))

pub far_back : (dx ex dz ez : ℤ) → dx +ℤ ex ≡ pos 0 → dz +ℤ ez ≡ pos 0 → IsFar dx dz → IsFar ex ez
far_back dx ex dz ez hx hz far = record {
  south = turn dx ex dz ez (pos 0) (pos 0) (negsuc 0) (pos 1) hx hz refl refl far.north;
  east = turn dx ex dz ez (negsuc 0) (pos 1) (pos 0) (pos 0) hx hz refl refl far.west;
  back = turn dx ex dz ez (pos 1) (negsuc 0) (pos 1) (negsuc 0) hx hz refl refl far.across;
  across = turn dx ex dz ez (negsuc 0) (pos 1) (negsuc 0) (pos 1) hx hz refl refl far.back;
  north = turn dx ex dz ez (pos 0) (pos 0) (pos 1) (negsuc 0) hx hz refl refl far.south;
  west = turn dx ex dz ez (pos 1) (negsuc 0) (pos 0) (pos 0) hx hz refl refl far.east;
}

-- ---- each step is of one kind
pub data Kind (dx dz : ℤ) : Type 0 where
  South : dx ≡ pos 0 → dz ≡ pos 1 → Kind dx dz
  East : dx ≡ pos 1 → dz ≡ pos 0 → Kind dx dz
  Across : dx ≡ pos 1 → dz ≡ pos 1 → Kind dx dz
  North : dx ≡ pos 0 → dz ≡ negsuc 0 → Kind dx dz
  West : dx ≡ negsuc 0 → dz ≡ pos 0 → Kind dx dz
  Back : dx ≡ negsuc 0 → dz ≡ negsuc 0 → Kind dx dz
  Far : IsFar dx dz → Kind dx dz

both : (dx dz kx kz : ℤ) → (int_eq dx kx && int_eq dz kz) ≡ true → (dx ≡ kx) × (dz ≡ kz)
both dx dz kx kz e =
    let parts : (int_eq dx kx ≡ true) × (int_eq dz kz ≡ true) = and_parts (int_eq dx kx) (int_eq dz kz) e in
    (same_from dx kx parts.0, same_from dz kz parts.1)

pub kind_of : (dx dz : ℤ) → Kind dx dz
kind_of dx dz =
    elim (cases_Bool (int_eq dx (pos 0) && int_eq dz (pos 1))) [
      | inl e ↦ let h = both dx dz (pos 0) (pos 1) e in South h.0 h.1
      | inr south ↦ elim (cases_Bool (int_eq dx (pos 1) && int_eq dz (pos 0))) [
        | inl e ↦ let h = both dx dz (pos 1) (pos 0) e in East h.0 h.1
        | inr east ↦ elim (cases_Bool (int_eq dx (pos 1) && int_eq dz (pos 1))) [
          | inl e ↦ let h = both dx dz (pos 1) (pos 1) e in Across h.0 h.1
          | inr across ↦ elim (cases_Bool (int_eq dx (pos 0) && int_eq dz (negsuc 0))) [
            | inl e ↦ let h = both dx dz (pos 0) (negsuc 0) e in North h.0 h.1
            | inr north ↦ elim (cases_Bool (int_eq dx (negsuc 0) && int_eq dz (pos 0))) [
              | inl e ↦ let h = both dx dz (negsuc 0) (pos 0) e in West h.0 h.1
              | inr west ↦ elim (cases_Bool (int_eq dx (negsuc 0) && int_eq dz (negsuc 0))) [
                | inl e ↦ let h = both dx dz (negsuc 0) (negsuc 0) e in Back h.0 h.1
                | inr back ↦ Far (record { south = south; east = east; back = back; across = across; north = north; west = west })
              ]
            ]
          ]
        ]
      ]
    ]

-- ---- spots that are nowhere
pub square_from_nowhere : (finer : Region) (actives : List Region) (q : Spot) → square_edges_from finer actives Nowhere q ≡ 0
unfolding ring_edges
square_from_nowhere finer [] q = refl
square_from_nowhere finer (active ∷ coarser) q = let rest = square_from_nowhere active coarser (coarser_spot q) in omega (arith, rest)

ring_to_nowhere : (finer active : Region) (p : Spot) → ring_edges finer active p Nowhere ≡ 0
unfolding ring_edges
ring_to_nowhere finer active Nowhere = refl
ring_to_nowhere finer active (At x z) = refl

border_to_nowhere : (r : Region) (p : Spot) → border_edges r p Nowhere ≡ 0
unfolding border_edges
border_to_nowhere r Nowhere = refl
border_to_nowhere r (At x z) = refl

border_from_nowhere : (r : Region) (q : Spot) → border_edges r Nowhere q ≡ 0
unfolding border_edges
border_from_nowhere r q = refl

pub square_to_nowhere : (finer : Region) (actives : List Region) (p : Spot) → square_edges_from finer actives p Nowhere ≡ 0
square_to_nowhere finer [] p = refl
square_to_nowhere finer (active ∷ coarser) p =
    let here = ring_to_nowhere finer active p in
    let rest = square_to_nowhere active coarser (coarser_spot p) in
    omega (arith, here, rest)

pub stitch_from_nowhere : (active : Region) (coarser : List Region) (q : Spot) → stitch_edges_from active coarser Nowhere q ≡ 0
stitch_from_nowhere active [] q = refl
stitch_from_nowhere active (next ∷ coarser) q =
    let here = border_from_nowhere active q in
    let there = border_to_nowhere (hole active) (coarser_spot q) in
    let rest = stitch_from_nowhere next coarser (coarser_spot q) in
    omega (arith, here, there, rest)

pub stitch_to_nowhere : (active : Region) (coarser : List Region) (p : Spot) → stitch_edges_from active coarser p Nowhere ≡ 0
stitch_to_nowhere active [] p = refl
stitch_to_nowhere active (next ∷ coarser) p =
    let here = border_to_nowhere active p in
    let there = border_from_nowhere (hole active) (coarser_spot p) in
    let rest = stitch_to_nowhere next coarser (coarser_spot p) in
    omega (arith, here, there, rest)

-- the edges from this level on, with the long edges round the hole
unfoldable pub edges_from : Region → Region → List Region → Spot → Spot → ℕ
edges_from finer active coarser p q = (square_edges_from finer (active ∷ coarser) p q + stitch_edges_from active coarser p q) + border_edges (hole finer) q p

pub from_nowhere : (finer active : Region) (coarser : List Region) (q : Spot) → edges_from finer active coarser Nowhere q ≡ 0
unfolding edges_from
from_nowhere finer active coarser q =
    let squares = square_from_nowhere finer (active ∷ coarser) q in
    let stitches = stitch_from_nowhere active coarser q in
    let border = border_to_nowhere (hole finer) q in
    omega (arith, squares, stitches, border)

pub to_nowhere : (finer active : Region) (coarser : List Region) (p : Spot) → edges_from finer active coarser p Nowhere ≡ 0
unfolding edges_from
to_nowhere finer active coarser p =
    let squares = square_to_nowhere finer (active ∷ coarser) p in
    let stitches = stitch_to_nowhere active coarser p in
    let border = border_from_nowhere (hole finer) p in
    omega (arith, squares, stitches, border)

-- ---- a step of one changes what is even
next_odd : (z z' : ℤ) → z' ≡ z +ℤ pos 1 → floor_rem z 2 ≡ 0 → floor_rem z' 2 ≡ 0 → ⊥
next_odd z z' h even even' =
    let w = half_and_rest z in
    let w' = half_and_rest z' in
    omega (arith, ints, h, even, even', w, w')

pub even_spot : (x z : ℤ) → (coarser_spot (At x z) ≡ Nowhere) ⊎ ((floor_rem x 2 ≡ 0) × (floor_rem z 2 ≡ 0) × (coarser_spot (At x z) ≡ At (floor_div x 2) (floor_div z 2)))
even_spot x z =
    elim (cases_Bool (floor_rem x 2 == 0 && floor_rem z 2 == 0)) [
      | inl e ↦ let parts : ((floor_rem x 2 == 0) ≡ true) × ((floor_rem z 2 == 0) ≡ true) = and_parts (floor_rem x 2 == 0) (floor_rem z 2 == 0) e in
          inr (eqb-true (floor_rem x 2) 0 parts.0, eqb-true (floor_rem z 2) 0 parts.1, ap (λ b. cond b (At (floor_div x 2) (floor_div z 2)) Nowhere) e)
      | inr e ↦ inl (ap (λ b. cond b (At (floor_div x 2) (floor_div z 2)) Nowhere) e)
    ]

-- of two spots one step apart one is nowhere on the next coarser level
pub one_nowhere : (x z x' z' : ℤ) → (x' ≡ x +ℤ pos 1) ⊎ (z' ≡ z +ℤ pos 1) → (coarser_spot (At x z) ≡ Nowhere) ⊎ (coarser_spot (At x' z') ≡ Nowhere)
one_nowhere x z x' z' h = cases (even_spot x z) (even_spot x' z') h
  where
    cases : (coarser_spot (At x z) ≡ Nowhere) ⊎ ((floor_rem x 2 ≡ 0) × (floor_rem z 2 ≡ 0) × (coarser_spot (At x z) ≡ At (floor_div x 2) (floor_div z 2))) →
        (coarser_spot (At x' z') ≡ Nowhere) ⊎ ((floor_rem x' 2 ≡ 0) × (floor_rem z' 2 ≡ 0) × (coarser_spot (At x' z') ≡ At (floor_div x' 2) (floor_div z' 2))) →
        (x' ≡ x +ℤ pos 1) ⊎ (z' ≡ z +ℤ pos 1) → (coarser_spot (At x z) ≡ Nowhere) ⊎ (coarser_spot (At x' z') ≡ Nowhere)
    cases (inl none) o w = inl none
    cases (inr e) (inl none) w = inr none
    cases (inr e) (inr e') (inl s) = absurd (next_odd x x' s e.0 e'.0)
    cases (inr e) (inr e') (inr s) = absurd (next_odd z z' s e.1 e'.1)
