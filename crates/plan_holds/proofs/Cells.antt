-- Which cells a region has: what the laws need of the definitions of regions.
use Rattle.std.proofs.Common.{◌≡◌, true, false, ℤ, refl, sym, ◌∙◌, subst, inl, inr, arith}
use Rattle.std.proofs.lemmas.Int.{ints}
use Rattle.std.proofs.lemmas.Bool.{cases_Bool, true≢false}
use Rattle.clip_regions.specs.declared.region.Region.{Region}
use Rattle.clip_regions.specs.Regions.{contains, is_empty, empty_region, spelled, meet, holds}
use Rattle.clip_regions.proofs.Cells.{HasCell, has_cell, not_empty, both, lies, lying, Lies, cell_in, holds_within, within, held_cell, meet_is, in_left, in_right}

-- ---- cells
pub some_cell : (r : Region) (i j : ℤ) → contains r i j ≡ true → is_empty r ≡ false
some_cell r i j t = not_empty r (cell_in r i j (lies r i j t))

pub none_in_empty : (r : Region) (i j : ℤ) → is_empty r ≡ true → contains r i j ≡ true → ⊥
none_in_empty r i j e t = true≢false (sym e ∙ some_cell r i j t)

-- a cell of a region lies in one that holds it
pub held_in : (a b : Region) (i j : ℤ) → holds a b ≡ true → contains b i j ≡ true → contains a i j ≡ true
held_in a b i j h t = lying a i j (held_cell a b (within a b h (some_cell b i j t)) i j (lies b i j t))

-- a region each of whose cells lies in another is held by it
pub holding : (a b : Region) → ((i j : ℤ) → contains b i j ≡ true → contains a i j ≡ true) → holds a b ≡ true
unfolding holds
holding a b each =
    elim (cases_Bool (is_empty b)) [
      | inl e ↦ rw e refl
      | inr e ↦
          let some : HasCell b = has_cell b e in
          let first : Lies a b.x0 b.y0 = lies a b.x0 b.y0 (each b.x0 b.y0 (lying b b.x0 b.y0 (record { west = omega (arith, ints); east = some.across; north = omega (arith, ints); south = some.along }))) in
          let last : Lies a b.x1 b.y1 = lies a b.x1 b.y1 (each b.x1 b.y1 (lying b b.x1 b.y1 (record { west = some.across; east = omega (arith, ints); north = some.along; south = omega (arith, ints) }))) in
          holds_within a b (record { west = first.west; east = last.east; north = first.north; south = last.south })
    ]

-- ---- meets
pub no_cell_of_empty : (i j : ℤ) → contains empty_region i j ≡ true → ⊥
unfolding is_empty
no_cell_of_empty i j t = none_in_empty empty_region i j refl t

spelled_cell : (r : Region) (i j : ℤ) → contains (spelled r) i j ≡ true → contains r i j ≡ true
unfolding spelled
spelled_cell r i j t =
    elim (cases_Bool (is_empty r)) [
      | inl e ↦ absurd (no_cell_of_empty i j (rw e at t))
      | inr e ↦ rw e at t
    ]

pub met : (a b : Region) (i j : ℤ) → contains (meet a b) i j ≡ true → (contains a i j ≡ true) × (contains b i j ≡ true)
met a b i j t =
    let cell : contains (both a b) i j ≡ true = spelled_cell (both a b) i j (subst (λ (r : Region). contains r i j ≡ true) (meet_is a b) t) in
    let there : Lies (both a b) i j = lies (both a b) i j cell in
    (lying a i j (held_cell a (both a b) (in_left a b) i j there), lying b i j (held_cell b (both a b) (in_right a b) i j there))
