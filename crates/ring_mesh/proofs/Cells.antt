-- Cells of runs and of rows.
use Rattle.std.proofs.Common.{◌≡◌, ℕ, ◌+◌, ◌<◌, ◌≤◌, ◌^◌, true, ◌&&◌, ℤ, pos, negsuc, ◌+ℤ◌, ◌≤ℤ◌, int_le, inl, inr, sym, subst, w32, arith}
use Rattle.std.specs.Int.{int_gap}
use Rattle.std.specs.Int.Signed.{≤ℤ_refl}
use Rattle.std.proofs.lemmas.Int.{ints}
use Rattle.clip_regions.specs.declared.region.Region.{Region}
use Rattle.clip_regions.specs.Regions.{columns, rows, IsWithin}
use Rattle.mesh_laws.specs.Conditions.{IsCell, IsCut, HasHole}
use Rattle.ring_mesh.specs.Listed.{HasRun}
use mir.Val.{to_z, of_z}
use Rattle.clip_regions.proofs.Gaps.{gap_by, gap_holds, way_within}

-- row j is one of the region's
pub record IsRow (r : Region) (j : ℤ) : Type 0 where
  pub north : r.y0 ≤ℤ j
  pub south : j ≤ℤ r.y1

pub row_at : (r : Region) (v : ℕ) → v < rows r → IsRow r (r.y0 +ℤ pos v)
unfolding rows
row_at r v low =
    let end = gap_holds r.y0 (r.y1 +ℤ pos 1) v low in
    record { north = omega (arith, ints); south = omega (arith, ints, end) }

-- cell u of a run
pub cell_of : (r : Region) (i j : ℤ) (n u : ℕ) → HasRun r i j n → u < n → IsCell r (i +ℤ pos u) j
cell_of r i j n u has low = record { west = omega (arith, ints, has.west); east = has.east u low; north = has.north; south = has.south }

-- its column, read back
pub column_of : (r : Region) (i j : ℤ) (n u : ℕ) → HasRun r i j n → u < n → n ≤ 255 → to_z w32 (of_z w32 (to_z w32 (of_z w32 i) +ℤ to_z w32 u)) ≡ i +ℤ pos u
column_of r i j n u has low few =
    let east = has.east u low in
    omega (arith, ints, low, few, has.west, east, has.near.x0_low, has.near.x1_high)

-- a run with its numbers spelled in another way
pub run_as : (r : Region) (i j i' j' : ℤ) (n n' : ℕ) → i' ≡ i → j' ≡ j → n' ≡ n → HasRun r i j n → HasRun r i' j' n'
run_as r i j i' j' n n' ei ej en has =
    subst (λ (x : ℤ). HasRun r x j' n') (sym ei) (subst (λ (z : ℤ). HasRun r i z n') (sym ej) (subst (λ (m : ℕ). HasRun r i j m) (sym en) has))

-- the whole row of a region
pub whole_row : (r : Region) (j : ℤ) → IsWithin (2 ^ 24) r → IsRow r j → HasRun r r.x0 j (columns r)
unfolding columns
whole_row r j near row =
    record { near = near; west = ≤ℤ_refl r.x0; east = λ u low. before r.x0 r.x1 u (gap_holds r.x0 (r.x1 +ℤ pos 1) u low); north = row.north; south = row.south }
  where
    before : (a b : ℤ) (u : ℕ) → (a +ℤ pos (u + 1)) ≤ℤ (b +ℤ pos 1) → (a +ℤ pos u) ≤ℤ b
    before a b u h = omega (arith, ints, h)

-- a row that a hole has is cut by it
pub cut_by : (r gap : Region) (j : ℤ) → HasHole r gap → (int_le gap.y0 j && int_le j gap.y1) ≡ true → IsCut r gap
cut_by r gap j (inl none) h = absurd (nowhere j (subst (λ (q : Region). (int_le q.y0 j && int_le j q.y1) ≡ true) none h))
  where
    nowhere : (j' : ℤ) → (int_le (pos 0) j' && int_le j' (negsuc 0)) ≡ true → ⊥
    nowhere j' e = grind (arith, ints)
cut_by r gap j (inr cut) h = cut

-- what lies west and what lies east of a hole
pub west_run : (r gap : Region) (j : ℤ) → IsWithin (2 ^ 24) r → IsRow r j → IsCut r gap → HasRun r r.x0 j (int_gap r.x0 gap.x0)
west_run r gap j near row cut =
    record { near = near; west = ≤ℤ_refl r.x0; east = λ u low. before u (gap_holds r.x0 gap.x0 u low); north = row.north; south = row.south }
  where
    before : (u : ℕ) → (r.x0 +ℤ pos (u + 1)) ≤ℤ gap.x0 → (r.x0 +ℤ pos u) ≤ℤ r.x1
    before u h =
        let a = cut.across in
        let b = cut.east in
        omega (arith, ints, h, a, b)

pub east_run : (r gap : Region) (j : ℤ) → IsWithin (2 ^ 24) r → IsRow r j → IsCut r gap → HasRun r (gap.x1 +ℤ pos 1) j (int_gap gap.x1 r.x1)
east_run r gap j near row cut =
    let a = cut.across in
    let b = cut.west in
    record { near = near; west = omega (arith, ints, a, b); east = λ u low. before u (gap_holds gap.x1 r.x1 u low); north = row.north; south = row.south }
  where
    before : (u : ℕ) → (gap.x1 +ℤ pos (u + 1)) ≤ℤ r.x1 → ((gap.x1 +ℤ pos 1) +ℤ pos u) ≤ℤ r.x1
    before u h = omega (arith, ints, h)

pub west_few : (r gap : Region) → columns r ≤ 255 → IsCut r gap → int_gap r.x0 gap.x0 ≤ 255
unfolding columns
west_few r gap few cut =
    let a = cut.across in
    let b = cut.east in
    let inside : int_gap r.x0 gap.x0 + 1 ≤ 255 = way_within r.x0 gap.x0 r.x1 255 cut.west (omega (arith, ints, a, b)) few in
    omega (arith, inside)

pub east_few : (r gap : Region) → columns r ≤ 255 → IsCut r gap → int_gap gap.x1 r.x1 ≤ 255
unfolding columns
east_few r gap few cut =
    let a = gap_by gap.x1 r.x1 in
    let b = gap_by r.x0 (r.x1 +ℤ pos 1) in
    let w = cut.west in
    let x = cut.across in
    omega (arith, ints, a, b, w, x, few)
