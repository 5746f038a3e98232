-- The rows of a ring as runs of cells.
use Rattle.std.proofs.Common.{◌≡◌, ℕ, zero, suc, ◌+◌, true, false, not, ◌&&◌, ◌∷◌, ◌++◌, ℤ, pos, negsuc, ◌+ℤ◌, ◌≤ℤ◌, map, refl, ap, sym, subst, ◌∙◌, inl, inr, arith}
use Rattle.std.specs.List.{flat_map, range_with_len}
use Rattle.std.specs.Int.{int_gap}
use Rattle.std.proofs.lemmas.Int.{ints}
use Rattle.std.proofs.lemmas.Bool.{and_parts, and_right, false_from_ne_true}
use lib.Signed.{le_z}
use Rattle.clip_regions.specs.declared.region.Region.{Region}
use Rattle.clip_regions.specs.Regions.{contains, columns, rows, numbers_from}
use Rattle.mesh_model.specs.Vertices.{hole, cells_outside}
use Rattle.mesh_laws.specs.Rings.{run, ring_row}
use Rattle.mesh_laws.specs.Conditions.{IsCut, HasHole}
use Rattle.clip_regions.proofs.Gaps.{gap_by}
use Rattle.mesh_laws.proofs.Rows.{filter_keeps, filter_middle}
use Rattle.mesh_laws.proofs.Listed.{cell_in_row, is_out, row_out, cells_are_rows}
use Rattle.clip_regions.proofs.Cells.{Lies, lies, lying}
use Rattle.mesh_model.proofs.Ranges.{flat_map_of_map}

pub rows_are : (finer active : Region) → cells_outside finer active ≡ flat_map (ring_row (hole finer) active) (numbers_from active.y0 (rows active))
unfolding ring_row run row_out is_out cell_in_row
rows_are finer active =
    cells_are_rows finer active ∙ sym (flat_map_of_map (ring_row (hole finer) active) (λ v. active.y0 +ℤ pos v) (range_with_len 0 (rows active)))

pub whole_run : (gap active : Region) (j : ℤ) → (le_z gap.y0 j && le_z j gap.y1) ≡ false → ring_row gap active j ≡ run active.x0 j (columns active)
unfolding ring_row run contains
whole_run gap active j away =
    filter_keeps (λ cell. not (contains gap cell.0 cell.1)) (λ u. (active.x0 +ℤ pos u, j)) 0 (columns active)
    (λ u low high. ap not (and_right (le_z gap.x0 (active.x0 +ℤ pos u) && le_z (active.x0 +ℤ pos u) gap.x1) (le_z gap.y0 j && le_z j gap.y1) away))

-- the same row counted from another column
shifted : {A : Type 0} (f g : ℕ → A) (s t n : ℕ) → ((x y u : ℕ) → x ≡ s + u → y ≡ t + u → f x ≡ g y) → map f (range_with_len s n) ≡ map g (range_with_len t n)
shifted f g s t zero h = refl
shifted f g s t (suc n) h =
    ap (λ x. x ∷ map f (range_with_len (s + 1) n)) (h s t 0 (omega arith) (omega arith))
    ∙ ap (λ rest. g t ∷ rest) (shifted f g (s + 1) (t + 1) n (λ x y u ex ey. h x y (u + 1) (omega arith) (omega arith)))

not_at : (gap : Region) (i j : ℤ) → (Lies gap i j → ⊥) → not (contains gap i j) ≡ true
not_at gap i j h = ap not (false_from_ne_true (contains gap i j) (λ t. h (lies gap i j t)))

pub cut_run : (gap active : Region) (j : ℤ) → IsCut active gap → gap.y0 ≤ℤ j → j ≤ℤ gap.y1 →
    ring_row gap active j ≡ run active.x0 j (int_gap active.x0 gap.x0) ++ run (gap.x1 +ℤ pos 1) j (int_gap gap.x1 active.x1)
unfolding ring_row run columns
cut_run gap active j cut north south =
    filter_middle (λ cell. not (contains gap cell.0 cell.1)) cell a b c (int_gap active.x0 (active.x1 +ℤ pos 1)) (a + b) wide refl
    (λ u below. not_at gap (active.x0 +ℤ pos u) j (λ l. omega (arith, ints, below, l.west, cw, gap_by active.x0 gap.x0)))
    (λ u from to. ap not (lying gap (active.x0 +ℤ pos u) j (record {
      west = omega (arith, ints, from, cw, gap_by active.x0 gap.x0);
      east = omega (arith, ints, to, cw, ca, gap_by active.x0 gap.x0, gap_by gap.x0 (gap.x1 +ℤ pos 1));
      north = north;
      south = south;
    })))
    (λ u past _. not_at gap (active.x0 +ℤ pos u) j (λ l. omega (arith, ints, past, l.east, cw, ca, gap_by active.x0 gap.x0, gap_by gap.x0 (gap.x1 +ℤ pos 1))))
    ∙ ap (λ rest. map cell (range_with_len 0 a) ++ rest) (shifted cell (λ u. ((gap.x1 +ℤ pos 1) +ℤ pos u, j)) (a + b) 0 c (λ x y u ex ey t. (moved x y u ex ey t, j)))
  where
    a : ℕ
    a = int_gap active.x0 gap.x0

    b : ℕ
    b = int_gap gap.x0 (gap.x1 +ℤ pos 1)

    c : ℕ
    c = int_gap gap.x1 active.x1

    cell : ℕ → ℤ × ℤ
    cell u = (active.x0 +ℤ pos u, j)

    cw : active.x0 ≤ℤ gap.x0
    cw = cut.west

    ca : gap.x0 ≤ℤ gap.x1
    ca = cut.across

    wide : a + b + c ≡ int_gap active.x0 (active.x1 +ℤ pos 1)
    wide = let ce = cut.east in omega (arith, ints, cw, ca, ce, gap_by active.x0 gap.x0, gap_by gap.x0 (gap.x1 +ℤ pos 1), gap_by gap.x1 active.x1, gap_by active.x0 (active.x1 +ℤ pos 1))

    moved : (x y u : ℕ) → x ≡ a + b + u → y ≡ 0 + u → active.x0 +ℤ pos x ≡ (gap.x1 +ℤ pos 1) +ℤ pos y
    moved x y u ex ey = omega (arith, ints, ex, ey, cw, ca, gap_by active.x0 gap.x0, gap_by gap.x0 (gap.x1 +ℤ pos 1))

tested : (a b : ℤ) → le_z a b ≡ true → a ≤ℤ b
tested a b e = omega (arith, ints)

pub cut_row : (gap active : Region) (j : ℤ) → HasHole active gap → (le_z gap.y0 j && le_z j gap.y1) ≡ true →
    ring_row gap active j ≡ run active.x0 j (int_gap active.x0 gap.x0) ++ run (gap.x1 +ℤ pos 1) j (int_gap gap.x1 active.x1)
cut_row gap active j has there =
    let parts : (le_z gap.y0 j ≡ true) × (le_z j gap.y1 ≡ true) = and_parts (le_z gap.y0 j) (le_z j gap.y1) there in
    let north : gap.y0 ≤ℤ j = tested gap.y0 j parts.0 in
    let south : j ≤ℤ gap.y1 = tested j gap.y1 parts.1 in
    elim has [
      | inl none ↦ absurd (nowhere (subst (λ (r : Region). r.y0 ≤ℤ j) none north) (subst (λ (r : Region). j ≤ℤ r.y1) none south))
      | inr cut ↦ cut_run gap active j cut north south
    ]
  where
    nowhere : pos 0 ≤ℤ j → j ≤ℤ negsuc 0 → ⊥
    nowhere low high = omega (arith, ints, low, high)
