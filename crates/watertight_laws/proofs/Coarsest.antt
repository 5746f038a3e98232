-- On the coarsest level, where no stitch goes along the border, the edges on the border are open and the others shut; and the level of any two spots.
use Rattle.std.proofs.Common.{◌≡◌, ℕ, Bool, true, false, ◌&&◌, ◌||◌, ℤ, pos, ◌+ℤ◌, ◌-ℤ◌, ◌≤ℤ◌, refl, sym, subst, ◌∙◌, inl, inr, ◌⊎◌, arith}
use Rattle.std.specs.Ordering.{int_eq}
use Rattle.std.proofs.lemmas.Int.{ints}
use Rattle.std.proofs.lemmas.Bool.{or_left, or_right, false≢true, false_from_ne_true}
use Rattle.clip_regions.specs.declared.region.Region.{Region}
use Rattle.clip_regions.specs.Regions.{contains}
use Rattle.mesh_model.specs.Vertices.{hole}
use Rattle.mesh_laws.specs.Laws.{SquaresOnce}
use Rattle.watertight_laws.specs.Edges.{Nowhere, At, coarser_spot, ring_edges, has_cell_at, north_steps, east_steps, south_steps, west_steps, border_edges}
use Rattle.watertight_laws.proofs.Sums.{one_if}
use Rattle.watertight_laws.proofs.Ways.{IsStep, Kind, South, East, Across, North, West, Back, Far, kind_of, far_ring, far_border, far_back, south_border, east_border, across_border, north_border, west_border, back_border, one_nowhere}
use Rattle.watertight_laws.proofs.Rings.{HasSides, IsRingShape, Balanced, Unused, Shared}
use Rattle.watertight_laws.proofs.OneLevel.{both_at, on_side, off_side, both_there, on_columns, on_rows, Closes, None, Open, Shut, closes_last, there_of, last_of, south_back, east_back, across_back, south_balanced, east_balanced, across_balanced}
use Rattle.clip_regions.proofs.Cells.{Lies, lies, lying}

cell_is : (r : Region) (x z : ℤ) → has_cell_at r x z ≡ one_if (contains r x z)
unfolding has_cell_at
cell_is r x z = refl

not_in : (r : Region) (x z : ℤ) → (Lies r x z → ⊥) → contains r x z ≡ false
not_in r x z h = false_from_ne_true (contains r x z) (λ t. h (lies r x z t))

-- where steps along a side begin
east_at : (r : Region) (x z : ℤ) → Lies (east_steps r) x z → x ≡ r.x1
unfolding east_steps
east_at r x z l = let a = l.west in let b = l.east in omega (arith, ints, a, b)

west_at : (r : Region) (x z : ℤ) → Lies (west_steps r) x z → x ≡ r.x0
unfolding west_steps
west_at r x z l = let a = l.west in let b = l.east in omega (arith, ints, a, b)

north_at : (r : Region) (x z : ℤ) → Lies (north_steps r) x z → z ≡ r.y0
unfolding north_steps
north_at r x z l = let a = l.north in let b = l.south in omega (arith, ints, a, b)

south_at : (r : Region) (x z : ℤ) → Lies (south_steps r) x z → z ≡ r.y1
unfolding south_steps
south_at r x z l = let a = l.north in let b = l.south in omega (arith, ints, a, b)

in_east : (r : Region) (x z z' : ℤ) → x ≡ r.x1 → z' ≡ z +ℤ pos 1 → r.y0 ≤ℤ z → z' ≤ℤ r.y1 → Lies (east_steps r) x z
unfolding east_steps
in_east r x z z' e h low high = record { west = omega (arith, ints, e); east = omega (arith, ints, e); north = low; south = omega (arith, ints, h, high) }

in_west : (r : Region) (x z z' : ℤ) → x ≡ r.x0 → z' ≡ z +ℤ pos 1 → r.y0 ≤ℤ z → z' ≤ℤ r.y1 → Lies (west_steps r) x z'
unfolding west_steps
in_west r x z z' e h low high = record { west = omega (arith, ints, e); east = omega (arith, ints, e); north = omega (arith, ints, h, low); south = high }

in_north : (r : Region) (x z x' : ℤ) → z ≡ r.y0 → x' ≡ x +ℤ pos 1 → r.x0 ≤ℤ x → x' ≤ℤ r.x1 → Lies (north_steps r) x z
unfolding north_steps
in_north r x z x' e h low high = record { west = low; east = omega (arith, ints, h, high); north = omega (arith, ints, e); south = omega (arith, ints, e) }

in_south : (r : Region) (x z x' : ℤ) → z ≡ r.y1 → x' ≡ x +ℤ pos 1 → r.x0 ≤ℤ x → x' ≤ℤ r.x1 → Lies (south_steps r) x' z
unfolding south_steps
in_south r x z x' e h low high = record { west = omega (arith, ints, h, low); east = high; north = omega (arith, ints, e); south = omega (arith, ints, e) }

module _ (once : SquaresOnce) (finer active : Region) (shape : IsRingShape active (hole finer)) (x z x' z' : ℤ) where
  south_last : IsStep (pos 0) (pos 1) x z x' z' → Closes (last_of finer active (At x z) (At x' z')) (last_of finer active (At x' z') (At x z)) (on_side active (At x z) (At x' z'))
  south_last h =
      closes_last active x z x' z' (ring_edges finer active (At x z) (At x' z')) (border_edges (hole finer) (At x' z') (At x z)) (ring_edges finer active (At x' z') (At x z)) (border_edges (hole finer) (At x z) (At x' z'))
      (border_edges active (At x z) (At x' z')) (border_edges active (At x' z') (At x z)) (contains (east_steps active) x z) (contains (west_steps active) x' z') (on_side active (At x z) (At x' z'))
      (south_balanced once finer active shape x z x' z' h) (south_border active x z x' z' h ∙ cell_is (east_steps active) x z)
      (north_border active x' z' x z (south_back once finer active shape x z x' z' h) ∙ cell_is (west_steps active) x' z') east west off
    where
      sides : Lies active x z → HasSides active
      sides l = let n = l.north in let s = l.south in shape.rows (omega (arith, ints, n, s))

      east : contains (east_steps active) x z ≡ true → Lies active x z → Lies active x' z' → (on_side active (At x z) (At x' z') ≡ true) × (contains (west_steps active) x' z' ≡ false)
      east t l l' =
          let c = h.column in
          let e = east_at active x z (lies (east_steps active) x z t) in
          let wide = (sides l).across in (
            on_columns active x z x' z' l l' (or_right (both_at x x' active.x0) (both_at x x' active.x1) (both_there x x' active.x1 e (omega (arith, ints, c, e)))),
            not_in (west_steps active) x' z' (λ w. let e' = west_at active x' z' w in omega (arith, ints, c, e, e', wide)),
          )

      west : contains (west_steps active) x' z' ≡ true → Lies active x z → Lies active x' z' → (on_side active (At x z) (At x' z') ≡ true) × (contains (east_steps active) x z ≡ false)
      west t l l' =
          let c = h.column in
          let e = west_at active x' z' (lies (west_steps active) x' z' t) in
          let wide = (sides l).across in (
            on_columns active x z x' z' l l' (or_left (both_at x x' active.x0) (both_at x x' active.x1) (both_there x x' active.x0 (omega (arith, ints, c, e)) e)),
            not_in (east_steps active) x z (λ w. let e' = east_at active x z w in omega (arith, ints, c, e, e', wide)),
          )

      off : contains (east_steps active) x z ≡ false → contains (west_steps active) x' z' ≡ false → Lies active x z → Lies active x' z' → on_side active (At x z) (At x' z') ≡ false
      off ne nw l l' =
          let c = h.column in
          let r = h.row in
          off_side active x z x' z'
          (λ e e'. false≢true (sym nw ∙ lying (west_steps active) x' z' (in_west active x' z z' e' r l.north l'.south)))
          (λ e e'. false≢true (sym ne ∙ lying (east_steps active) x z (in_east active x z z' e r l.north l'.south)))
          (λ e e'. omega (arith, ints, r, e, e'))
          (λ e e'. omega (arith, ints, r, e, e'))

  east_last : IsStep (pos 1) (pos 0) x z x' z' → Closes (last_of finer active (At x z) (At x' z')) (last_of finer active (At x' z') (At x z)) (on_side active (At x z) (At x' z'))
  east_last h =
      closes_last active x z x' z' (ring_edges finer active (At x z) (At x' z')) (border_edges (hole finer) (At x' z') (At x z)) (ring_edges finer active (At x' z') (At x z)) (border_edges (hole finer) (At x z) (At x' z'))
      (border_edges active (At x z) (At x' z')) (border_edges active (At x' z') (At x z)) (contains (north_steps active) x z) (contains (south_steps active) x' z') (on_side active (At x z) (At x' z'))
      (east_balanced once finer active shape x z x' z' h) (east_border active x z x' z' h ∙ cell_is (north_steps active) x z)
      (west_border active x' z' x z (east_back once finer active shape x z x' z' h) ∙ cell_is (south_steps active) x' z') north south off
    where
      sides : Lies active x z → HasSides active
      sides l = let n = l.west in let s = l.east in shape.columns (omega (arith, ints, n, s))

      north : contains (north_steps active) x z ≡ true → Lies active x z → Lies active x' z' → (on_side active (At x z) (At x' z') ≡ true) × (contains (south_steps active) x' z' ≡ false)
      north t l l' =
          let r = h.row in
          let e = north_at active x z (lies (north_steps active) x z t) in
          let wide = (sides l).along in (
            on_rows active x z x' z' l l' (or_left (both_at z z' active.y0) (both_at z z' active.y1) (both_there z z' active.y0 e (omega (arith, ints, r, e)))),
            not_in (south_steps active) x' z' (λ w. let e' = south_at active x' z' w in omega (arith, ints, r, e, e', wide)),
          )

      south : contains (south_steps active) x' z' ≡ true → Lies active x z → Lies active x' z' → (on_side active (At x z) (At x' z') ≡ true) × (contains (north_steps active) x z ≡ false)
      south t l l' =
          let r = h.row in
          let e = south_at active x' z' (lies (south_steps active) x' z' t) in
          let wide = (sides l).along in (
            on_rows active x z x' z' l l' (or_right (both_at z z' active.y0) (both_at z z' active.y1) (both_there z z' active.y1 (omega (arith, ints, r, e)) e)),
            not_in (north_steps active) x z (λ w. let e' = north_at active x z w in omega (arith, ints, r, e, e', wide)),
          )

      off : contains (north_steps active) x z ≡ false → contains (south_steps active) x' z' ≡ false → Lies active x z → Lies active x' z' → on_side active (At x z) (At x' z') ≡ false
      off nn ns l l' =
          let c = h.column in
          let r = h.row in
          off_side active x z x' z'
          (λ e e'. omega (arith, ints, c, e, e'))
          (λ e e'. omega (arith, ints, c, e, e'))
          (λ e e'. false≢true (sym nn ∙ lying (north_steps active) x z (in_north active x z x' e c l.west l'.east)))
          (λ e e'. false≢true (sym ns ∙ lying (south_steps active) x' z' (in_south active x z' x' e' c l.west l'.east)))

  across_off : (r : Region) → IsStep (pos 1) (pos 1) x z x' z' → on_side r (At x z) (At x' z') ≡ false
  across_off r h =
      let c = h.column in
      let w = h.row in
      off_side r x z x' z' (λ e e'. omega (arith, ints, c, e, e')) (λ e e'. omega (arith, ints, c, e, e')) (λ e e'. omega (arith, ints, w, e, e')) (λ e e'. omega (arith, ints, w, e, e'))

  across_last : IsStep (pos 1) (pos 1) x z x' z' → Closes (last_of finer active (At x z) (At x' z')) (last_of finer active (At x' z') (At x z)) (on_side active (At x z) (At x' z'))
  across_last h =
      closes_last active x z x' z' (ring_edges finer active (At x z) (At x' z')) (border_edges (hole finer) (At x' z') (At x z)) (ring_edges finer active (At x' z') (At x z)) (border_edges (hole finer) (At x z) (At x' z'))
      (border_edges active (At x z) (At x' z')) (border_edges active (At x' z') (At x z)) false false (on_side active (At x z) (At x' z'))
      (across_balanced once finer active shape x z x' z' h) (across_border active x z x' z' h)
      (back_border active x' z' x z (across_back once finer active shape x z x' z' h))
      (λ t. absurd (false≢true t)) (λ t. absurd (false≢true t)) (λ _ _ _ _. across_off active h)

-- ---- any two spots of a level
swapped : (x y : Bool) → (x && y) ≡ (y && x)
swapped true true = refl
swapped true false = refl
swapped false true = refl
swapped false false = refl

pub side_swapped : (r : Region) (x z x' z' : ℤ) → on_side r (At x z) (At x' z') ≡ on_side r (At x' z') (At x z)
side_swapped r x z x' z' =
    λ t. swapped (contains r x z) (contains r x' z') t
    && ((swapped (int_eq x r.x0) (int_eq x' r.x0) t || swapped (int_eq x r.x1) (int_eq x' r.x1) t) || (swapped (int_eq z r.y0) (int_eq z' r.y0) t || swapped (int_eq z r.y1) (int_eq z' r.y1) t))

pub closes_swapped : (there back : ℕ) (border : Bool) → Closes there back border → Closes back there border
closes_swapped there back border (None e e') = None e' e
closes_swapped there back border (Open side e) = Open side (omega (arith, e))
closes_swapped there back border (Shut off e e') = Shut off e' e

balanced_swapped : (r : Region) (x z x' z' : ℤ) (there back : ℕ) → Balanced r x z x' z' there back → Balanced r x' z' x z back there
balanced_swapped r x z x' z' there back (Unused e e') = Unused e' e
balanced_swapped r x z x' z' there back (Shared e e' l l') = Shared e' e l' l

-- a step of one, which no coarser level has, or a longer one, which this level hasn't
pub data OfLevel (finer active : Region) (x z x' z' : ℤ) : Type 0 where
  Short : (coarser_spot (At x z) ≡ Nowhere) ⊎ (coarser_spot (At x' z') ≡ Nowhere) →
      Balanced active x z x' z' (there_of finer active (At x z) (At x' z')) (there_of finer active (At x' z') (At x z)) →
      Closes (last_of finer active (At x z) (At x' z')) (last_of finer active (At x' z') (At x z)) (on_side active (At x z) (At x' z')) → OfLevel finer active x z x' z'
  Long : ring_edges finer active (At x z) (At x' z') ≡ 0 → ring_edges finer active (At x' z') (At x z) ≡ 0 →
      ((r : Region) → border_edges r (At x z) (At x' z') ≡ 0) → ((r : Region) → border_edges r (At x' z') (At x z) ≡ 0) → OfLevel finer active x z x' z'

other_way : {A B : Type 0} → A ⊎ B → B ⊎ A
other_way (inl a) = inr a
other_way (inr b) = inl b

level_swapped : (finer active : Region) (x z x' z' : ℤ) → OfLevel finer active x z x' z' → OfLevel finer active x' z' x z
level_swapped finer active x z x' z' (Short odd balanced last) =
    Short (other_way odd) (balanced_swapped active x z x' z' (there_of finer active (At x z) (At x' z')) (there_of finer active (At x' z') (At x z)) balanced)
    (subst (λ (b : Bool). Closes (last_of finer active (At x' z') (At x z)) (last_of finer active (At x z) (At x' z')) b) (side_swapped active x z x' z')
    (closes_swapped (last_of finer active (At x z) (At x' z')) (last_of finer active (At x' z') (At x z)) (on_side active (At x z) (At x' z')) last))
level_swapped finer active x z x' z' (Long e e' none none') = Long e' e none' none

module _ (once : SquaresOnce) (finer active : Region) (shape : IsRingShape active (hole finer)) where
  south_level : (x z x' z' : ℤ) → IsStep (pos 0) (pos 1) x z x' z' → OfLevel finer active x z x' z'
  south_level x z x' z' h = Short (one_nowhere x z x' z' (inr h.row)) (south_balanced once finer active shape x z x' z' h) (south_last once finer active shape x z x' z' h)

  east_level : (x z x' z' : ℤ) → IsStep (pos 1) (pos 0) x z x' z' → OfLevel finer active x z x' z'
  east_level x z x' z' h = Short (one_nowhere x z x' z' (inl h.column)) (east_balanced once finer active shape x z x' z' h) (east_last once finer active shape x z x' z' h)

  across_level : (x z x' z' : ℤ) → IsStep (pos 1) (pos 1) x z x' z' → OfLevel finer active x z x' z'
  across_level x z x' z' h = Short (one_nowhere x z x' z' (inl h.column)) (across_balanced once finer active shape x z x' z' h) (across_last once finer active shape x z x' z' h)

  pub level_of : (x z x' z' : ℤ) → OfLevel finer active x z x' z'
  level_of x z x' z' = by_kind (kind_of (x' -ℤ x) (z' -ℤ z))
    where
      by_kind : Kind (x' -ℤ x) (z' -ℤ z) → OfLevel finer active x z x' z'
      by_kind (South c r) = south_level x z x' z' (record { column = omega (arith, ints, c); row = omega (arith, ints, r) })
      by_kind (East c r) = east_level x z x' z' (record { column = omega (arith, ints, c); row = omega (arith, ints, r) })
      by_kind (Across c r) = across_level x z x' z' (record { column = omega (arith, ints, c); row = omega (arith, ints, r) })
      by_kind (North c r) = level_swapped finer active x' z' x z (south_level x' z' x z (record { column = omega (arith, ints, c); row = omega (arith, ints, r) }))
      by_kind (West c r) = level_swapped finer active x' z' x z (east_level x' z' x z (record { column = omega (arith, ints, c); row = omega (arith, ints, r) }))
      by_kind (Back c r) = level_swapped finer active x' z' x z (across_level x' z' x z (record { column = omega (arith, ints, c); row = omega (arith, ints, r) }))
      by_kind (Far far) =
          let dx = x' -ℤ x in
          let dz = z' -ℤ z in
          let ex = x -ℤ x' in
          let ez = z -ℤ z' in
          let there : IsStep dx dz x z x' z' = record { column = omega (arith, ints); row = omega (arith, ints) } in
          let back : IsStep ex ez x' z' x z = record { column = omega (arith, ints); row = omega (arith, ints) } in
          let far' = far_back dx ex dz ez (omega (arith, ints)) (omega (arith, ints)) far in
          Long (far_ring finer active dx dz x z x' z' there far) (far_ring finer active ex ez x' z' x z back far')
          (λ r. far_border r dx dz x z x' z' there far) (λ r. far_border r ex ez x' z' x z back far')
