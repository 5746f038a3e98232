-- What each kind of edge counts on one level: a side of squares to the south or the east, or a diagonal across a square.
use Rattle.std.proofs.Common.{◌≡◌, ℕ, zero, suc, ◌+◌, ◌*◌, ◌≤◌, Bool, true, false, ◌&&◌, ◌||◌, ℤ, pos, negsuc, ◌+ℤ◌, ◌-ℤ◌, ◌≤ℤ◌, refl, ap, sym, ◌∙◌, inl, inr, ◌⊎◌, arith}
use Rattle.std.specs.Ordering.{int_eq}
use Rattle.std.proofs.lemmas.Int.{ints}
use Rattle.std.proofs.lemmas.Bool.{and_parts, and_from, and_right, or_left, or_right, or_cases, false≢true, false_from_ne_true}
use lib.Signed.{le_z}
use Rattle.clip_regions.specs.declared.region.Region.{Region}
use Rattle.clip_regions.specs.Regions.{contains}
use Rattle.mesh_model.specs.Vertices.{hole}
use Rattle.mesh_laws.specs.Laws.{SquaresOnce}
use Rattle.watertight_laws.specs.Edges.{Spot, Nowhere, At, squares_at, ring_edges, border_edges}
use Rattle.watertight_laws.proofs.Sums.{one_if}
use Rattle.watertight_laws.proofs.Picks.{same_from, same_int}
use Rattle.watertight_laws.proofs.Lines.{in_span, is_end, span_end_most, balance}
use Rattle.watertight_laws.proofs.Ways.{IsStep, south_ring, east_ring, across_ring, north_ring, west_ring, back_ring, south_border, east_border, across_border, north_border, west_border, back_border}
use Rattle.watertight_laws.proofs.Rings.{HasSides, IsRingShape, Balanced, Unused, Shared, spans, squares_line, east_is, west_is, north_is, south_is, south_line, east_line}
use Rattle.clip_regions.proofs.Cells.{Lies, lying, tested_le}

-- ---- the sides of a region
abbrev pub both_at : ℤ → ℤ → ℤ → Bool
both_at a b side = int_eq a side && int_eq b side

-- both spots lie on one and the same side of the region
abbrev pub on_side : Region → Spot → Spot → Bool
on_side r Nowhere q = false
on_side r (At x z) Nowhere = false
on_side r (At x z) (At x' z') =
    (contains r x z && contains r x' z') && ((both_at x x' r.x0 || both_at x x' r.x1) || (both_at z z' r.y0 || both_at z z' r.y1))

not_both : (a b side : ℤ) → (a ≡ side → b ≡ side → ⊥) → both_at a b side ≡ false
not_both a b side h = false_from_ne_true (both_at a b side) (λ t. let parts : (int_eq a side ≡ true) × (int_eq b side ≡ true) = and_parts (int_eq a side) (int_eq b side) t in h (same_from a side parts.0) (same_from b side parts.1))

pub off_side : (r : Region) (x z x' z' : ℤ) → (x ≡ r.x0 → x' ≡ r.x0 → ⊥) → (x ≡ r.x1 → x' ≡ r.x1 → ⊥) → (z ≡ r.y0 → z' ≡ r.y0 → ⊥) → (z ≡ r.y1 → z' ≡ r.y1 → ⊥) →
    on_side r (At x z) (At x' z') ≡ false
off_side r x z x' z' w e n s =
    let cells = contains r x z && contains r x' z' in
    (λ t. cells && ((not_both x x' r.x0 w t || not_both x x' r.x1 e t) || (not_both z z' r.y0 n t || not_both z z' r.y1 s t))) ∙ and_right cells false refl

pub both_there : (a b side : ℤ) → a ≡ side → b ≡ side → both_at a b side ≡ true
both_there a b side h h' = and_from (int_eq a side) (int_eq b side) (same_int a side h) (same_int b side h')

pub on_columns : (r : Region) (x z x' z' : ℤ) → Lies r x z → Lies r x' z' → (both_at x x' r.x0 || both_at x x' r.x1) ≡ true → on_side r (At x z) (At x' z') ≡ true
on_columns r x z x' z' l l' t =
    and_from (contains r x z && contains r x' z') ((both_at x x' r.x0 || both_at x x' r.x1) || (both_at z z' r.y0 || both_at z z' r.y1))
    (and_from (contains r x z) (contains r x' z') (lying r x z l) (lying r x' z' l'))
    (or_left (both_at x x' r.x0 || both_at x x' r.x1) (both_at z z' r.y0 || both_at z z' r.y1) t)

pub on_rows : (r : Region) (x z x' z' : ℤ) → Lies r x z → Lies r x' z' → (both_at z z' r.y0 || both_at z z' r.y1) ≡ true → on_side r (At x z) (At x' z') ≡ true
on_rows r x z x' z' l l' t =
    and_from (contains r x z && contains r x' z') ((both_at x x' r.x0 || both_at x x' r.x1) || (both_at z z' r.y0 || both_at z z' r.y1))
    (and_from (contains r x z) (contains r x' z') (lying r x z l) (lying r x' z' l'))
    (or_right (both_at x x' r.x0 || both_at x x' r.x1) (both_at z z' r.y0 || both_at z z' r.y1) t)

-- ---- how an edge is closed
-- not there, or on the border and once, or elsewhere and once each way
pub data Closes (there back : ℕ) (border : Bool) : Type 0 where
  None : there ≡ 0 → back ≡ 0 → Closes there back border
  Open : border ≡ true → there + back ≡ 1 → Closes there back border
  Shut : border ≡ false → there ≡ 1 → back ≡ 1 → Closes there back border

-- ---- from numbers
one_of : (r : Region) (x z x' z' : ℤ) (there back : ℕ) → there ≡ back → there ≤ 1 → Lies r x z × Lies r x' z' → Balanced r x z x' z' there back
one_of r x z x' z' zero back e low l = Unused refl (sym e)
one_of r x z x' z' (suc zero) back e low l = Shared refl (sym e) l.0 l.1
one_of r x z x' z' (suc (suc n)) back e low l = absurd (omega (arith, low))

balanced_from : (r : Region) (x z x' z' : ℤ) (zb sa sb : Bool) (there back : ℕ) → there ≡ back → there ≤ (one_if sa + one_if sb) * one_if zb → one_if sa + one_if sb ≤ 1 →
    (zb ≡ true → (sa || sb) ≡ true → Lies r x z × Lies r x' z') → Balanced r x z x' z' there back
balanced_from r x z x' z' false sa sb there back e h most l = none (one_if sa + one_if sb) h
  where
    none : (n : ℕ) → there ≤ n * 0 → Balanced r x z x' z' there back
    none n h' = Unused (omega (arith, h')) (omega (arith, h', e))
balanced_from r x z x' z' true false false there back e h most l = none h
  where
    none : there ≤ 0 → Balanced r x z x' z' there back
    none h' = Unused (omega (arith, h')) (omega (arith, h', e))
balanced_from r x z x' z' true true sb there back e h most l = some (1 + one_if sb) h most
  where
    some : (n : ℕ) → there ≤ n * 1 → n ≤ 1 → Balanced r x z x' z' there back
    some n h' most' = one_of r x z x' z' there back e (omega (arith, h', most')) (l refl refl)
balanced_from r x z x' z' true false true there back e h most l = some h
  where
    some : there ≤ 1 → Balanced r x z x' z' there back
    some h' = one_of r x z x' z' there back e h' (l refl refl)

-- what is left without the steps along the border, where no coarser level has stitches
pub closes_last : (r : Region) (x z x' z' : ℤ) (s h s' h' m n : ℕ) (M N border : Bool) → Balanced r x z x' z' ((s + m) + h) ((s' + n) + h') → m ≡ one_if M → n ≡ one_if N →
    (M ≡ true → Lies r x z → Lies r x' z' → (border ≡ true) × (N ≡ false)) → (N ≡ true → Lies r x z → Lies r x' z' → (border ≡ true) × (M ≡ false)) → (M ≡ false → N ≡ false → Lies r x z → Lies r x' z' → border ≡ false) →
    Closes (s + h) (s' + h') border
closes_last r x z x' z' s h s' h' m n M N border (Unused e e') em en one other off = None (omega (arith, e)) (omega (arith, e'))
closes_last r x z x' z' s h s' h' m n true N border (Shared e e' l l') em en one other off =
    let facts = one refl l l' in
    let m1 : m ≡ 1 = em in
    let n0 : n ≡ 0 = en ∙ ap one_if facts.1 in
    Open facts.0 (omega (arith, e, e', m1, n0))
closes_last r x z x' z' s h s' h' m n false true border (Shared e e' l l') em en one other off =
    let facts = other refl l l' in
    let m0 : m ≡ 0 = em in
    let n1 : n ≡ 1 = en in
    Open facts.0 (omega (arith, e, e', m0, n1))
closes_last r x z x' z' s h s' h' m n false false border (Shared e e' l l') em en one other off =
    let m0 : m ≡ 0 = em in
    let n0 : n ≡ 0 = en in
    Shut (off refl refl l l') (omega (arith, e, m0)) (omega (arith, e', n0))

pub ended : (a c : ℤ) → is_end a c ≡ true → c ≡ a
ended a c e =
    let parts : (le_z a c ≡ true) × (le_z c a ≡ true) = and_parts (le_z a c) (le_z c a) e in
    let low : a ≤ℤ c = tested_le a c parts.0 in
    let high : c ≤ℤ a = tested_le c a parts.1 in
    omega (arith, ints, low, high)

-- ---- one level
-- the steps one way and the other on a level: squares, the walk round the region, and the long edges round the hole
abbrev pub there_of : Region → Region → Spot → Spot → ℕ
there_of finer active p q = (ring_edges finer active p q + border_edges active p q) + border_edges (hole finer) q p

abbrev pub last_of : Region → Region → Spot → Spot → ℕ
last_of finer active p q = ring_edges finer active p q + border_edges (hole finer) q p

module _ (once : SquaresOnce) (finer active : Region) (shape : IsRingShape active (hole finer)) (x z x' z' : ℤ) where
  pub south_back : IsStep (pos 0) (pos 1) x z x' z' → IsStep (pos 0) (negsuc 0) x' z' x z
  south_back h = let c = h.column in let r = h.row in record { column = omega (arith, ints, c); row = omega (arith, ints, r) }

  pub east_back : IsStep (pos 1) (pos 0) x z x' z' → IsStep (negsuc 0) (pos 0) x' z' x z
  east_back h = let c = h.column in let r = h.row in record { column = omega (arith, ints, c); row = omega (arith, ints, r) }

  pub across_back : IsStep (pos 1) (pos 1) x z x' z' → IsStep (negsuc 0) (negsuc 0) x' z' x z
  across_back h = let c = h.column in let r = h.row in record { column = omega (arith, ints, c); row = omega (arith, ints, r) }

  pub south_balanced : IsStep (pos 0) (pos 1) x z x' z' → Balanced active x z x' z' (there_of finer active (At x z) (At x' z')) (there_of finer active (At x' z') (At x z))
  south_balanced h =
      let c = h.column in
      let r = h.row in
      let back = south_back h in
      let hx : x' ≡ x = omega (arith, ints, c) in
      let hz : z' ≡ z +ℤ pos 1 = r in
      let ex : x' -ℤ pos 1 ≡ x -ℤ pos 1 = omega (arith, ints, c) in
      let ez : z' -ℤ pos 1 ≡ z = omega (arith, ints, r) in
      let line = balance (in_span active.y0 active.y1 z) (in_span (hole finer).y0 (hole finer).y1 z) (squares_at finer active x z) (squares_at finer active (x -ℤ pos 1) z)
      (one_if (in_span active.x0 active.x1 x)) (one_if (in_span active.x0 active.x1 (x -ℤ pos 1))) (one_if (is_end active.x0 x)) (one_if (is_end active.x1 x))
      (one_if (in_span (hole finer).x0 (hole finer).x1 x)) (one_if (in_span (hole finer).x0 (hole finer).x1 (x -ℤ pos 1))) (one_if (is_end (hole finer).x0 x)) (one_if (is_end (hole finer).x1 x))
      (south_line once finer active x z shape) in
      let s : ring_edges finer active (At x z) (At x' z') ≡ squares_at finer active x z = south_ring finer active x z x' z' h in
      let s' : ring_edges finer active (At x' z') (At x z) ≡ squares_at finer active (x -ℤ pos 1) z = north_ring finer active x' z' x z back ∙ (λ t. squares_at finer active (ex t) (ez t)) in
      let m : border_edges active (At x z) (At x' z') ≡ one_if (is_end active.x1 x) * one_if (in_span active.y0 active.y1 z) = south_border active x z x' z' h ∙ east_is active x z in
      let n : border_edges active (At x' z') (At x z) ≡ one_if (is_end active.x0 x) * one_if (in_span active.y0 active.y1 z) = north_border active x' z' x z back ∙ west_is active x z x' z' hx hz in
      let g : border_edges (hole finer) (At x' z') (At x z) ≡ one_if (is_end (hole finer).x0 x) * one_if (in_span (hole finer).y0 (hole finer).y1 z) = north_border (hole finer) x' z' x z back ∙ west_is (hole finer) x z x' z' hx hz in
      let g' : border_edges (hole finer) (At x z) (At x' z') ≡ one_if (is_end (hole finer).x1 x) * one_if (in_span (hole finer).y0 (hole finer).y1 z) = south_border (hole finer) x z x' z' h ∙ east_is (hole finer) x z in
      let there : there_of finer active (At x z) (At x' z') ≡ squares_at finer active x z + one_if (is_end active.x1 x) * one_if (in_span active.y0 active.y1 z) + one_if (is_end (hole finer).x0 x) * one_if (in_span (hole finer).y0 (hole finer).y1 z) = λ t. s t + m t + g t in
      let back' : there_of finer active (At x' z') (At x z) ≡ squares_at finer active (x -ℤ pos 1) z + one_if (is_end active.x0 x) * one_if (in_span active.y0 active.y1 z) + one_if (is_end (hole finer).x1 x) * one_if (in_span (hole finer).y0 (hole finer).y1 z) = λ t. s' t + n t + g' t in
      let same : there_of finer active (At x z) (At x' z') ≡ there_of finer active (At x' z') (At x z) = there ∙ line.0 ∙ sym back' in
      let few : there_of finer active (At x z) (At x' z') ≤ (one_if (in_span active.x0 active.x1 x) + one_if (is_end active.x1 x)) * one_if (in_span active.y0 active.y1 z) = let bound = line.1 in omega (arith, there, bound) in
      balanced_from active x z x' z' (in_span active.y0 active.y1 z) (in_span active.x0 active.x1 x) (is_end active.x1 x) (there_of finer active (At x z) (At x' z')) (there_of finer active (At x' z') (At x z)) same few
      (span_end_most active.x0 active.x1 x) ends
    where
      ends : in_span active.y0 active.y1 z ≡ true → (in_span active.x0 active.x1 x || is_end active.x1 x) ≡ true → Lies active x z × Lies active x' z'
      ends along across = columns_of (or_cases (in_span active.x0 active.x1 x) (is_end active.x1 x) across)
        where
          rows : (active.y0 ≤ℤ z) × ((z +ℤ pos 1) ≤ℤ active.y1)
          rows = spans active.y0 active.y1 z along

          sides : HasSides active
          sides = let low = rows.0 in let high = rows.1 in shape.rows (omega (arith, ints, low, high))

          lying_on : active.x0 ≤ℤ x → x ≤ℤ active.x1 → Lies active x z × Lies active x' z'
          lying_on west east =
              let c = h.column in
              let r = h.row in
              let low = rows.0 in
              let high = rows.1 in (
                record { west = west; east = east; north = low; south = omega (arith, ints, high) },
                record { west = omega (arith, ints, c, west); east = omega (arith, ints, c, east); north = omega (arith, ints, r, low); south = omega (arith, ints, r, high) },
              )

          columns_of : (in_span active.x0 active.x1 x ≡ true) ⊎ (is_end active.x1 x ≡ true) → Lies active x z × Lies active x' z'
          columns_of (inl e) = let s = spans active.x0 active.x1 x e in let low = s.0 in let high = s.1 in lying_on low (omega (arith, ints, high))
          columns_of (inr e) = let at = ended active.x1 x e in let wide = sides.across in lying_on (omega (arith, ints, at, wide)) (omega (arith, ints, at))

  pub east_balanced : IsStep (pos 1) (pos 0) x z x' z' → Balanced active x z x' z' (there_of finer active (At x z) (At x' z')) (there_of finer active (At x' z') (At x z))
  east_balanced h =
      let c = h.column in
      let r = h.row in
      let back = east_back h in
      let hx : x' ≡ x +ℤ pos 1 = c in
      let hz : z' ≡ z = omega (arith, ints, r) in
      let ex : x' -ℤ pos 1 ≡ x = omega (arith, ints, c) in
      let line = balance (in_span active.x0 active.x1 x) (in_span (hole finer).x0 (hole finer).x1 x) (squares_at finer active x z) (squares_at finer active x (z -ℤ pos 1))
      (one_if (in_span active.y0 active.y1 z)) (one_if (in_span active.y0 active.y1 (z -ℤ pos 1))) (one_if (is_end active.y0 z)) (one_if (is_end active.y1 z))
      (one_if (in_span (hole finer).y0 (hole finer).y1 z)) (one_if (in_span (hole finer).y0 (hole finer).y1 (z -ℤ pos 1))) (one_if (is_end (hole finer).y0 z)) (one_if (is_end (hole finer).y1 z))
      (east_line once finer active x z shape) in
      let s : ring_edges finer active (At x z) (At x' z') ≡ squares_at finer active x (z -ℤ pos 1) = east_ring finer active x z x' z' h in
      let s' : ring_edges finer active (At x' z') (At x z) ≡ squares_at finer active x z = west_ring finer active x' z' x z back ∙ (λ t. squares_at finer active (ex t) (hz t)) in
      let m : border_edges active (At x z) (At x' z') ≡ one_if (is_end active.y0 z) * one_if (in_span active.x0 active.x1 x) = east_border active x z x' z' h ∙ north_is active x z in
      let n : border_edges active (At x' z') (At x z) ≡ one_if (is_end active.y1 z) * one_if (in_span active.x0 active.x1 x) = west_border active x' z' x z back ∙ south_is active x z x' z' hx hz in
      let g : border_edges (hole finer) (At x' z') (At x z) ≡ one_if (is_end (hole finer).y1 z) * one_if (in_span (hole finer).x0 (hole finer).x1 x) = west_border (hole finer) x' z' x z back ∙ south_is (hole finer) x z x' z' hx hz in
      let g' : border_edges (hole finer) (At x z) (At x' z') ≡ one_if (is_end (hole finer).y0 z) * one_if (in_span (hole finer).x0 (hole finer).x1 x) = east_border (hole finer) x z x' z' h ∙ north_is (hole finer) x z in
      let there : there_of finer active (At x z) (At x' z') ≡ squares_at finer active x (z -ℤ pos 1) + one_if (is_end active.y0 z) * one_if (in_span active.x0 active.x1 x) + one_if (is_end (hole finer).y1 z) * one_if (in_span (hole finer).x0 (hole finer).x1 x) = λ t. s t + m t + g t in
      let back' : there_of finer active (At x' z') (At x z) ≡ squares_at finer active x z + one_if (is_end active.y1 z) * one_if (in_span active.x0 active.x1 x) + one_if (is_end (hole finer).y0 z) * one_if (in_span (hole finer).x0 (hole finer).x1 x) = λ t. s' t + n t + g' t in
      let same : there_of finer active (At x z) (At x' z') ≡ there_of finer active (At x' z') (At x z) = there ∙ sym line.0 ∙ sym back' in
      let few : there_of finer active (At x z) (At x' z') ≤ (one_if (in_span active.y0 active.y1 z) + one_if (is_end active.y1 z)) * one_if (in_span active.x0 active.x1 x) = let bound = line.1 in let equal = line.0 in omega (arith, there, equal, bound) in
      balanced_from active x z x' z' (in_span active.x0 active.x1 x) (in_span active.y0 active.y1 z) (is_end active.y1 z) (there_of finer active (At x z) (At x' z')) (there_of finer active (At x' z') (At x z)) same few
      (span_end_most active.y0 active.y1 z) ends
    where
      ends : in_span active.x0 active.x1 x ≡ true → (in_span active.y0 active.y1 z || is_end active.y1 z) ≡ true → Lies active x z × Lies active x' z'
      ends across along = rows_of (or_cases (in_span active.y0 active.y1 z) (is_end active.y1 z) along)
        where
          columns : (active.x0 ≤ℤ x) × ((x +ℤ pos 1) ≤ℤ active.x1)
          columns = spans active.x0 active.x1 x across

          sides : HasSides active
          sides = let low = columns.0 in let high = columns.1 in shape.columns (omega (arith, ints, low, high))

          lying_on : active.y0 ≤ℤ z → z ≤ℤ active.y1 → Lies active x z × Lies active x' z'
          lying_on north south =
              let c = h.column in
              let r = h.row in
              let low = columns.0 in
              let high = columns.1 in (
                record { west = low; east = omega (arith, ints, high); north = north; south = south },
                record { west = omega (arith, ints, c, low); east = omega (arith, ints, c, high); north = omega (arith, ints, r, north); south = omega (arith, ints, r, south) },
              )

          rows_of : (in_span active.y0 active.y1 z ≡ true) ⊎ (is_end active.y1 z ≡ true) → Lies active x z × Lies active x' z'
          rows_of (inl e) = let s = spans active.y0 active.y1 z e in let low = s.0 in let high = s.1 in lying_on low (omega (arith, ints, high))
          rows_of (inr e) = let at = ended active.y1 z e in let wide = sides.along in lying_on (omega (arith, ints, at, wide)) (omega (arith, ints, at))

  pub across_balanced : IsStep (pos 1) (pos 1) x z x' z' → Balanced active x z x' z' (there_of finer active (At x z) (At x' z')) (there_of finer active (At x' z') (At x z))
  across_balanced h =
      let c = h.column in
      let r = h.row in
      let back = across_back h in
      let ex : x' -ℤ pos 1 ≡ x = omega (arith, ints, c) in
      let ez : z' -ℤ pos 1 ≡ z = omega (arith, ints, r) in
      let s : ring_edges finer active (At x z) (At x' z') ≡ squares_at finer active x z = across_ring finer active x z x' z' h in
      let s' : ring_edges finer active (At x' z') (At x z) ≡ squares_at finer active x z = back_ring finer active x' z' x z back ∙ (λ t. squares_at finer active (ex t) (ez t)) in
      let m = across_border active x z x' z' h in
      let n = back_border active x' z' x z back in
      let g = back_border (hole finer) x' z' x z back in
      let g' = across_border (hole finer) x z x' z' h in
      let same : there_of finer active (At x z) (At x' z') ≡ there_of finer active (At x' z') (At x z) = omega (arith, s, s', m, n, g, g') in
      let all = squares_line once finer active x z shape.gap in
      let few : there_of finer active (At x z) (At x' z') ≤ (one_if (in_span active.x0 active.x1 x) + one_if false) * one_if (in_span active.y0 active.y1 z) = bound (squares_at finer active x z) (one_if (in_span (hole finer).x0 (hole finer).x1 x) * one_if (in_span (hole finer).y0 (hole finer).y1 z)) (one_if (in_span active.x0 active.x1 x)) (one_if (in_span active.y0 active.y1 z)) (there_of finer active (At x z) (At x' z')) all (omega (arith, s, m, g)) in
      balanced_from active x z x' z' (in_span active.y0 active.y1 z) (in_span active.x0 active.x1 x) false (there_of finer active (At x z) (At x' z')) (there_of finer active (At x' z') (At x z)) same few
      (at_most (in_span active.x0 active.x1 x)) (λ along across. ends along (or_cases (in_span active.x0 active.x1 x) false across))
    where
      bound : (s o a b there : ℕ) → s + o ≡ a * b → there ≡ s → there ≤ (a + 0) * b
      bound s o a b there e same = omega (arith, e, same)

      at_most : (b : Bool) → one_if b + 0 ≤ 1
      at_most true = omega arith
      at_most false = omega arith

      ends : in_span active.y0 active.y1 z ≡ true → (in_span active.x0 active.x1 x ≡ true) ⊎ (false ≡ true) → Lies active x z × Lies active x' z'
      ends along (inr e) = absurd (false≢true e)
      ends along (inl e) =
          let rows = spans active.y0 active.y1 z along in
          let columns = spans active.x0 active.x1 x e in
          let c = h.column in
          let r = h.row in
          let w = columns.0 in
          let o = columns.1 in
          let n = rows.0 in
          let u = rows.1 in (
            record { west = w; east = omega (arith, ints, o); north = n; south = omega (arith, ints, u) },
            record { west = omega (arith, ints, c, w); east = omega (arith, ints, c, o); north = omega (arith, ints, r, n); south = omega (arith, ints, r, u) },
          )
