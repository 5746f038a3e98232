-- The places along a side as the images of a range of steps.
use Rattle.std.proofs.Common.{◌≡◌, ℕ, nat_abs, ◌+◌, ◌*◌, ◌/◌, ◌^◌, ◌≤◌, true, false, ℤ, pos, negsuc, neg_ℤ, ◌+ℤ◌, ◌-ℤ◌, ◌≤ℤ◌, map, reverse, refl, ap, sym, ◌∙◌, ◌⊎◌, inl, inr, w32, arith}
use Rattle.std.specs.List.{range_with_len}
use Rattle.std.specs.Int.{int_gap}
use Rattle.std.proofs.lemmas.Int.{ints}
use Rattle.std.proofs.lemmas.Bool.{or_parts}
use Rattle.std.proofs.lemmas.Simd.{map-map}
use lib.Signed.{lt_z}
use mir.Val.{to_z, of_z}
use Rattle.clip_regions.specs.declared.region.Region.{Region}
use Rattle.clip_regions.specs.FloorDivision.{floor_rem}
use Rattle.clip_regions.specs.Regions.{is_empty, columns, rows, IsWithin}
use Rattle.mesh_model.specs.Nested.{border_count}
use Rattle.mesh_model.specs.Parts.{stitches_along}
use Rattle.mesh_laws.specs.declared.ring.Ring.{Ring}
use Rattle.mesh_laws.specs.Rings.{place_in}
use Rattle.mesh_laws.specs.Conditions.{IsCell}
use Rattle.mesh_laws.specs.Stitches.{row_places, column_places}
use Rattle.stitches.specs.declared.sides.Side.{Side}
use Rattle.stitches.specs.declared.sides.Side.TheVariants.{North, East, South, West}
use Rattle.stitches.specs.Sides.{IsBorder, steps_along, place_after, stitch_after, walk_along}
use Rattle.stitches.proofs.Walks.{stitches_in_range, turned}
use Rattle.clip_regions.proofs.Gaps.{size_is}
use Rattle.mesh_model.proofs.Rectangles.{half_and_rest}

-- the corners of a region that has a cell are in order
pub record InOrder (r : Region) : Type 0 where
  pub across : r.x0 ≤ℤ r.x1
  pub along : r.y0 ≤ℤ r.y1

ordered_by : (a b : ℤ) → lt_z b a ≡ false → a ≤ℤ b
ordered_by a b e = omega (arith, ints)

pub in_order : (r : Region) → is_empty r ≡ false → InOrder r
unfolding is_empty
in_order r e =
    let parts : (lt_z r.x1 r.x0 ≡ false) × (lt_z r.y1 r.y0 ≡ false) = or_parts (lt_z r.x1 r.x0) (lt_z r.y1 r.y0) e in
    record { across = ordered_by r.x0 r.x1 parts.0; along = ordered_by r.y0 r.y1 parts.1 }

-- the way from one number to another that isn't below it
pub way : (a b : ℤ) → a ≤ℤ b → a +ℤ pos (int_gap a b) ≡ b
way (pos a) (pos b) h = omega (arith, ints)
way (pos a) (negsuc b) h = absurd (omega (arith, ints))
way (negsuc a) (pos b) h = omega (arith, ints)
way (negsuc a) (negsuc b) h = omega (arith, ints)

span : (a b : ℤ) → a ≤ℤ b → int_gap a (b +ℤ pos 1) ≡ int_gap a b + 1
span a b h =
    let short = way a b h in
    let long = way a (b +ℤ pos 1) (omega (arith, ints)) in
    omega (arith, ints)

-- counted from the other end
back : (a b : ℤ) (u w : ℕ) → a ≤ℤ b → u + w + 1 ≡ int_gap a b + 1 + 0 → a +ℤ pos u ≡ b -ℤ pos w
back a b u w h e = let short = way a b h in omega (arith, ints)

pub way_is : (a b d : ℤ) → d ≡ b -ℤ a → a ≤ℤ b → nat_abs d ≡ int_gap a b
way_is a b d e h =
    let size = size_is d (omega (arith, ints, e, h)) in
    let reached = way a b h in
    omega (arith, ints, size, reached, e)

pub way_few : (a b d : ℤ) → d ≡ b -ℤ a → a ≤ℤ b → neg_ℤ (pos (2 ^ 24)) ≤ℤ a → b ≤ℤ pos (2 ^ 24) → nat_abs d ≤ 2 ^ 25
way_few a b d e h low high =
    let size = size_is d (omega (arith, ints, e, h)) in
    omega (arith, ints, size, e, low, high)

pub across_is : (r : Region) (side : Side) → (side ≡ North) ⊎ (side ≡ South) → int_gap r.x0 r.x1 ≡ steps_along r side
across_is r side (inl e) = ap (steps_along r) (sym e)
across_is r side (inr e) = ap (steps_along r) (sym e)

pub along_is : (r : Region) (side : Side) → (side ≡ East) ⊎ (side ≡ West) → int_gap r.y0 r.y1 ≡ steps_along r side
along_is r side (inl e) = ap (steps_along r) (sym e)
along_is r side (inr e) = ap (steps_along r) (sym e)

-- ---- cells on a side, by numbers as the code has them
-- u steps from a, and u steps back from b
record IsOn (a b i : ℤ) : Type 0 where
  low : a ≤ℤ i
  high : i ≤ℤ b

on_forth : (a b : ℤ) (u : ℕ) → a ≤ℤ b → neg_ℤ (pos (2 ^ 24)) ≤ℤ a → b ≤ℤ pos (2 ^ 24) → u ≤ int_gap a b → IsOn a b (to_z w32 (of_z w32 (to_z w32 (of_z w32 a) +ℤ to_z w32 u)))
on_forth a b u h low high walked =
    let reached = way a b h in
    record { low = omega (arith, ints, low, high, walked, reached); high = omega (arith, ints, low, high, walked, reached) }

on_back : (a b : ℤ) (u : ℕ) → a ≤ℤ b → neg_ℤ (pos (2 ^ 24)) ≤ℤ a → b ≤ℤ pos (2 ^ 24) → u ≤ int_gap a b → IsOn a b (to_z w32 (of_z w32 (to_z w32 (of_z w32 b) -ℤ to_z w32 u)))
on_back a b u h low high walked =
    let reached = way a b h in
    record { low = omega (arith, ints, low, high, walked, reached); high = omega (arith, ints, low, high, walked, reached) }

on_first : (a b : ℤ) → a ≤ℤ b → neg_ℤ (pos (2 ^ 24)) ≤ℤ a → b ≤ℤ pos (2 ^ 24) → IsOn a b (to_z w32 (of_z w32 a))
on_first a b h low high = record { low = omega (arith, ints, low, high, h); high = omega (arith, ints, low, high, h) }

on_last : (a b : ℤ) → a ≤ℤ b → neg_ℤ (pos (2 ^ 24)) ≤ℤ a → b ≤ℤ pos (2 ^ 24) → IsOn a b (to_z w32 (of_z w32 b))
on_last a b h low high = record { low = omega (arith, ints, low, high, h); high = omega (arith, ints, low, high, h) }

cell_on : (r : Region) (i j : ℤ) → IsOn r.x0 r.x1 i → IsOn r.y0 r.y1 j → IsCell r i j
cell_on r i j x y = record { west = x.low; east = x.high; north = y.low; south = y.high }

pub north_cell : (r : Region) (u : ℕ) → IsWithin (2 ^ 24) r → is_empty r ≡ false → u ≤ int_gap r.x0 r.x1 →
    IsCell r (to_z w32 (of_z w32 (to_z w32 (of_z w32 r.x0) +ℤ to_z w32 u))) (to_z w32 (of_z w32 r.y0))
north_cell r u near some walked =
    let o = in_order r some in
    cell_on r (to_z w32 (of_z w32 (to_z w32 (of_z w32 r.x0) +ℤ to_z w32 u))) (to_z w32 (of_z w32 r.y0)) (on_forth r.x0 r.x1 u o.across near.x0_low near.x1_high walked) (on_first r.y0 r.y1 o.along near.y0_low near.y1_high)

pub east_cell : (r : Region) (u : ℕ) → IsWithin (2 ^ 24) r → is_empty r ≡ false → u ≤ int_gap r.y0 r.y1 →
    IsCell r (to_z w32 (of_z w32 r.x1)) (to_z w32 (of_z w32 (to_z w32 (of_z w32 r.y0) +ℤ to_z w32 u)))
east_cell r u near some walked =
    let o = in_order r some in
    cell_on r (to_z w32 (of_z w32 r.x1)) (to_z w32 (of_z w32 (to_z w32 (of_z w32 r.y0) +ℤ to_z w32 u))) (on_last r.x0 r.x1 o.across near.x0_low near.x1_high) (on_forth r.y0 r.y1 u o.along near.y0_low near.y1_high walked)

pub south_cell : (r : Region) (u : ℕ) → IsWithin (2 ^ 24) r → is_empty r ≡ false → u ≤ int_gap r.x0 r.x1 →
    IsCell r (to_z w32 (of_z w32 (to_z w32 (of_z w32 r.x1) -ℤ to_z w32 u))) (to_z w32 (of_z w32 r.y1))
south_cell r u near some walked =
    let o = in_order r some in
    cell_on r (to_z w32 (of_z w32 (to_z w32 (of_z w32 r.x1) -ℤ to_z w32 u))) (to_z w32 (of_z w32 r.y1)) (on_back r.x0 r.x1 u o.across near.x0_low near.x1_high walked) (on_last r.y0 r.y1 o.along near.y0_low near.y1_high)

pub west_cell : (r : Region) (u : ℕ) → IsWithin (2 ^ 24) r → is_empty r ≡ false → u ≤ int_gap r.y0 r.y1 →
    IsCell r (to_z w32 (of_z w32 r.x0)) (to_z w32 (of_z w32 (to_z w32 (of_z w32 r.y1) -ℤ to_z w32 u)))
west_cell r u near some walked =
    let o = in_order r some in
    cell_on r (to_z w32 (of_z w32 r.x0)) (to_z w32 (of_z w32 (to_z w32 (of_z w32 r.y1) -ℤ to_z w32 u))) (on_first r.x0 r.x1 o.across near.x0_low near.x1_high) (on_back r.y0 r.y1 u o.along near.y0_low near.y1_high walked)

even_way : (a b : ℤ) → floor_rem a 2 ≡ 0 → floor_rem b 2 ≡ 0 → a ≤ℤ b → 2 * (int_gap a b / 2) ≡ int_gap a b
even_way a b ea eb h =
    let wa = half_and_rest a in
    let wb = half_and_rest b in
    let reached = way a b h in
    omega (arith, ints, wa, wb, ea, eb, reached)

pub even_steps : (ring : Ring) (side : Side) → IsBorder ring → 2 * (steps_along ring.active side / 2) ≡ steps_along ring.active side
even_steps ring North border = let r = ring.active in even_way r.x0 r.x1 border.even.x0 border.even.x1 (in_order r border.some).across
even_steps ring East border = let r = ring.active in even_way r.y0 r.y1 border.even.y0 border.even.y1 (in_order r border.some).along
even_steps ring South border = let r = ring.active in even_way r.x0 r.x1 border.even.x0 border.even.x1 (in_order r border.some).across
even_steps ring West border = let r = ring.active in even_way r.y0 r.y1 border.even.y0 border.even.y1 (in_order r border.some).along

-- the steps along two sides are as many as the stitches along four
pub border_is : (r : Region) → is_empty r ≡ false → steps_along r North + steps_along r East ≡ border_count r
unfolding border_count columns rows
border_is r some =
    let o = in_order r some in
    let wide = span r.x0 r.x1 o.across in
    let high = span r.y0 r.y1 o.along in
    rw some (omega (arith, wide, high))

pub no_border : (r : Region) → is_empty r ≡ true → 0 ≡ border_count r
unfolding border_count
no_border r none = rw none refl

row_is : (ring : Ring) (j : ℤ) → InOrder ring.active → row_places ring j ≡ map (λ u. place_in ring (ring.active.x0 +ℤ pos u) j) (range_with_len 0 (int_gap ring.active.x0 ring.active.x1 + 1))
unfolding row_places columns
row_is ring j some =
    let r = ring.active in
    map-map (λ i. place_in ring i j) (λ u. r.x0 +ℤ pos u) (range_with_len 0 (int_gap r.x0 (r.x1 +ℤ pos 1)))
    ∙ ap (λ n. map (λ u. place_in ring (r.x0 +ℤ pos u) j) (range_with_len 0 n)) (span r.x0 r.x1 some.across)

column_is : (ring : Ring) (i : ℤ) → InOrder ring.active → column_places ring i ≡ map (λ v. place_in ring i (ring.active.y0 +ℤ pos v)) (range_with_len 0 (int_gap ring.active.y0 ring.active.y1 + 1))
unfolding column_places rows
column_is ring i some =
    let r = ring.active in
    map-map (λ j. place_in ring i j) (λ v. r.y0 +ℤ pos v) (range_with_len 0 (int_gap r.y0 (r.y1 +ℤ pos 1)))
    ∙ ap (λ n. map (λ v. place_in ring i (r.y0 +ℤ pos v)) (range_with_len 0 n)) (span r.y0 r.y1 some.along)

walk_is : (ring : Ring) (side : Side) → InOrder ring.active → walk_along ring side ≡ map (place_after ring side) (range_with_len 0 (steps_along ring.active side + 1))
walk_is ring North some = row_is ring ring.active.y0 some
walk_is ring East some = column_is ring ring.active.x1 some
walk_is ring South some =
    let r = ring.active in
    let n = int_gap r.x0 r.x1 in
    ap reverse (row_is ring r.y1 some)
    ∙ turned (λ u. place_in ring (r.x0 +ℤ pos u) r.y1) (place_after ring South) (n + 1) 0 (λ u w low e. ap (λ i. place_in ring i r.y1) (back r.x0 r.x1 u w some.across e))
walk_is ring West some =
    let r = ring.active in
    let n = int_gap r.y0 r.y1 in
    ap reverse (column_is ring r.x0 some)
    ∙ turned (λ v. place_in ring r.x0 (r.y0 +ℤ pos v)) (place_after ring West) (n + 1) 0 (λ u w low e. ap (λ j. place_in ring r.x0 j) (back r.y0 r.y1 u w some.along e))

-- all stitches along a side
pub walk_stitches : (ring : Ring) (side : Side) (n : ℕ) → is_empty ring.active ≡ false → 2 * n ≡ steps_along ring.active side →
    map (stitch_after ring side) (range_with_len 0 n) ≡ stitches_along (walk_along ring side)
unfolding stitch_after
walk_stitches ring side n some e =
    sym (ap stitches_along (walk_is ring side (in_order ring.active some)) ∙ stitches_in_range (place_after ring side) (steps_along ring.active side) n (sym e))
