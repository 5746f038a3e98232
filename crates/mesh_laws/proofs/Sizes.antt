-- How large the regions of a frame are, and that their rings come one after another.
use Rattle.std.proofs.Common.{◌≡◌, ℕ, zero, suc, ◌+◌, ◌-◌, ◌*◌, ◌^◌, ◌<◌, ◌≤◌, true, List, [], ◌∷◌, ℤ, pos, ◌+ℤ◌, ◌-ℤ◌, ◌≤ℤ◌, length, get_or, refl, sym, subst, inl, inr, arith}
use Rattle.std.specs.Int.{int_gap}
use Rattle.std.proofs.lemmas.Int.{ints}
use Rattle.std.proofs.Math.Nat.{mul-le-mul}
use Rattle.std.proofs.Math.Pow.{pow_mono}
use Rattle.clip_regions.specs.declared.region.Region.{Region}
use Rattle.clip_regions.specs.Regions.{contains, empty_region, columns, rows, area, IsWithin}
use Rattle.plan_model.specs.Limits.{IsSize}
use Rattle.plan_model.specs.Window.{window, center, half_width, margin}
use Rattle.plan_model.specs.Laws.{IsEvenOrEmpty, AllEvenOrEmpty, AreNested}
use Rattle.plan_model.specs.Sound.{IsInside, IsShown}
use Rattle.mesh_model.specs.Height.{active_at}
use Rattle.mesh_model.specs.Vertices.{hole}
use Rattle.active_region.specs.Active.{AreActive}
use Rattle.mesh_laws.specs.declared.ring.Ring.{Ring}
use Rattle.mesh_laws.specs.Rings.{no_ring, next_ring, ring_size, finer_of}
use Rattle.mesh_laws.specs.Conditions.{IsCell, IsCut, HasHole, IsSmall, IsRing, AreLinked, IsBefore}
use Rattle.mesh_laws.proofs.Rectangles.{hole_or_none}
use Rattle.clip_regions.proofs.Gaps.{gap_by}
use Rattle.clip_regions.proofs.Cells.{lying, has_cell, Within, empty_is_empty}
use Rattle.mesh_model.proofs.Rectangles.{IsInner, hole_within, none_in}

-- ---- the regions of a list, one by one
even_at : (actives : List Region) (level : ℕ) (d : Region) → level < length actives → AllEvenOrEmpty actives → IsEvenOrEmpty (get_or actives level d)
even_at [] level d low all = absurd (omega arith)
even_at (r ∷ rest) zero d low all = all.0
even_at (r ∷ rest) (suc level) d low all = even_at rest level d (omega arith) all.1

pub inner_at : (e : ℕ) (actives : List Region) (level : ℕ) (d : Region) → suc level < length actives → AreNested e actives → IsInner e (get_or actives level d) (get_or actives (suc level) d)
inner_at e [] level d low nested = absurd (omega arith)
inner_at e (a ∷ []) level d low nested = absurd (omega arith)
inner_at e (a ∷ b ∷ rest) zero d low nested = nested.0
inner_at e (a ∷ b ∷ rest) (suc level) d low nested = inner_at e (b ∷ rest) level d (omega arith) nested.1

pub even_of : (actives : List Region) (level : ℕ) → level < length actives → AreActive actives → IsEvenOrEmpty (active_at actives level)
unfolding active_at
even_of actives level low drawn = even_at actives level empty_region low drawn.drawn.even

pub even_finer : (actives : List Region) (level : ℕ) → level < length actives → AreActive actives → IsEvenOrEmpty (finer_of actives level)
even_finer actives zero low drawn = inl empty_is_empty
even_finer actives (suc level) low drawn = even_of actives level (omega arith) drawn

pub inner_of : (actives : List Region) (level : ℕ) (drawn : AreActive actives) → level + 1 < length actives → IsInner (margin drawn.k) (active_at actives level) (active_at actives (level + 1))
unfolding active_at
inner_of actives level drawn low =
    let next : suc level ≡ level + 1 = omega arith in
    subst (λ (n : ℕ). IsInner (margin drawn.k) (get_or actives level empty_region) (get_or actives n empty_region)) next
    (inner_at (margin drawn.k) actives level empty_region (omega arith) drawn.drawn.nested)

pub inner_finer : (actives : List Region) (level : ℕ) (drawn : AreActive actives) → level < length actives → IsInner (margin drawn.k) (finer_of actives level) (active_at actives level)
inner_finer actives zero drawn low = λ some. none_in _ empty_region empty_is_empty (has_cell empty_region some)
inner_finer actives (suc level) drawn low =
    subst (λ (n : ℕ). IsInner (margin drawn.k) (active_at actives level) (active_at actives n)) (omega arith) (inner_of actives level drawn (omega arith))

-- ---- windows
pub half_at_most : (k : ℕ) → IsSize k → half_width k ≤ 127
unfolding half_width
half_at_most k size =
    let high = size.high in
    let power : 2 ^ (k - 1) ≤ 2 ^ 7 = pow_mono {i = k - 1} {j = 7} (omega arith) in
    omega arith

narrow : (a b : ℤ) (h : ℕ) (c d : ℤ) → h ≤ 127 → (a -ℤ pos h) ≤ℤ c → d ≤ℤ (a +ℤ pos h) → int_gap c (d +ℤ pos 1) ≤ 255
narrow a b h c d few low high = let g = gap_by c (d +ℤ pos 1) in omega (arith, ints)

window_small : (k level : ℕ) (x y : ℤ) (r : Region) → IsSize k → IsInside (window k level x y) r → IsWithin (2 ^ 24) r → IsSmall r
unfolding window columns rows
window_small k level x y r size inside near =
    let half : half_width k ≤ 127 = half_at_most k size in
    record {
      near = near;
      few_columns = narrow (center level x) (center level x) (half_width k) r.x0 r.x1 half inside.west inside.east;
      few_rows = narrow (center level y) (center level y) (half_width k) r.y0 r.y1 half inside.north inside.south;
    }

empty_near : IsWithin (2 ^ 24) empty_region
empty_near = record {
  x0_low = omega (arith, ints);
  x0_high = omega (arith, ints);
  y0_low = omega (arith, ints);
  y0_high = omega (arith, ints);
  x1_low = omega (arith, ints);
  x1_high = omega (arith, ints);
  y1_low = omega (arith, ints);
  y1_high = omega (arith, ints);
}

pub empty_small : IsSmall empty_region
unfolding columns rows
empty_small = record { near = empty_near; few_columns = omega arith; few_rows = omega arith }

shown_small : (k level : ℕ) (r : Region) → IsSize k → IsShown k level r → IsWithin (2 ^ 24) r → IsSmall r
shown_small k level r size shown near =
    elim shown.part [
      | inl none ↦ subst IsSmall (sym none) empty_small
      | inr some ↦ window_small k level shown.x shown.y r size some.inside near
    ]

pub small_of : (actives : List Region) (level : ℕ) → level < length actives → AreActive actives → IsSmall (active_at actives level)
unfolding active_at
small_of actives level low drawn =
    shown_small drawn.k level (get_or actives level empty_region) drawn.size (drawn.drawn.shown level low) (drawn.drawn.near level empty_region low)

-- ---- rings
ring_after : (actives : List Region) (level : ℕ) (finer : Ring) → AreActive actives → level < length actives → IsBefore actives level finer → HasHole (active_at actives level) (hole finer.active)
ring_after actives level finer drawn low before =
    elim (hole_or_none finer.active) [
      | inl none ↦ inl none
      | inr some ↦ let inner : IsInner (margin drawn.k) finer.active (active_at actives level) = subst (λ (r : Region). IsInner (margin drawn.k) r (active_at actives level)) (sym before.region) (inner_finer actives level drawn low) in
          let w : Within (active_at actives level) (hole finer.active) = hole_within (margin drawn.k) finer.active (active_at actives level) inner some in
          inr (record { west = w.west; across = some.across; east = w.east; north = w.north; along = some.along; south = w.south })
    ]

pub size_of : (ring : Ring) → IsRing ring → ring_size ring ≤ 65025
unfolding ring_size area
size_of ring is =
    let product : columns ring.active * rows ring.active ≤ 255 * 255 = mul-le-mul is.small.few_columns is.small.few_rows in
    omega arith

pub next_own : (actives : List Region) (level : ℕ) (finer : Ring) → AreActive actives → level < length actives → IsBefore actives level finer → IsRing (next_ring finer (active_at actives level))
unfolding next_ring
next_own actives level finer drawn low before =
    let few = before.few in
    let size = size_of finer before.own in
    let many = drawn.drawn.many.high in
    record {
      small = small_of actives level low drawn;
      cut = ring_after actives level finer drawn low before;
      few = omega arith;
    }

pub next_linked : (actives : List Region) (level : ℕ) (finer : Ring) → AreActive actives → level < length actives → IsBefore actives level finer → AreLinked finer (next_ring finer (active_at actives level))
unfolding next_ring
next_linked actives level finer drawn low before = record {
  before = before.own;
  own = next_own actives level finer drawn low before;
  gap = refl;
  even = subst IsEvenOrEmpty (sym before.region) (even_finer actives level low drawn);
}

pub next_before : (actives : List Region) (level : ℕ) (finer : Ring) → AreActive actives → level < length actives → IsBefore actives level finer → IsBefore actives (level + 1) (next_ring finer (active_at actives level))
unfolding next_ring
next_before actives level finer drawn low before =
    let few = before.few in
    let size = size_of finer before.own in
    record {
      own = next_own actives level finer drawn low before;
      region = λ t. finer_of actives (more t);
      few = omega arith;
    }
  where
    more : suc level ≡ level + 1
    more = omega arith

pub first_before : (actives : List Region) → IsBefore actives 0 no_ring
first_before actives = record {
  own = record { small = empty_small; cut = inl refl; few = omega arith };
  region = refl;
  few = omega arith;
}

-- ---- cells
pub contained : (r : Region) (i j : ℤ) → IsCell r i j → contains r i j ≡ true
contained r i j h = lying r i j (record { west = h.west; east = h.east; north = h.north; south = h.south })

smaller_near : (active gap : Region) → IsWithin (2 ^ 24) active → IsCut active gap → IsWithin (2 ^ 24) gap
smaller_near active gap near cut =
    let w = cut.west in
    let a = cut.across in
    let e = cut.east in
    let n = cut.north in
    let l = cut.along in
    let s = cut.south in
    let xl = near.x0_low in
    let xh = near.x1_high in
    let yl = near.y0_low in
    let yh = near.y1_high in
    record {
      x0_low = omega (arith, ints, xl, w);
      x0_high = omega (arith, ints, xh, a, e);
      y0_low = omega (arith, ints, yl, n);
      y0_high = omega (arith, ints, yh, l, s);
      x1_low = omega (arith, ints, xl, w, a);
      x1_high = omega (arith, ints, xh, e);
      y1_low = omega (arith, ints, yl, n, l);
      y1_high = omega (arith, ints, yh, s);
    }

smaller : (a b c d : ℤ) → a ≤ℤ c → d ≤ℤ b → int_gap a (b +ℤ pos 1) ≤ 255 → int_gap c (d +ℤ pos 1) ≤ 255
smaller a b c d low high few =
    let g = gap_by a (b +ℤ pos 1) in
    let h = gap_by c (d +ℤ pos 1) in
    omega (arith, ints, low, high, few, g, h)

pub hole_small : (active gap : Region) → IsSmall active → HasHole active gap → IsSmall gap
unfolding columns rows
hole_small active gap small (inl none) = subst IsSmall (sym none) empty_small
hole_small active gap small (inr cut) = record {
  near = smaller_near active gap small.near cut;
  few_columns = smaller active.x0 active.x1 gap.x0 gap.x1 cut.west cut.east small.few_columns;
  few_rows = smaller active.y0 active.y1 gap.y0 gap.y1 cut.north cut.south small.few_rows;
}
