-- Every edge is closed, from the coarsest level down: a step of one is an edge of one level, and a longer one of the coarser levels.
use Rattle.std.proofs.Common.{◌≡◌, ℕ, ◌+◌, ◌≤◌, Bool, false, ◌&&◌, ◌||◌, List, [], ◌∷◌, ℤ, pos, negsuc, ◌*ℤ◌, ◌≤ℤ◌, ap, sym, subst, ◌∙◌, inl, inr, ◌⊎◌, arith}
use Rattle.std.specs.List.{All}
use Rattle.std.specs.Ordering.{int_eq}
use Rattle.std.proofs.lemmas.Int.{ints}
use Rattle.std.proofs.lemmas.List.Elements.{All-head, All-tail}
use lib.Signed.{le_z}
use Rattle.clip_regions.specs.declared.region.Region.{Region}
use Rattle.clip_regions.specs.FloorDivision.{floor_div, floor_rem}
use Rattle.clip_regions.specs.Regions.{contains, empty_region, HasEvenCorners}
use Rattle.plan_model.specs.Laws.{IsEvenOrEmpty, AllEvenOrEmpty, AreNested}
use Rattle.active_region.specs.Active.{IsWide, IsWideOrEmpty}
use Rattle.mesh_model.specs.Vertices.{hole}
use Rattle.mesh_model.specs.Watertight.{scaled}
use Rattle.mesh_laws.specs.Conditions.{IsCut}
use Rattle.mesh_laws.specs.Laws.{SquaresOnce}
use Rattle.watertight_laws.specs.Edges.{Spot, Nowhere, At, coarser_spot}
use Rattle.watertight_laws.proofs.Picks.{same_from, same_int}
use Rattle.watertight_laws.proofs.Regions.{wide_has_cell, twice, half_deep}
use Rattle.watertight_laws.proofs.Ways.{edges_from, from_nowhere, to_nowhere, even_spot}
use Rattle.watertight_laws.proofs.Rings.{HasSides, IsStrictlyIn, IsRingShape, Balanced, Unused, Shared}
use Rattle.watertight_laws.proofs.OneLevel.{on_side, off_side, Closes, None, Shut, there_of, last_of}
use Rattle.watertight_laws.proofs.Coarsest.{OfLevel, Short, Long, level_of}
use Rattle.plan_model.proofs.ActiveLaws.{even_if_cell}
use Rattle.mesh_model.proofs.Rectangles.{IsInner, half_and_rest, halved, halved_has_cell, hole_is, no_hole, rem_below}
use Rattle.mesh_laws.proofs.Rectangles.{IsDeep}
use Rattle.clip_regions.proofs.Cells.{HasCell, Lies, le_tested, same_test, tested_le}

-- ---- the shape of a ring
sides_of : (r : Region) → IsWide r → HasSides r
sides_of r wide = let a = wide.across in let b = wide.along in record { across = omega (arith, ints, a); along = omega (arith, ints, b) }

no_columns : (r : Region) → r ≡ empty_region → r.x0 ≤ℤ r.x1 → ⊥
no_columns r e h = let n : pos 0 ≤ℤ negsuc 0 = subst (λ (q : Region). q.x0 ≤ℤ q.x1) e h in omega (arith, ints, n)

no_rows : (r : Region) → r ≡ empty_region → r.y0 ≤ℤ r.y1 → ⊥
no_rows r e h = let n : pos 0 ≤ℤ negsuc 0 = subst (λ (q : Region). q.y0 ≤ℤ q.y1) e h in omega (arith, ints, n)

columns_sides : (r : Region) → IsWideOrEmpty r → r.x0 ≤ℤ r.x1 → HasSides r
columns_sides r (inl e) h = absurd (no_columns r e h)
columns_sides r (inr wide) h = sides_of r wide

rows_sides : (r : Region) → IsWideOrEmpty r → r.y0 ≤ℤ r.y1 → HasSides r
rows_sides r (inl e) h = absurd (no_rows r e h)
rows_sides r (inr wide) h = sides_of r wide

half_sides : (r : Region) → HasEvenCorners r → HasSides r → HasSides (halved r)
half_sides r even sides =
    let x0 = twice r.x0 even.x0 in
    let x1 = twice r.x1 even.x1 in
    let y0 = twice r.y0 even.y0 in
    let y1 = twice r.y1 even.y1 in
    let across = sides.across in
    let along = sides.along in
    record { across = omega (arith, ints, x0, x1, across); along = omega (arith, ints, y0, y1, along) }

deep_strict : (e : ℕ) (r g : Region) → 1 ≤ e → IsDeep e r g → IsStrictlyIn r g
deep_strict e r g some d =
    let w = d.west in
    let o = d.east in
    let n = d.north in
    let s = d.south in
    record { west = omega (arith, ints, some, w); east = omega (arith, ints, some, o); north = omega (arith, ints, some, n); south = omega (arith, ints, some, s) }

cut_out : (r g : Region) → HasSides g → IsStrictlyIn r g → IsCut r g
cut_out r g sides inside =
    let a = sides.across in
    let b = sides.along in
    let w = inside.west in
    let o = inside.east in
    let n = inside.north in
    let s = inside.south in
    record { west = omega (arith, ints, w); across = omega (arith, ints, a); east = omega (arith, ints, o); north = omega (arith, ints, n); along = omega (arith, ints, b); south = omega (arith, ints, s) }

ring_shape : (e : ℕ) (finer active : Region) → 1 ≤ e → IsWideOrEmpty finer → IsEvenOrEmpty finer → IsWideOrEmpty active → IsInner e finer active → IsRingShape active (hole finer)
ring_shape e finer active some (inl none) even wide inner =
    let gone : hole finer ≡ empty_region = ap hole none ∙ no_hole in
    record {
      columns = columns_sides active wide;
      rows = rows_sides active wide;
      gap_columns = λ h. absurd (no_columns (hole finer) gone h);
      gap_rows = λ h. absurd (no_rows (hole finer) gone h);
      gap = inl gone;
    }
ring_shape e finer active some (inr sides) even wide inner =
    let cell = wide_has_cell finer sides in
    let half : hole finer ≡ halved finer = hole_is finer cell in
    let own : HasSides (halved finer) = half_sides finer (even_if_cell finer even cell) (sides_of finer sides) in
    let inside : IsStrictlyIn active (halved finer) = deep_strict e active (halved finer) some (half_deep e finer active inner cell) in
    let facts : HasSides (hole finer) × IsStrictlyIn active (hole finer) = subst (λ (g : Region). HasSides g × IsStrictlyIn active g) (sym half) (own, inside) in
    record {
      columns = columns_sides active wide;
      rows = rows_sides active wide;
      gap_columns = λ h. facts;
      gap_rows = λ h. facts;
      gap = inr (cut_out active (hole finer) facts.0 facts.1);
    }

-- ---- the coarsest region, seen from a level
abbrev pub outer : Region → List Region → Region
outer active [] = active
outer active (next ∷ coarser) = scaled (pos 2) (outer next coarser)

-- a region within another
record Holds (o r : Region) : Type 0 where
  west : o.x0 ≤ℤ r.x0
  east : r.x1 ≤ℤ o.x1
  north : o.y0 ≤ℤ r.y0
  south : r.y1 ≤ℤ o.y1

strict_from : (e : ℕ) (active next o : Region) → 1 ≤ e → IsDeep e next (halved active) → Holds o next → IsStrictlyIn (scaled (pos 2) o) active
unfolding scaled
strict_from e active next o some d w =
    let x0 = half_and_rest active.x0 in
    let x1 = half_and_rest active.x1 in
    let y0 = half_and_rest active.y0 in
    let y1 = half_and_rest active.y1 in
    let r1 = rem_below active.x1 in
    let r2 = rem_below active.y1 in
    let dw = d.west in
    let de = d.east in
    let dn = d.north in
    let ds = d.south in
    let ow = w.west in
    let oe = w.east in
    let on' = w.north in
    let os' = w.south in
    record {
      west = omega (arith, ints, some, x0, dw, ow);
      east = omega (arith, ints, some, x1, r1, de, oe);
      north = omega (arith, ints, some, y0, dn, on');
      south = omega (arith, ints, some, y1, r2, ds, os');
    }

weaker : (o r : Region) → IsStrictlyIn o r → Holds o r
weaker o r s =
    let w = s.west in
    let e = s.east in
    let n = s.north in
    let u = s.south in
    record { west = omega (arith, ints, w); east = omega (arith, ints, e); north = omega (arith, ints, n); south = omega (arith, ints, u) }

deep_cell : (e : ℕ) (next g : Region) → IsDeep e next g → HasCell g → HasCell next
deep_cell e next g d cell =
    let w = d.west in
    let o = d.east in
    let n = d.north in
    let s = d.south in
    let a = cell.across in
    let b = cell.along in
    record { across = omega (arith, ints, w, o, a); along = omega (arith, ints, n, s, b) }

outer_holds : (e : ℕ) (active : Region) (coarser : List Region) → 1 ≤ e → AreNested e (active ∷ coarser) → HasCell active → Holds (outer active coarser) active
outer_holds e active [] some nested cell = record { west = omega (arith, ints); east = omega (arith, ints); north = omega (arith, ints); south = omega (arith, ints) }
outer_holds e active (next ∷ coarser) some nested cell =
    let d : IsDeep e next (halved active) = half_deep e active next nested.0 cell in
    weaker (outer active (next ∷ coarser)) active (strict_from e active next (outer next coarser) some d (outer_holds e next coarser some nested.1 (deep_cell e next (halved active) d (halved_has_cell active cell))))

outer_strict : (e : ℕ) (active next : Region) (coarser : List Region) → 1 ≤ e → AreNested e (active ∷ next ∷ coarser) → HasCell active → IsStrictlyIn (outer active (next ∷ coarser)) active
outer_strict e active next coarser some nested cell =
    let d : IsDeep e next (halved active) = half_deep e active next nested.0 cell in
    strict_from e active next (outer next coarser) some d (outer_holds e next coarser some nested.1 (deep_cell e next (halved active) d (halved_has_cell active cell)))

-- the spots of a cell of the region are on no side of the coarsest one
inside_off : (o r : Region) (x z x' z' : ℤ) → IsStrictlyIn o r → Lies r x z → on_side o (At x z) (At x' z') ≡ false
inside_off o r x z x' z' s l =
    let w = s.west in
    let e = s.east in
    let n = s.north in
    let u = s.south in
    let lw = l.west in
    let le = l.east in
    let ln = l.north in
    let ls = l.south in
    off_side o x z x' z'
    (λ h _. omega (arith, ints, h, w, lw)) (λ h _. omega (arith, ints, h, e, le)) (λ h _. omega (arith, ints, h, n, ln)) (λ h _. omega (arith, ints, h, u, ls))

-- ---- sides on the next coarser level
double_le : (a b x : ℤ) → x ≡ pos 2 *ℤ b → le_z (a *ℤ pos 2) x ≡ le_z a b
double_le a b x h =
    same_test (le_z (a *ℤ pos 2) x) (le_z a b)
    (λ t. le_tested a b (let l : (a *ℤ pos 2) ≤ℤ x = tested_le (a *ℤ pos 2) x t in omega (arith, ints, h, l)))
    (λ t. le_tested (a *ℤ pos 2) x (let l : a ≤ℤ b = tested_le a b t in omega (arith, ints, h, l)))

double_ge : (a b x : ℤ) → x ≡ pos 2 *ℤ b → le_z x (a *ℤ pos 2) ≡ le_z b a
double_ge a b x h =
    same_test (le_z x (a *ℤ pos 2)) (le_z b a)
    (λ t. le_tested b a (let l : x ≤ℤ (a *ℤ pos 2) = tested_le x (a *ℤ pos 2) t in omega (arith, ints, h, l)))
    (λ t. le_tested x (a *ℤ pos 2) (let l : b ≤ℤ a = tested_le b a t in omega (arith, ints, h, l)))

double_eq : (a b x : ℤ) → x ≡ pos 2 *ℤ b → int_eq x (a *ℤ pos 2) ≡ int_eq b a
double_eq a b x h =
    same_test (int_eq x (a *ℤ pos 2)) (int_eq b a)
    (λ t. same_int b a (let l : x ≡ a *ℤ pos 2 = same_from x (a *ℤ pos 2) t in omega (arith, ints, h, l)))
    (λ t. same_int x (a *ℤ pos 2) (let l : b ≡ a = same_from b a t in omega (arith, ints, h, l)))

double_contains : (r : Region) (i j x z : ℤ) → x ≡ pos 2 *ℤ i → z ≡ pos 2 *ℤ j → contains (scaled (pos 2) r) x z ≡ contains r i j
unfolding contains scaled
double_contains r i j x z hx hz =
    λ t. (double_le r.x0 i x hx t && double_ge r.x1 i x hx t) && (double_le r.y0 j z hz t && double_ge r.y1 j z hz t)

double_side : (r : Region) (i j i' j' x z x' z' : ℤ) → x ≡ pos 2 *ℤ i → z ≡ pos 2 *ℤ j → x' ≡ pos 2 *ℤ i' → z' ≡ pos 2 *ℤ j' →
    on_side (scaled (pos 2) r) (At x z) (At x' z') ≡ on_side r (At i j) (At i' j')
unfolding scaled
double_side r i j i' j' x z x' z' hx hz hx' hz' =
    λ t. (double_contains r i j x z hx hz t && double_contains r i' j' x' z' hx' hz' t)
    && (((double_eq r.x0 i x hx t && double_eq r.x0 i' x' hx' t) || (double_eq r.x1 i x hx t && double_eq r.x1 i' x' hx' t))
    || ((double_eq r.y0 j z hz t && double_eq r.y0 j' z' hz' t) || (double_eq r.y1 j z hz t && double_eq r.y1 j' z' hz' t)))

cell_of : (r : Region) (x z : ℤ) → Lies r x z → HasCell r
cell_of r x z l =
    let w = l.west in
    let e = l.east in
    let n = l.north in
    let s = l.south in
    record { across = omega (arith, ints, w, e); along = omega (arith, ints, n, s) }

-- ---- level by level
pub closes_same : (t b t' b' : ℕ) (border : Bool) → t' ≡ t → b' ≡ b → Closes t b border → Closes t' b' border
closes_same t b t' b' border et eb h = subst (λ (n : ℕ). Closes n b' border) (sym et) (subst (λ (n : ℕ). Closes t n border) (sym eb) h)

split : (finer active next : Region) (coarser : List Region) (p q : Spot) →
    edges_from finer active (next ∷ coarser) p q ≡ there_of finer active p q + edges_from active next coarser (coarser_spot p) (coarser_spot q)
unfolding edges_from
split finer active next coarser p q = omega arith

last : (finer active : Region) (p q : Spot) → edges_from finer active [] p q ≡ last_of finer active p q
unfolding edges_from
last finer active p q = omega arith

both_gone : (active next : Region) (coarser : List Region) (p q : Spot) → (p ≡ Nowhere) ⊎ (q ≡ Nowhere) → (edges_from active next coarser p q ≡ 0) × (edges_from active next coarser q p ≡ 0)
both_gone active next coarser p q (inl e) =
    (ap (λ s. edges_from active next coarser s q) e ∙ from_nowhere active next coarser q, ap (λ s. edges_from active next coarser q s) e ∙ to_nowhere active next coarser q)
both_gone active next coarser p q (inr e) =
    (ap (λ s. edges_from active next coarser p s) e ∙ to_nowhere active next coarser p, ap (λ s. edges_from active next coarser s p) e ∙ from_nowhere active next coarser p)

coarsest : (finer active : Region) (x z x' z' : ℤ) → OfLevel finer active x z x' z' →
    Closes (edges_from finer active [] (At x z) (At x' z')) (edges_from finer active [] (At x' z') (At x z)) (on_side active (At x z) (At x' z'))
coarsest finer active x z x' z' (Short odd balanced closes) =
    closes_same (last_of finer active (At x z) (At x' z')) (last_of finer active (At x' z') (At x z)) (edges_from finer active [] (At x z) (At x' z')) (edges_from finer active [] (At x' z') (At x z)) (on_side active (At x z) (At x' z'))
    (last finer active (At x z) (At x' z')) (last finer active (At x' z') (At x z)) closes
coarsest finer active x z x' z' (Long e e' none none') =
    let t = last finer active (At x z) (At x' z') in
    let b = last finer active (At x' z') (At x z) in
    let h = none (hole finer) in
    let h' = none' (hole finer) in
    None (omega (arith, t, e, h')) (omega (arith, b, e', h))

-- one level, where the next coarser ones are known
one_level : (finer active next : Region) (coarser : List Region) (x z x' z' : ℤ) → (HasCell active → IsStrictlyIn (outer active (next ∷ coarser)) active) →
    ((p q : Spot) → Closes (edges_from active next coarser p q) (edges_from active next coarser q p) (on_side (outer next coarser) p q)) → OfLevel finer active x z x' z' →
    Closes (edges_from finer active (next ∷ coarser) (At x z) (At x' z')) (edges_from finer active (next ∷ coarser) (At x' z') (At x z)) (on_side (outer active (next ∷ coarser)) (At x z) (At x' z'))
one_level finer active next coarser x z x' z' strict known (Short odd balanced closes) =
    by_balance (both_gone active next coarser (coarser_spot (At x z)) (coarser_spot (At x' z')) odd) balanced
  where
    by_balance : (edges_from active next coarser (coarser_spot (At x z)) (coarser_spot (At x' z')) ≡ 0) × (edges_from active next coarser (coarser_spot (At x' z')) (coarser_spot (At x z)) ≡ 0) →
        Balanced active x z x' z' (there_of finer active (At x z) (At x' z')) (there_of finer active (At x' z') (At x z)) →
        Closes (edges_from finer active (next ∷ coarser) (At x z) (At x' z')) (edges_from finer active (next ∷ coarser) (At x' z') (At x z)) (on_side (outer active (next ∷ coarser)) (At x z) (At x' z'))
    by_balance gone (Unused e e') =
        let t = split finer active next coarser (At x z) (At x' z') in
        let b = split finer active next coarser (At x' z') (At x z) in
        let g = gone.0 in
        let g' = gone.1 in
        None (omega (arith, t, e, g)) (omega (arith, b, e', g'))
    by_balance gone (Shared e e' l l') =
        let t = split finer active next coarser (At x z) (At x' z') in
        let b = split finer active next coarser (At x' z') (At x z) in
        let g = gone.0 in
        let g' = gone.1 in
        Shut (inside_off (outer active (next ∷ coarser)) active x z x' z' (strict (cell_of active x z l)) l) (omega (arith, t, e, g)) (omega (arith, b, e', g'))
one_level finer active next coarser x z x' z' strict known (Long e e' none none') = by_spots (even_spot x z) (even_spot x' z')
  where
    p : Spot
    p = At x z

    q : Spot
    q = At x' z'

    there : edges_from finer active (next ∷ coarser) p q ≡ edges_from active next coarser (coarser_spot p) (coarser_spot q)
    there =
        let t = split finer active next coarser p q in
        let own = none active in
        let h = none' (hole finer) in
        omega (arith, t, e, own, h)

    back : edges_from finer active (next ∷ coarser) q p ≡ edges_from active next coarser (coarser_spot q) (coarser_spot p)
    back =
        let t = split finer active next coarser q p in
        let own = none' active in
        let h = none (hole finer) in
        omega (arith, t, e', own, h)

    nowhere : (coarser_spot p ≡ Nowhere) ⊎ (coarser_spot q ≡ Nowhere) → Closes (edges_from finer active (next ∷ coarser) p q) (edges_from finer active (next ∷ coarser) q p) (on_side (outer active (next ∷ coarser)) p q)
    nowhere gone = let zero' = both_gone active next coarser (coarser_spot p) (coarser_spot q) gone in None (there ∙ zero'.0) (back ∙ zero'.1)

    by_spots : (coarser_spot p ≡ Nowhere) ⊎ ((floor_rem x 2 ≡ 0) × (floor_rem z 2 ≡ 0) × (coarser_spot p ≡ At (floor_div x 2) (floor_div z 2))) →
        (coarser_spot q ≡ Nowhere) ⊎ ((floor_rem x' 2 ≡ 0) × (floor_rem z' 2 ≡ 0) × (coarser_spot q ≡ At (floor_div x' 2) (floor_div z' 2))) →
        Closes (edges_from finer active (next ∷ coarser) p q) (edges_from finer active (next ∷ coarser) q p) (on_side (outer active (next ∷ coarser)) p q)
    by_spots (inl gone) o = nowhere (inl gone)
    by_spots (inr h) (inl gone) = nowhere (inr gone)
    by_spots (inr h) (inr h') =
        let hp : Spot = At (floor_div x 2) (floor_div z 2) in
        let hq : Spot = At (floor_div x' 2) (floor_div z' 2) in
        let side : on_side (outer active (next ∷ coarser)) p q ≡ on_side (outer next coarser) hp hq = double_side (outer next coarser) (floor_div x 2) (floor_div z 2) (floor_div x' 2) (floor_div z' 2) x z x' z' (twice x h.0) (twice z h.1) (twice x' h'.0) (twice z' h'.1) in
        subst (λ (border : Bool). Closes (edges_from finer active (next ∷ coarser) p q) (edges_from finer active (next ∷ coarser) q p) border) (sym side)
        (closes_same (edges_from active next coarser hp hq) (edges_from active next coarser hq hp) (edges_from finer active (next ∷ coarser) p q) (edges_from finer active (next ∷ coarser) q p) (on_side (outer next coarser) hp hq)
        (there ∙ (λ t. edges_from active next coarser (h.2 t) (h'.2 t))) (back ∙ (λ t. edges_from active next coarser (h'.2 t) (h.2 t))) (known hp hq))

pub closing : SquaresOnce → (e : ℕ) (finer active : Region) (coarser : List Region) → 1 ≤ e → IsWideOrEmpty finer → IsEvenOrEmpty finer → All IsWideOrEmpty (active ∷ coarser) → AllEvenOrEmpty (active ∷ coarser) → AreNested e (finer ∷ active ∷ coarser) →
    (p q : Spot) → Closes (edges_from finer active coarser p q) (edges_from finer active coarser q p) (on_side (outer active coarser) p q)
closing once e finer active coarser some wide even wides evens nested Nowhere q = None (from_nowhere finer active coarser q) (to_nowhere finer active coarser q)
closing once e finer active coarser some wide even wides evens nested (At x z) Nowhere = None (to_nowhere finer active coarser (At x z)) (from_nowhere finer active coarser (At x z))
closing once e finer active [] some wide even wides evens nested (At x z) (At x' z') =
    coarsest finer active x z x' z' (level_of once finer active (ring_shape e finer active some wide even (All-head IsWideOrEmpty active [] wides) nested.0) x z x' z')
closing once e finer active (next ∷ coarser) some wide even wides evens nested (At x z) (At x' z') =
    one_level finer active next coarser x z x' z' (outer_strict e active next coarser some nested.1)
    (closing once e active next coarser some (All-head IsWideOrEmpty active (next ∷ coarser) wides) evens.0 (All-tail IsWideOrEmpty active (next ∷ coarser) wides) evens.1 nested.1)
    (level_of once finer active (ring_shape e finer active some wide even (All-head IsWideOrEmpty active (next ∷ coarser) wides) nested.0) x z x' z')
