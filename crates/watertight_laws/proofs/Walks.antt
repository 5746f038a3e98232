-- Stitches along a walk that is an image of a range, and steps of a walk along a side of a region.
use Rattle.std.proofs.Common.{◌≡◌, ℕ, zero, suc, ◌+◌, ◌*◌, ◌<◌, Bool, true, false, cond, ◌&&◌, ◌==◌, List, [], ◌∷◌, ◌++◌, ℤ, pos, negsuc, ◌+ℤ◌, ◌-ℤ◌, ◌*ℤ◌, map, reverse, refl, ap, sym, ◌∙◌, arith}
use Rattle.std.specs.List.{sum_by, range_with_len}
use Rattle.std.specs.Int.{int_gap}
use Rattle.std.specs.Ordering.{int_eq}
use Rattle.std.proofs.lemmas.Int.{ints}
use Rattle.std.proofs.lemmas.Bool.{and_parts, and_from, and_right}
use Rattle.std.proofs.lemmas.List.{reverse-append}
use Rattle.std.proofs.lemmas.List.FromFn.{map-range_with_len_more}
use Rattle.clip_regions.specs.declared.region.Region.{Region}
use Rattle.clip_regions.specs.Regions.{contains}
use Rattle.mesh_model.specs.declared.shapes.Vertex.{Vertex}
use Rattle.mesh_model.specs.Parts.{corner_place, stitches_from, stitches_along}
use Rattle.watertight_laws.specs.Edges.{Spot, Nowhere, At, is_at, coarser_spot, by_step, has_cell_at, north_steps, east_steps, south_steps, west_steps}
use Rattle.watertight_laws.proofs.Sums.{one_if, sum_map, sum_add, sum_none, sum_twos, pick}
use Rattle.watertight_laws.proofs.Picks.{same_from, same_int}
use Rattle.watertight_laws.proofs.Marks.{Marks, coarser_is_at}
use Rattle.watertight_laws.proofs.Squares.{edges_of}
use Rattle.clip_regions.proofs.Gaps.{gap_by}
use Rattle.clip_regions.proofs.Cells.{Lies, lies, lying}

-- the stitch of steps 2 · s and 2 · s + 1
abbrev two_steps : (ℕ → ℕ) → ℕ → List ℕ
two_steps f s = f (2 * s) ∷ f (2 * s + 1) ∷ f (2 * s + 2) ∷ []

stitches_on : (f : ℕ → ℕ) (l n b s : ℕ) → l ≡ 2 * n → b ≡ 2 * s → stitches_from (f b) (map f (range_with_len (b + 1) l)) ≡ map (two_steps f) (range_with_len s n)
stitches_on f zero zero b s el eb = refl
stitches_on f zero (suc n) b s el eb = absurd (omega arith)
stitches_on f (suc zero) n b s el eb = absurd (omega arith)
stitches_on f (suc (suc l)) zero b s el eb = absurd (omega arith)
stitches_on f (suc (suc l)) (suc n) b s el eb =
    let one : b + 1 ≡ 2 * s + 1 = omega arith in
    let two : b + 1 + 1 ≡ 2 * s + 2 = omega arith in
    let rest : stitches_from (f (b + 1 + 1)) (map f (range_with_len (b + 1 + 1 + 1) l)) ≡ map (two_steps f) (range_with_len (s + 1) n) = stitches_on f l n (b + 1 + 1) (s + 1) (omega arith) (omega arith) in
    λ t. (f (eb t) ∷ f (one t) ∷ f (two t) ∷ []) ∷ rest t

stitches_in_range : (f : ℕ → ℕ) (l n : ℕ) → l ≡ 2 * n → stitches_along (map f (range_with_len 0 (l + 1))) ≡ map (two_steps f) (range_with_len 0 n)
stitches_in_range f l n e =
    let more : l + 1 ≡ suc l = omega arith in
    ap (λ m. stitches_along (map f (range_with_len 0 m))) more ∙ stitches_on f l n 0 0 e (omega arith)

-- the images of a range from the last to the first
pub turned : (f g : ℕ → ℕ) (m s : ℕ) → ((u w : ℕ) → u < m → u + w + 1 ≡ m + s → f u ≡ g w) → reverse (map f (range_with_len 0 m)) ≡ map g (range_with_len s m)
turned f g zero s same = refl
turned f g (suc m) s same =
    let more : suc m ≡ m + 1 = omega arith in
    let last : map f (range_with_len 0 (suc m)) ≡ map f (range_with_len 0 m) ++ f m ∷ [] = ap (λ n. map f (range_with_len 0 n)) more ∙ map-range_with_len_more f 0 m m (omega arith) in
    let first : f m ≡ g s = same m s (omega arith) (omega arith) in
    let rest : reverse (map f (range_with_len 0 m)) ≡ map g (range_with_len (s + 1) m) = turned f g m (s + 1) (λ u w low e. same u w (omega arith) (omega arith)) in
    ap reverse last ∙ reverse-append (map f (range_with_len 0 m)) (f m ∷ []) ∙ (λ t. first t ∷ rest t)

-- ---- steps
-- the cell after so many steps of a walk
abbrev pub Walk : Type 0
Walk = ℕ → ℤ × ℤ

-- does step u of a walk lead from p to q?
abbrev leads : Walk → Spot → Spot → ℕ → Bool
leads g p q u = is_at p (g u).0 (g u).1 && is_at q (g (u + 1)).0 (g (u + 1)).1

-- how many of its first n steps do?
pub steps : Walk → ℕ → Spot → Spot → ℕ
steps g n p q = sum_by (λ u. one_if (leads g p q u)) (range_with_len 0 n)

swapped : (x y : Bool) → (x && y) ≡ (y && x)
swapped true true = refl
swapped true false = refl
swapped false true = refl
swapped false false = refl

-- each second cell of a walk is twice a cell of a walk of the next coarser level
pub record IsDouble (g h : Walk) : Type 0 where
  pub column : (s : ℕ) → (g (2 * s)).0 ≡ pos 2 *ℤ (h s).0
  pub row : (s : ℕ) → (g (2 * s)).1 ≡ pos 2 *ℤ (h s).1

module _ (vertices : List Vertex) (level a b : ℕ) (p q : Spot) (ma : Marks vertices level a p) (mb : Marks vertices level b q) where
  coarse : (g h : Walk) → IsDouble g h → (s : ℕ) (c : ℕ) (o : Spot) → Marks vertices level c o → (corner_place vertices level (g (2 * s)).0 (g (2 * s)).1 == c) ≡ is_at (coarser_spot o) (h s).0 (h s).1
  coarse g h double s c o marks =
      marks.at (g (2 * s)).0 (g (2 * s)).1 ∙ (λ t. is_at o (double.column s t) (double.row s t)) ∙ coarser_is_at o (h s).0 (h s).1

  stitch_tally : (g h : Walk) → IsDouble g h → (s : ℕ) → edges_of a b (two_steps (λ u. corner_place vertices level (g u).0 (g u).1) s)
      ≡ (one_if (leads g p q (2 * s)) + one_if (leads g p q (2 * s + 1))) + one_if (leads h (coarser_spot q) (coarser_spot p) s)
  stitch_tally g h double s =
      let place = λ (u : ℕ). corner_place vertices level (g u).0 (g u).1 in
      let next : 2 * s + 2 ≡ 2 * s + 1 + 1 = omega arith in
      let third : 2 * s + 2 ≡ 2 * (s + 1) = omega arith in
      let last : (place (2 * s + 2) == b) ≡ is_at q (g (2 * s + 1 + 1)).0 (g (2 * s + 1 + 1)).1 = ap (λ u. place u == b) next ∙ mb.at (g (2 * s + 1 + 1)).0 (g (2 * s + 1 + 1)).1 in
      let end : (place (2 * s + 2) == a) ≡ is_at (coarser_spot p) (h (s + 1)).0 (h (s + 1)).1 = ap (λ u. place u == a) third ∙ coarse g h double (s + 1) a p ma in
      let start : (place (2 * s) == b) ≡ is_at (coarser_spot q) (h s).0 (h s).1 = coarse g h double s b q mb in
      λ t.
      (one_if (ma.at (g (2 * s)).0 (g (2 * s)).1 t && mb.at (g (2 * s + 1)).0 (g (2 * s + 1)).1 t) + one_if (ma.at (g (2 * s + 1)).0 (g (2 * s + 1)).1 t && last t))
      + one_if ((swapped (place (2 * s + 2) == a) (place (2 * s) == b) ∙ (λ k. start k && end k)) t)

  -- along a walk of twice n steps
  pub walk_tally : (g h : Walk) (l n : ℕ) → l ≡ 2 * n → IsDouble g h →
      sum_by (edges_of a b) (stitches_along (map (λ u. corner_place vertices level (g u).0 (g u).1) (range_with_len 0 (l + 1)))) ≡ steps g l p q + steps h n (coarser_spot q) (coarser_spot p)
  unfolding steps
  walk_tally g h l n e double =
      let place = λ (u : ℕ). corner_place vertices level (g u).0 (g u).1 in
      let short : ℕ → ℕ = λ u. one_if (leads g p q u) in
      let long : ℕ → ℕ = λ s. one_if (leads h (coarser_spot q) (coarser_spot p) s) in
      ap (sum_by (edges_of a b)) (stitches_in_range place l n e)
      ∙ sum_map (edges_of a b) (two_steps place) (range_with_len 0 n)
      ∙ (λ t. sum_by (λ s. stitch_tally g h double s t) (range_with_len 0 n))
      ∙ sum_add (λ s. short (2 * s) + short (2 * s + 1)) long (range_with_len 0 n)
      ∙ ap (λ m. m + sum_by long (range_with_len 0 n)) (sum_twos short 0 n ∙ (λ t. sum_by short (range_with_len (none t) (sym e t))))
    where
      none : 2 * 0 ≡ 0
      none = refl

-- ---- along a side
-- a walk by steps of one kind begins its first n steps at the cells of a region
record IsAlong (g : Walk) (n : ℕ) (dx dz : ℤ) (r : Region) (place : ℤ → ℤ → ℕ) : Type 0 where
  column : (u : ℕ) → (g (u + 1)).0 ≡ (g u).0 +ℤ dx
  row : (u : ℕ) → (g (u + 1)).1 ≡ (g u).1 +ℤ dz
  there : (u : ℕ) → u < n → Lies r (g u).0 (g u).1
  own : (u : ℕ) → u < n → u ≡ place (g u).0 (g u).1
  low : (x z : ℤ) → Lies r x z → place x z < n
  at_column : (x z : ℤ) → Lies r x z → (g (place x z)).0 ≡ x
  at_row : (x z : ℤ) → Lies r x z → (g (place x z)).1 ≡ z

chosen : (s r : Bool) → one_if (s && r) ≡ cond s (cond r 1 0) 0
chosen true r = refl
chosen false r = refl

four : (x y z w : Bool) → ((x && y) && (z && w)) ≡ true → (x ≡ true) × (y ≡ true) × (z ≡ true) × (w ≡ true)
four x y z w e =
    let both : ((x && y) ≡ true) × ((z && w) ≡ true) = and_parts (x && y) (z && w) e in
    let first : (x ≡ true) × (y ≡ true) = and_parts x y both.0 in
    let second : (z ≡ true) × (w ≡ true) = and_parts z w both.1 in
    (first.0, first.1, second.0, second.1)

four_from : (x y z w : Bool) → x ≡ true → y ≡ true → z ≡ true → w ≡ true → ((x && y) && (z && w)) ≡ true
four_from x y z w ex ey ez ew = and_from (x && y) (z && w) (and_from x y ex ey) (and_from z w ez ew)

steps_along : (g : Walk) (n : ℕ) (dx dz : ℤ) (r : Region) (place : ℤ → ℤ → ℕ) → IsAlong g n dx dz r place → (p q : Spot) → steps g n p q ≡ by_step dx dz (has_cell_at r) p q
unfolding steps has_cell_at
steps_along g n dx dz r place along Nowhere q = sum_none (range_with_len 0 n)
steps_along g n dx dz r place along (At x z) Nowhere =
    (λ t. sum_by (λ u. one_if (and_right (is_at (At x z) (g u).0 (g u).1) false refl t)) (range_with_len 0 n)) ∙ sum_none (range_with_len 0 n)
steps_along g n dx dz r place along (At x z) (At x' z') =
    pick (leads g (At x z) (At x' z')) n (place x z) ((int_eq x' (x +ℤ dx) && int_eq z' (z +ℤ dz)) && contains r x z) only found
    ∙ chosen (int_eq x' (x +ℤ dx) && int_eq z' (z +ℤ dz)) (contains r x z)
  where
    only : (u : ℕ) → u < n → leads g (At x z) (At x' z') u ≡ true → (((int_eq x' (x +ℤ dx) && int_eq z' (z +ℤ dz)) && contains r x z) ≡ true) × (u ≡ place x z)
    only u below passes =
        let all = four (int_eq (g u).0 x) (int_eq (g u).1 z) (int_eq (g (u + 1)).0 x') (int_eq (g (u + 1)).1 z') passes in
        let e0 : (g u).0 ≡ x = same_from (g u).0 x all.0 in
        let e1 : (g u).1 ≡ z = same_from (g u).1 z all.1 in
        let e2 : (g (u + 1)).0 ≡ x' = same_from (g (u + 1)).0 x' all.2 in
        let e3 : (g (u + 1)).1 ≡ z' = same_from (g (u + 1)).1 z' all.3 in
        let sx : x' ≡ x +ℤ dx = sym e2 ∙ along.column u ∙ ap (λ i. i +ℤ dx) e0 in
        let sz : z' ≡ z +ℤ dz = sym e3 ∙ along.row u ∙ ap (λ j. j +ℤ dz) e1 in
        let inside : contains r x z ≡ true = sym (λ t. contains r (e0 t) (e1 t)) ∙ lying r (g u).0 (g u).1 (along.there u below) in (
          and_from (int_eq x' (x +ℤ dx) && int_eq z' (z +ℤ dz)) (contains r x z) (and_from (int_eq x' (x +ℤ dx)) (int_eq z' (z +ℤ dz)) (same_int x' (x +ℤ dx) sx) (same_int z' (z +ℤ dz) sz)) inside,
          along.own u below ∙ (λ t. place (e0 t) (e1 t)),
        )

    found : ((int_eq x' (x +ℤ dx) && int_eq z' (z +ℤ dz)) && contains r x z) ≡ true → (place x z < n) × (leads g (At x z) (At x' z') (place x z) ≡ true)
    found e =
        let both : ((int_eq x' (x +ℤ dx) && int_eq z' (z +ℤ dz)) ≡ true) × (contains r x z ≡ true) = and_parts (int_eq x' (x +ℤ dx) && int_eq z' (z +ℤ dz)) (contains r x z) e in
        let step : (int_eq x' (x +ℤ dx) ≡ true) × (int_eq z' (z +ℤ dz) ≡ true) = and_parts (int_eq x' (x +ℤ dx)) (int_eq z' (z +ℤ dz)) both.0 in
        let l : Lies r x z = lies r x z both.1 in
        let u = place x z in
        let e0 : (g u).0 ≡ x = along.at_column x z l in
        let e1 : (g u).1 ≡ z = along.at_row x z l in
        let e2 : (g (u + 1)).0 ≡ x' = along.column u ∙ ap (λ i. i +ℤ dx) e0 ∙ sym (same_from x' (x +ℤ dx) step.0) in
        let e3 : (g (u + 1)).1 ≡ z' = along.row u ∙ ap (λ j. j +ℤ dz) e1 ∙ sym (same_from z' (z +ℤ dz) step.1) in
        (along.low x z l, four_from (int_eq (g u).0 x) (int_eq (g u).1 z) (int_eq (g (u + 1)).0 x') (int_eq (g (u + 1)).1 z') (same_int (g u).0 x e0) (same_int (g u).1 z e1) (same_int (g (u + 1)).0 x' e2) (same_int (g (u + 1)).1 z' e3))

-- the walks along the four sides of a region
abbrev pub north_walk : Region → Walk
north_walk r u = (r.x0 +ℤ pos u, r.y0)

abbrev pub east_walk : Region → Walk
east_walk r u = (r.x1, r.y0 +ℤ pos u)

abbrev pub south_walk : Region → Walk
south_walk r u = (r.x1 -ℤ pos u, r.y1)

abbrev pub west_walk : Region → Walk
west_walk r u = (r.x0, r.y1 -ℤ pos u)

pub north_side : (r : Region) (p q : Spot) → steps (north_walk r) (int_gap r.x0 r.x1) p q ≡ by_step (pos 1) (pos 0) (has_cell_at (north_steps r)) p q
unfolding north_steps
north_side r p q = let w = gap_by r.x0 r.x1 in
    steps_along (north_walk r) (int_gap r.x0 r.x1) (pos 1) (pos 0) (north_steps r) (λ x z. int_gap r.x0 x) (record {
      column = λ u. omega (arith, ints);
      row = λ u. omega (arith, ints);
      there = λ u low. record { west = omega (arith, ints); east = omega (arith, ints, w, low); north = omega (arith, ints); south = omega (arith, ints) };
      own = λ u low. let g = gap_by r.x0 (r.x0 +ℤ pos u) in omega (arith, ints, g);
      low = λ x z l. let g = gap_by r.x0 x in let a = l.west in let b = l.east in omega (arith, ints, g, w, a, b);
      at_column = λ x z l. let g = gap_by r.x0 x in let a = l.west in omega (arith, ints, g, a);
      at_row = λ x z l. let a = l.north in let b = l.south in omega (arith, ints, a, b);
    }) p q

pub east_side : (r : Region) (p q : Spot) → steps (east_walk r) (int_gap r.y0 r.y1) p q ≡ by_step (pos 0) (pos 1) (has_cell_at (east_steps r)) p q
unfolding east_steps
east_side r p q = let w = gap_by r.y0 r.y1 in
    steps_along (east_walk r) (int_gap r.y0 r.y1) (pos 0) (pos 1) (east_steps r) (λ x z. int_gap r.y0 z) (record {
      column = λ u. omega (arith, ints);
      row = λ u. omega (arith, ints);
      there = λ u low. record { west = omega (arith, ints); east = omega (arith, ints); north = omega (arith, ints); south = omega (arith, ints, w, low) };
      own = λ u low. let g = gap_by r.y0 (r.y0 +ℤ pos u) in omega (arith, ints, g);
      low = λ x z l. let g = gap_by r.y0 z in let a = l.north in let b = l.south in omega (arith, ints, g, w, a, b);
      at_column = λ x z l. let a = l.west in let b = l.east in omega (arith, ints, a, b);
      at_row = λ x z l. let g = gap_by r.y0 z in let a = l.north in omega (arith, ints, g, a);
    }) p q

pub south_side : (r : Region) (p q : Spot) → steps (south_walk r) (int_gap r.x0 r.x1) p q ≡ by_step (negsuc 0) (pos 0) (has_cell_at (south_steps r)) p q
unfolding south_steps
south_side r p q = let w = gap_by r.x0 r.x1 in
    steps_along (south_walk r) (int_gap r.x0 r.x1) (negsuc 0) (pos 0) (south_steps r) (λ x z. int_gap x r.x1) (record {
      column = λ u. omega (arith, ints);
      row = λ u. omega (arith, ints);
      there = λ u low. record { west = omega (arith, ints, w, low); east = omega (arith, ints); north = omega (arith, ints); south = omega (arith, ints) };
      own = λ u low. let g = gap_by (r.x1 -ℤ pos u) r.x1 in omega (arith, ints, g);
      low = λ x z l. let g = gap_by x r.x1 in let a = l.west in let b = l.east in omega (arith, ints, g, w, a, b);
      at_column = λ x z l. let g = gap_by x r.x1 in let a = l.east in omega (arith, ints, g, a);
      at_row = λ x z l. let a = l.north in let b = l.south in omega (arith, ints, a, b);
    }) p q

pub west_side : (r : Region) (p q : Spot) → steps (west_walk r) (int_gap r.y0 r.y1) p q ≡ by_step (pos 0) (negsuc 0) (has_cell_at (west_steps r)) p q
unfolding west_steps
west_side r p q = let w = gap_by r.y0 r.y1 in
    steps_along (west_walk r) (int_gap r.y0 r.y1) (pos 0) (negsuc 0) (west_steps r) (λ x z. int_gap z r.y1) (record {
      column = λ u. omega (arith, ints);
      row = λ u. omega (arith, ints);
      there = λ u low. record { west = omega (arith, ints); east = omega (arith, ints); north = omega (arith, ints, w, low); south = omega (arith, ints) };
      own = λ u low. let g = gap_by (r.y1 -ℤ pos u) r.y1 in omega (arith, ints, g);
      low = λ x z l. let g = gap_by z r.y1 in let a = l.north in let b = l.south in omega (arith, ints, g, w, a, b);
      at_column = λ x z l. let a = l.west in let b = l.east in omega (arith, ints, a, b);
      at_row = λ x z l. let g = gap_by z r.y1 in let a = l.south in omega (arith, ints, g, a);
    }) p q
