-- The rows of a block's predictions are those of the definition.
use Rattle.std.proofs.Common.{◌≡◌, ℕ, ℤ, pos, ◌<◌, ◌+ℤ◌, ◌-ℤ◌, ◌*ℤ◌, List, [], ◌∷◌, get_or, sym, ap, ◌∙◌, refl, arith}
use Rattle.std.proofs.lemmas.Int.{ints}
use Rattle.std.proofs.lemmas.List.FromFn.{get_or-map-range_with_len}
use mathlib.Core.Path.{ap₂}
use Rattle.clip_regions.specs.FloorDivision.{floor_div, floor_rem}
use Rattle.clip_regions.proofs.Quotients.{rem_below, quotient_and_rest}
use Rattle.four_point.specs.Prediction.{weighted, row_sum, column_sum, square_sum, prediction}
use Rattle.four_point.specs.Patches.{table_height, patch_height}
use Rattle.four_point.specs.Blocks.{IsLineOf, over_16, over_256, even_cells, middle_cells, row_predictions, ArePredictions}
use Rattle.four_point.specs.declared.patch.Patch.{Patch}
use Rattle.four_point.specs.declared.block.Line.{Line}
use Rattle.four_point.proofs.LawLemmas.{even_rem, even_div}
use Rattle.four_point.proofs.PredictionLemmas.{even_even, odd_even, even_odd, odd_odd}
use Rattle.four_point.proofs.BlockLemmas.{eight_same}

-- ---- one cell
odd_div : (a : ℤ) → floor_div (pos 2 *ℤ a +ℤ pos 1) 2 ≡ a
odd_div a =
    let below : floor_rem (pos 2 *ℤ a +ℤ pos 1) 2 < 2 = rem_below (pos 2 *ℤ a +ℤ pos 1) 2 (omega arith) in
    let whole = quotient_and_rest (pos 2 *ℤ a +ℤ pos 1) 2 (omega arith) in
    omega (arith, ints, below, whole)

odd_rem : (a : ℤ) → floor_rem (pos 2 *ℤ a +ℤ pos 1) 2 ≡ 1
odd_rem a =
    let below : floor_rem (pos 2 *ℤ a +ℤ pos 1) 2 < 2 = rem_below (pos 2 *ℤ a +ℤ pos 1) 2 (omega arith) in
    let whole = quotient_and_rest (pos 2 *ℤ a +ℤ pos 1) 2 (omega arith) in
    omega (arith, ints, below, whole)

height_cell : (C : ℤ → ℤ → ℤ) (i j a b x : ℤ) → i ≡ pos 2 *ℤ a → j ≡ pos 2 *ℤ b → x ≡ C a b → x ≡ prediction C i j
height_cell C i j a b x e f h =
    even_even C i j a b x (ap (λ (z : ℤ). floor_rem z 2) e ∙ even_rem a) (ap (λ (z : ℤ). floor_rem z 2) f ∙ even_rem b) (sym (ap (λ (z : ℤ). floor_div z 2) e ∙ even_div a)) (sym (ap (λ (z : ℤ). floor_div z 2) f ∙ even_div b)) h

row_cell : (C : ℤ → ℤ → ℤ) (i j a b sum : ℤ) → i ≡ pos 2 *ℤ a +ℤ pos 1 → j ≡ pos 2 *ℤ b → sum ≡ row_sum C a b → over_16 sum ≡ prediction C i j
row_cell C i j a b sum e f h =
    odd_even C i j a b sum (over_16 sum) (ap (λ (z : ℤ). floor_rem z 2) e ∙ odd_rem a) (ap (λ (z : ℤ). floor_rem z 2) f ∙ even_rem b) (sym (ap (λ (z : ℤ). floor_div z 2) e ∙ odd_div a)) (sym (ap (λ (z : ℤ). floor_div z 2) f ∙ even_div b)) h refl

column_cell : (C : ℤ → ℤ → ℤ) (i j a b sum : ℤ) → i ≡ pos 2 *ℤ a → j ≡ pos 2 *ℤ b +ℤ pos 1 → sum ≡ column_sum C a b → over_16 sum ≡ prediction C i j
column_cell C i j a b sum e f h =
    even_odd C i j a b sum (over_16 sum) (ap (λ (z : ℤ). floor_rem z 2) e ∙ even_rem a) (ap (λ (z : ℤ). floor_rem z 2) f ∙ odd_rem b) (sym (ap (λ (z : ℤ). floor_div z 2) e ∙ even_div a)) (sym (ap (λ (z : ℤ). floor_div z 2) f ∙ odd_div b)) h refl

square_cell : (C : ℤ → ℤ → ℤ) (i j a b sum : ℤ) → i ≡ pos 2 *ℤ a +ℤ pos 1 → j ≡ pos 2 *ℤ b +ℤ pos 1 → sum ≡ square_sum C a b → over_256 sum ≡ prediction C i j
square_cell C i j a b sum e f h =
    odd_odd C i j a b sum (over_256 sum) (ap (λ (z : ℤ). floor_rem z 2) e ∙ odd_rem a) (ap (λ (z : ℤ). floor_rem z 2) f ∙ odd_rem b) (sym (ap (λ (z : ℤ). floor_div z 2) e ∙ odd_div a)) (sym (ap (λ (z : ℤ). floor_div z 2) f ∙ odd_div b)) h refl

-- ---- rows of a patch as rows of heights
patch_at : (patch : Patch) (a b : ℕ) → get_or (get_or patch.h b []) a (pos 0) ≡ patch_height patch (patch.i0 +ℤ pos a) (patch.j0 +ℤ pos b)
unfolding patch_height table_height
patch_at patch a b =
    let across : (patch.i0 +ℤ pos a) -ℤ patch.i0 ≡ pos a = omega (arith, ints) in
    let down : (patch.j0 +ℤ pos b) -ℤ patch.j0 ≡ pos b = omega (arith, ints) in
    sym (ap₂ (table_height patch.h) across down)

-- the heights and the sums of a line are those of row y, in the columns i0 + 1 to i0 + 4
pub record IsLineAt (C : ℤ → ℤ → ℤ) (i0 y : ℤ) (line : Line) : Type 0 where
  pub height_p : line.heights.p ≡ C (i0 +ℤ pos 1) y
  pub height_q : line.heights.q ≡ C (i0 +ℤ pos 2) y
  pub height_r : line.heights.r ≡ C (i0 +ℤ pos 3) y
  pub height_s : line.heights.s ≡ C (i0 +ℤ pos 4) y
  pub sum_p : line.sums.p ≡ row_sum C (i0 +ℤ pos 1) y
  pub sum_q : line.sums.q ≡ row_sum C (i0 +ℤ pos 2) y
  pub sum_r : line.sums.r ≡ row_sum C (i0 +ℤ pos 3) y
  pub sum_s : line.sums.s ≡ row_sum C (i0 +ℤ pos 4) y

sum_at : (C : ℤ → ℤ → ℤ) (a0 a1 a2 a3 a y p q r s total : ℤ) → a0 ≡ a -ℤ pos 1 → a1 ≡ a → a2 ≡ a +ℤ pos 1 → a3 ≡ a +ℤ pos 2 → p ≡ C a0 y → q ≡ C a1 y → r ≡ C a2 y → s ≡ C a3 y → total ≡ weighted p q r s → total ≡ row_sum C a y
unfolding row_sum
sum_at C a0 a1 a2 a3 a y p q r s total e0 e1 e2 e3 hp hq hr hs e = cc

pub line_at : (patch : Patch) (b : ℕ) (line : Line) → IsLineOf (get_or patch.h b []) line → IsLineAt (patch_height patch) patch.i0 (patch.j0 +ℤ pos b) line
line_at patch b line l =
    let C = patch_height patch in
    let x = patch.i0 in
    let y = patch.j0 +ℤ pos b in
    let h0 = patch_at patch 0 b in
    let h1 = patch_at patch 1 b in
    let h2 = patch_at patch 2 b in
    let h3 = patch_at patch 3 b in
    let h4 = patch_at patch 4 b in
    let h5 = patch_at patch 5 b in
    let h6 = patch_at patch 6 b in
    record {
      height_p = l.heights.p ∙ h1;
      height_q = l.heights.q ∙ h2;
      height_r = l.heights.r ∙ h3;
      height_s = l.heights.s ∙ h4;
      sum_p = sum_at C (x +ℤ pos 0) (x +ℤ pos 1) (x +ℤ pos 2) (x +ℤ pos 3) (x +ℤ pos 1) y _ _ _ _ line.sums.p (omega (arith, ints)) refl (omega (arith, ints)) (omega (arith, ints)) h0 h1 h2 h3 l.sums.p;
      sum_q = sum_at C (x +ℤ pos 1) (x +ℤ pos 2) (x +ℤ pos 3) (x +ℤ pos 4) (x +ℤ pos 2) y _ _ _ _ line.sums.q (omega (arith, ints)) refl (omega (arith, ints)) (omega (arith, ints)) h1 h2 h3 h4 l.sums.q;
      sum_r = sum_at C (x +ℤ pos 2) (x +ℤ pos 3) (x +ℤ pos 4) (x +ℤ pos 5) (x +ℤ pos 3) y _ _ _ _ line.sums.r (omega (arith, ints)) refl (omega (arith, ints)) (omega (arith, ints)) h2 h3 h4 h5 l.sums.r;
      sum_s = sum_at C (x +ℤ pos 3) (x +ℤ pos 4) (x +ℤ pos 5) (x +ℤ pos 6) (x +ℤ pos 4) y _ _ _ _ line.sums.s (omega (arith, ints)) refl (omega (arith, ints)) (omega (arith, ints)) h3 h4 h5 h6 l.sums.s;
    }

-- ---- rows of cells
pub even_is : (C : ℤ → ℤ → ℤ) (i0 j y : ℤ) (line : Line) → j ≡ pos 2 *ℤ y → IsLineAt C i0 y line → even_cells line ≡ row_predictions C (pos 2 *ℤ i0 +ℤ pos 2) j
even_is C i0 j y line e l =
    let x = pos 2 *ℤ i0 +ℤ pos 2 in
    eight_same _ _ _ _ _ _ _ _ _ _ _ _ _ _ _ _
    (height_cell C (x +ℤ pos 0) j (i0 +ℤ pos 1) y line.heights.p (omega (arith, ints)) e l.height_p)
    (row_cell C (x +ℤ pos 1) j (i0 +ℤ pos 1) y line.sums.p (omega (arith, ints)) e l.sum_p)
    (height_cell C (x +ℤ pos 2) j (i0 +ℤ pos 2) y line.heights.q (omega (arith, ints)) e l.height_q)
    (row_cell C (x +ℤ pos 3) j (i0 +ℤ pos 2) y line.sums.q (omega (arith, ints)) e l.sum_q)
    (height_cell C (x +ℤ pos 4) j (i0 +ℤ pos 3) y line.heights.r (omega (arith, ints)) e l.height_r)
    (row_cell C (x +ℤ pos 5) j (i0 +ℤ pos 3) y line.sums.r (omega (arith, ints)) e l.sum_r)
    (height_cell C (x +ℤ pos 6) j (i0 +ℤ pos 4) y line.heights.s (omega (arith, ints)) e l.height_s)
    (row_cell C (x +ℤ pos 7) j (i0 +ℤ pos 4) y line.sums.s (omega (arith, ints)) e l.sum_s)

down_at : (C : ℤ → ℤ → ℤ) (a y y0 y2 y3 p q r s : ℤ) → y0 ≡ y -ℤ pos 1 → y2 ≡ y +ℤ pos 1 → y3 ≡ y +ℤ pos 2 → p ≡ C a y0 → q ≡ C a y → r ≡ C a y2 → s ≡ C a y3 → weighted p q r s ≡ column_sum C a y
unfolding column_sum
down_at C a y y0 y2 y3 p q r s e0 e2 e3 hp hq hr hs = cc

round_at : (C : ℤ → ℤ → ℤ) (a y y0 y2 y3 p q r s : ℤ) → y0 ≡ y -ℤ pos 1 → y2 ≡ y +ℤ pos 1 → y3 ≡ y +ℤ pos 2 → p ≡ row_sum C a y0 → q ≡ row_sum C a y → r ≡ row_sum C a y2 → s ≡ row_sum C a y3 → weighted p q r s ≡ square_sum C a y
unfolding square_sum
round_at C a y y0 y2 y3 p q r s e0 e2 e3 hp hq hr hs = cc

pub middle_is : (C : ℤ → ℤ → ℤ) (i0 j y y0 y2 y3 : ℤ) (a b c d : Line) → j ≡ pos 2 *ℤ y +ℤ pos 1 → y0 ≡ y -ℤ pos 1 → y2 ≡ y +ℤ pos 1 → y3 ≡ y +ℤ pos 2 → IsLineAt C i0 y0 a → IsLineAt C i0 y b → IsLineAt C i0 y2 c → IsLineAt C i0 y3 d → middle_cells a b c d ≡ row_predictions C (pos 2 *ℤ i0 +ℤ pos 2) j
middle_is C i0 j y y0 y2 y3 a b c d e e0 e2 e3 la lb lc ld =
    let x = pos 2 *ℤ i0 +ℤ pos 2 in
    eight_same _ _ _ _ _ _ _ _ _ _ _ _ _ _ _ _
    (column_cell C (x +ℤ pos 0) j (i0 +ℤ pos 1) y _ (omega (arith, ints)) e (down_at C (i0 +ℤ pos 1) y y0 y2 y3 _ _ _ _ e0 e2 e3 la.height_p lb.height_p lc.height_p ld.height_p))
    (square_cell C (x +ℤ pos 1) j (i0 +ℤ pos 1) y _ (omega (arith, ints)) e (round_at C (i0 +ℤ pos 1) y y0 y2 y3 _ _ _ _ e0 e2 e3 la.sum_p lb.sum_p lc.sum_p ld.sum_p))
    (column_cell C (x +ℤ pos 2) j (i0 +ℤ pos 2) y _ (omega (arith, ints)) e (down_at C (i0 +ℤ pos 2) y y0 y2 y3 _ _ _ _ e0 e2 e3 la.height_q lb.height_q lc.height_q ld.height_q))
    (square_cell C (x +ℤ pos 3) j (i0 +ℤ pos 2) y _ (omega (arith, ints)) e (round_at C (i0 +ℤ pos 2) y y0 y2 y3 _ _ _ _ e0 e2 e3 la.sum_q lb.sum_q lc.sum_q ld.sum_q))
    (column_cell C (x +ℤ pos 4) j (i0 +ℤ pos 3) y _ (omega (arith, ints)) e (down_at C (i0 +ℤ pos 3) y y0 y2 y3 _ _ _ _ e0 e2 e3 la.height_r lb.height_r lc.height_r ld.height_r))
    (square_cell C (x +ℤ pos 5) j (i0 +ℤ pos 3) y _ (omega (arith, ints)) e (round_at C (i0 +ℤ pos 3) y y0 y2 y3 _ _ _ _ e0 e2 e3 la.sum_r lb.sum_r lc.sum_r ld.sum_r))
    (column_cell C (x +ℤ pos 6) j (i0 +ℤ pos 4) y _ (omega (arith, ints)) e (down_at C (i0 +ℤ pos 4) y y0 y2 y3 _ _ _ _ e0 e2 e3 la.height_s lb.height_s lc.height_s ld.height_s))
    (square_cell C (x +ℤ pos 7) j (i0 +ℤ pos 4) y _ (omega (arith, ints)) e (round_at C (i0 +ℤ pos 4) y y0 y2 y3 _ _ _ _ e0 e2 e3 la.sum_s lb.sum_s lc.sum_s ld.sum_s))

-- ---- all rows
rows_same : (p q r s t u v w p' q' r' s' t' u' v' w' : List ℤ) → p ≡ p' → q ≡ q' → r ≡ r' → s ≡ s' → t ≡ t' → u ≡ u' → v ≡ v' → w ≡ w' → ◌≡◌ {A = List (List ℤ)} (p ∷ q ∷ r ∷ s ∷ t ∷ u ∷ v ∷ w ∷ []) (p' ∷ q' ∷ r' ∷ s' ∷ t' ∷ u' ∷ v' ∷ w' ∷ [])
rows_same p q r s t u v w p' q' r' s' t' u' v' w' e f g h i j k l = cc

pub cells_are : (patch : Patch) (a b c d e f g : Line) (p q r s t u v w : List ℤ) → IsLineOf (get_or patch.h 0 []) a → IsLineOf (get_or patch.h 1 []) b → IsLineOf (get_or patch.h 2 []) c → IsLineOf (get_or patch.h 3 []) d → IsLineOf (get_or patch.h 4 []) e → IsLineOf (get_or patch.h 5 []) f → IsLineOf (get_or patch.h 6 []) g → p ≡ even_cells b → q ≡ middle_cells a b c d → r ≡ even_cells c → s ≡ middle_cells b c d e → t ≡ even_cells d → u ≡ middle_cells c d e f → v ≡ even_cells e → w ≡ middle_cells d e f g → ArePredictions patch (p ∷ q ∷ r ∷ s ∷ t ∷ u ∷ v ∷ w ∷ [])
cells_are patch a b c d e f g p q r s t u v w ha hb hc hd he hf hg ep eq er es et eu ev ew =
    let C = patch_height patch in
    let x = patch.i0 in
    let y = patch.j0 in
    let z = pos 2 *ℤ y +ℤ pos 2 in
    let la = line_at patch 0 a ha in
    let lb = line_at patch 1 b hb in
    let lc = line_at patch 2 c hc in
    let ld = line_at patch 3 d hd in
    let le = line_at patch 4 e he in
    let lf = line_at patch 5 f hf in
    let lg = line_at patch 6 g hg in
    rows_same _ _ _ _ _ _ _ _ _ _ _ _ _ _ _ _
    (ep ∙ even_is C x (z +ℤ pos 0) (y +ℤ pos 1) b (omega (arith, ints)) lb)
    (eq ∙ middle_is C x (z +ℤ pos 1) (y +ℤ pos 1) (y +ℤ pos 0) (y +ℤ pos 2) (y +ℤ pos 3) a b c d (omega (arith, ints)) (omega (arith, ints)) (omega (arith, ints)) (omega (arith, ints)) la lb lc ld)
    (er ∙ even_is C x (z +ℤ pos 2) (y +ℤ pos 2) c (omega (arith, ints)) lc)
    (es ∙ middle_is C x (z +ℤ pos 3) (y +ℤ pos 2) (y +ℤ pos 1) (y +ℤ pos 3) (y +ℤ pos 4) b c d e (omega (arith, ints)) (omega (arith, ints)) (omega (arith, ints)) (omega (arith, ints)) lb lc ld le)
    (et ∙ even_is C x (z +ℤ pos 4) (y +ℤ pos 3) d (omega (arith, ints)) ld)
    (eu ∙ middle_is C x (z +ℤ pos 5) (y +ℤ pos 3) (y +ℤ pos 2) (y +ℤ pos 4) (y +ℤ pos 5) c d e f (omega (arith, ints)) (omega (arith, ints)) (omega (arith, ints)) (omega (arith, ints)) lc ld le lf)
    (ev ∙ even_is C x (z +ℤ pos 6) (y +ℤ pos 4) e (omega (arith, ints)) le)
    (ew ∙ middle_is C x (z +ℤ pos 7) (y +ℤ pos 4) (y +ℤ pos 3) (y +ℤ pos 5) (y +ℤ pos 6) d e f g (omega (arith, ints)) (omega (arith, ints)) (omega (arith, ints)) (omega (arith, ints)) ld le lf lg)

-- the prediction of a cell by its place
pub cell_is : (patch : Patch) (rows : List (List ℤ)) (a b : ℕ) (i j : ℤ) → ArePredictions patch rows → a < 8 → b < 8 → i ≡ (pos 2 *ℤ patch.i0 +ℤ pos 2) +ℤ pos a → j ≡ (pos 2 *ℤ patch.j0 +ℤ pos 2) +ℤ pos b → get_or (get_or rows b []) a (pos 0) ≡ prediction (patch_height patch) i j
cell_is patch rows a b i j are la lb e f =
    let C = patch_height patch in
    let x = pos 2 *ℤ patch.i0 +ℤ pos 2 in
    let y = pos 2 *ℤ patch.j0 +ℤ pos 2 in
    ap (λ (rs : List (List ℤ)). get_or (get_or rs b []) a (pos 0)) are
    ∙ ap (λ (row : List ℤ). get_or row a (pos 0)) (get_or-map-range_with_len (λ (n : ℕ). row_predictions C x (y +ℤ pos n)) 0 8 b b [] lb (omega arith))
    ∙ get_or-map-range_with_len (λ (n : ℕ). prediction C (x +ℤ pos n) (y +ℤ pos b)) 0 8 a a (pos 0) la (omega arith)
    ∙ ap₂ (prediction C) (sym e) (sym f)
