-- A test that picks one number between two ends, or one cell of a region.
use Rattle.std.proofs.Common.{◌≡◌, ℕ, ◌<◌, Bool, true, false, ◌&&◌, List, ℤ, pos, ◌+ℤ◌, ◌≤ℤ◌, map, refl, ap, sym, ◌∙◌, arith}
use Rattle.std.specs.List.{sum_by, range_with_len}
use Rattle.std.specs.Int.{int_gap}
use Rattle.std.specs.Ordering.{int_eq}
use Rattle.std.proofs.lemmas.Int.{ints}
use Rattle.std.proofs.lemmas.Bool.{and_parts, and_from}
use Rattle.std.proofs.lemmas.Bool.Decides.{Decides-int_eq}
use lib.Signed.{le_z}
use Rattle.clip_regions.specs.declared.region.Region.{Region}
use Rattle.clip_regions.specs.Regions.{contains, columns, rows, cells, numbers_from}
use Rattle.watertight_laws.proofs.Sums.{one_if, sum_map, sum_flat_map, pick}
use Rattle.clip_regions.proofs.Gaps.{gap_by}
use Rattle.clip_regions.proofs.Cells.{le_tested, tested_le}

pub same_from : (x y : ℤ) → int_eq x y ≡ true → x ≡ y
same_from x y e = (Decides-int_eq x y).0 e

pub same_int : (x y : ℤ) → x ≡ y → int_eq x y ≡ true
same_int x y e = (Decides-int_eq x y).1 e

-- the numbers between two ends, with one that is picked where s is true
pub pick_between : (t : ℤ → Bool) (s : Bool) (a b x : ℤ) → ((i : ℤ) → t i ≡ (s && int_eq i x)) →
    sum_by (λ i. one_if (t i)) (numbers_from a (int_gap a (b +ℤ pos 1))) ≡ one_if (s && (le_z a x && le_z x b))
pick_between t s a b x is =
    sum_map (λ i. one_if (t i)) (λ u. a +ℤ pos u) (range_with_len 0 (int_gap a (b +ℤ pos 1)))
    ∙ pick (λ u. t (a +ℤ pos u)) (int_gap a (b +ℤ pos 1)) (int_gap a x) (s && (le_z a x && le_z x b)) only there
  where
    only : (u : ℕ) → u < int_gap a (b +ℤ pos 1) → t (a +ℤ pos u) ≡ true → ((s && (le_z a x && le_z x b)) ≡ true) × (u ≡ int_gap a x)
    only u low passes =
        let both : (s ≡ true) × (int_eq (a +ℤ pos u) x ≡ true) = and_parts s (int_eq (a +ℤ pos u) x) (sym (is (a +ℤ pos u)) ∙ passes) in
        let e : a +ℤ pos u ≡ x = same_from (a +ℤ pos u) x both.1 in
        let whole = gap_by a (b +ℤ pos 1) in
        let part = gap_by a x in
        let from : a ≤ℤ x = omega (arith, ints, e) in
        let to : x ≤ℤ b = omega (arith, ints, e, low, whole) in
        (and_from s (le_z a x && le_z x b) both.0 (and_from (le_z a x) (le_z x b) (le_tested a x from) (le_tested x b to)), omega (arith, ints, e, part))

    there : (s && (le_z a x && le_z x b)) ≡ true → (int_gap a x < int_gap a (b +ℤ pos 1)) × (t (a +ℤ pos (int_gap a x)) ≡ true)
    there r =
        let both : (s ≡ true) × ((le_z a x && le_z x b) ≡ true) = and_parts s (le_z a x && le_z x b) r in
        let ends : (le_z a x ≡ true) × (le_z x b ≡ true) = and_parts (le_z a x) (le_z x b) both.1 in
        let from : a ≤ℤ x = tested_le a x ends.0 in
        let to : x ≤ℤ b = tested_le x b ends.1 in
        let whole = gap_by a (b +ℤ pos 1) in
        let part = gap_by a x in
        let e : a +ℤ pos (int_gap a x) ≡ x = omega (arith, ints, from, part) in
        (omega (arith, ints, from, to, whole, part), is (a +ℤ pos (int_gap a x)) ∙ and_from s (int_eq (a +ℤ pos (int_gap a x)) x) both.0 (same_int (a +ℤ pos (int_gap a x)) x e))

regroup : (s x z : Bool) → (s && (x && z)) ≡ ((s && z) && x)
regroup false x z = refl
regroup true true true = refl
regroup true true false = refl
regroup true false true = refl
regroup true false false = refl

split : (s x z : Bool) → ((s && z) && x) ≡ ((s && x) && z)
split false x z = refl
split true true true = refl
split true true false = refl
split true false true = refl
split true false false = refl

joined : (s x z : Bool) → ((s && x) && z) ≡ (s && (x && z))
joined false x z = refl
joined true x z = refl

pub pick_cell : (t : ℤ × ℤ → Bool) (s : Bool) (r : Region) (x z : ℤ) → ((i j : ℤ) → t (i, j) ≡ (s && (int_eq i x && int_eq j z))) →
    sum_by (λ cell. one_if (t cell)) (cells r) ≡ one_if (s && contains r x z)
unfolding contains columns rows
pick_cell t s r x z is =
    sum_flat_map (λ cell. one_if (t cell)) (λ j. map (λ i. (i, j)) is') js
    ∙ (λ k. sum_by (λ j. row j k) js)
    ∙ pick_between (λ j. (s && int_eq j z) && (le_z r.x0 x && le_z x r.x1)) (s && (le_z r.x0 x && le_z x r.x1)) r.y0 r.y1 z (λ j. split s (le_z r.x0 x && le_z x r.x1) (int_eq j z))
    ∙ ap one_if (joined s (le_z r.x0 x && le_z x r.x1) (le_z r.y0 z && le_z z r.y1))
  where
    is' : List ℤ
    is' = numbers_from r.x0 (columns r)

    js : List ℤ
    js = numbers_from r.y0 (rows r)

    row : (j : ℤ) → sum_by (λ cell. one_if (t cell)) (map (λ i. (i, j)) is') ≡ one_if ((s && int_eq j z) && (le_z r.x0 x && le_z x r.x1))
    row j =
        sum_map (λ cell. one_if (t cell)) (λ i. (i, j)) is'
        ∙ pick_between (λ i. t (i, j)) (s && int_eq j z) r.x0 r.x1 x (λ i. is i j ∙ regroup s (int_eq i x) (int_eq j z))
