-- The windows of the levels, one after another, and that all of them can be filled.
use Rattle.std.proofs.Common.{◌≡◌, ℕ, suc, ◌+◌, ◌-◌, ◌<◌, ◌≤◌, List, take, [], ◌∷◌, ◌++◌, ℤ, pos, ◌+ℤ◌, ◌-ℤ◌, ◌≤ℤ◌, map, length, replicate, get_or, ap, sym, subst, inr, ◌∙◌, append_assoc, arith}
use Rattle.std.specs.List.{range_with_len}
use Rattle.std.specs.Int.Signed.{≤ℤ_refl}
use Rattle.std.proofs.lemmas.Int.{ints}
use Rattle.std.proofs.Math.ListN.{set}
use Rattle.std.proofs.Math.Seq.{set-append_seam, take-append_seam}
use Rattle.std.proofs.lemmas.List.FromFn.{map-range_with_len_more, length-map-range_with_len, get_or-map-range_with_len}
use Rattle.clip_regions.specs.declared.region.Region.{Region}
use Rattle.clip_regions.specs.Regions.{empty_region}
use Rattle.plan_model.specs.Limits.{IsViewed}
use Rattle.plan_model.specs.Window.{window, center, half_width}
use Rattle.plan_model.specs.Laws.{EvenWindows}
use Rattle.plan_model.specs.Sound.{IsInside, IsShown}
use Rattle.active_region.specs.Active.{AreFilled}
use Rattle.grid_frames.specs.Whole.{whole_windows}

count_of : (f : ℕ → Region) (n : ℕ) → length (map f (range_with_len 0 n)) ≡ n
count_of f n = length-map-range_with_len f 0 n

one_more : (f : ℕ → Region) (n m : ℕ) (e : Region) → set (map f (range_with_len 0 n) ++ replicate (suc m) e) n (f n) ≡ map f (range_with_len 0 (n + 1)) ++ replicate m e
one_more f n m e =
    ap (λ i. set (map f (range_with_len 0 n) ++ e ∷ replicate m e) i (f n)) (sym (count_of f n))
    ∙ set-append_seam (map f (range_with_len 0 n)) e (replicate m e) (f n)
    ∙ sym (append_assoc (map f (range_with_len 0 n)) (f n ∷ []) (replicate m e))
    ∙ ap (λ xs. xs ++ replicate m e) (sym (map-range_with_len_more f 0 n n (omega arith)))

pub next_window : (k level : ℕ) (x y : ℤ) (now : List Region) (w : Region) → level < 12 → now ≡ whole_windows k level x y ++ replicate (12 - level) empty_region → w ≡ window k level x y →
    set now level w ≡ whole_windows k (level + 1) x y ++ replicate (12 - (level + 1)) empty_region
unfolding whole_windows
next_window k level x y now w few so_far is =
    let left : 12 - level ≡ suc (12 - (level + 1)) = omega arith in
    (λ t. set (so_far t) level (is t))
    ∙ ap (λ n. set (whole_windows k level x y ++ replicate n empty_region) level (window k level x y)) left
    ∙ one_more (λ l. window k l x y) level (12 - (level + 1)) empty_region

pub first_windows : (k : ℕ) (x y : ℤ) (now : List Region) (r : Region) → now ≡ replicate 12 r → r ≡ empty_region → now ≡ whole_windows k 0 x y ++ replicate 12 empty_region
unfolding whole_windows
first_windows k x y now r filled is = filled ∙ ap (λ q. replicate 12 q) is

-- the windows alone
pub windows_alone : (k levels n : ℕ) (x y : ℤ) (twelve : List Region) → n ≡ levels → twelve ≡ whole_windows k levels x y ++ replicate (12 - levels) empty_region →
    take n twelve ≡ whole_windows k levels x y
unfolding whole_windows
windows_alone k levels n x y twelve en et =
    let windows = map (λ l. window k l x y) (range_with_len 0 levels) in
    (λ t. take ((en ∙ sym (count_of (λ l. window k l x y) levels)) t) (et t)) ∙ take-append_seam windows (replicate (12 - levels) empty_region)

pub windows_many : (k levels : ℕ) (x y : ℤ) → length (whole_windows k levels x y) ≡ levels
unfolding whole_windows
windows_many k levels x y = count_of (λ l. window k l x y) levels

around : (c : ℤ) (h : ℕ) → (c -ℤ pos h) ≤ℤ (c +ℤ pos h)
around c h = omega (arith, ints)

-- a window lies in itself
pub itself : (k level : ℕ) (x y : ℤ) → IsInside (window k level x y) (window k level x y)
unfolding window
itself k level x y =
    let column = center level x in
    let row = center level y in
    let h = half_width k in
    record {
      west = ≤ℤ_refl (column -ℤ pos h);
      columns = around column h;
      east = ≤ℤ_refl (column +ℤ pos h);
      north = ≤ℤ_refl (row -ℤ pos h);
      rows = around row h;
      south = ≤ℤ_refl (row +ℤ pos h);
    }

-- each of them can be filled
pub windows_filled : (k levels : ℕ) (x y : ℤ) → 2 ≤ k → IsViewed x → IsViewed y → EvenWindows → AreFilled k (whole_windows k levels x y)
unfolding whole_windows
windows_filled k levels x y size column row even = λ level low.
    let w = window k level x y in
    let is : get_or (map (λ l. window k l x y) (range_with_len 0 levels)) level empty_region ≡ w =
    get_or-map-range_with_len (λ l. window k l x y) 0 levels level level empty_region (subst (λ (n : ℕ). level < n) (count_of (λ l. window k l x y) levels) low) (omega arith) in
    inr (subst (IsShown k level) (sym is) (record { x = x; y = y; column = column; row = row; part = inr (record { inside = itself k level x y; even = even k level x y size }) }))
