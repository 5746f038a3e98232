-- Any list of as many numbers as a region has coded cells is that of the codes of its cells.
use Rattle.std.proofs.Common.{◌≡◌, Bool, true, false, cond, eqb, ℕ, zero, suc, ◌+◌, ◌<◌, ◌≤◌, ℤ, pos, negsuc, ◌+ℤ◌, ◌-ℤ◌, List, [], ◌∷◌, ◌++◌, length, take, drop, map, filter, refl, ap, ap₂, sym, ◌∙◌, subst, ⊎_elim, arith, eq-eqb, length-append, length-drop}
use Rattle.std.specs.List.{flat_map, range_with_len}
use Rattle.std.proofs.lemmas.Int.{ints}
use Rattle.std.proofs.lemmas.Bool.{cases_Bool, cases_eq, false≢true}
use Rattle.std.proofs.lemmas.Bool.Decides.{nat_tests}
use Rattle.std.proofs.lemmas.List.{take-append-drop, length-take-le}
use Rattle.clip_regions.specs.declared.region.Region.{Region}
use Rattle.clip_regions.specs.Regions.{columns, rows}
use Rattle.rice_residuals.specs.Word.{IsWordOf}
use Rattle.store_model.specs.Blocks.{is_coded, coded_values, code_count, IsCoding}
use Rattle.block_heights.specs.Rows.{coded_columns}
use Rattle.block_heights.proofs.CodedRows.{map_filter_same}
use Rattle.block_heights.proofs.Codings.{values_by_rows, count_is}

-- ---- one number put among others
pub put : {A : Type 0} → ℕ → A → (ℕ → A) → ℕ → A
put s x f a = cond (eqb a s) x (f a)

pub put_here : {A : Type 0} (s : ℕ) (x : A) (f : ℕ → A) → put s x f s ≡ x
unfolding put
put_here s x f = ap (λ (t : Bool). cond t x (f s)) (eq-eqb s s refl)

pub put_there : {A : Type 0} (s : ℕ) (x : A) (f : ℕ → A) (a : ℕ) → (a ≡ s → ⊥) → put s x f a ≡ f a
unfolding put
put_there s x f a other =
    let no : eqb a s ≡ false = grind (arith, nat_tests) in
    ap (λ (t : Bool). cond t x (f a)) no

-- ---- one row
record RowCodes (p : ℕ → Bool) (s n : ℕ) (xs : List ℤ) : Type 0 where
  code : ℕ → ℤ
  all : map code (filter p (range_with_len s n)) ≡ xs
  none : (a : ℕ) → p a ≡ false → code a ≡ pos 0

coded_first : (p : ℕ → Bool) (s n : ℕ) → p s ≡ true → filter p (range_with_len s (suc n)) ≡ s ∷ filter p (range_with_len (s + 1) n)
coded_first p s n h = ap (λ (t : Bool). cond t (s ∷ filter p (range_with_len (s + 1) n)) (filter p (range_with_len (s + 1) n))) h

even_first : (p : ℕ → Bool) (s n : ℕ) → p s ≡ false → filter p (range_with_len s (suc n)) ≡ filter p (range_with_len (s + 1) n)
even_first p s n h = ap (λ (t : Bool). cond t (s ∷ filter p (range_with_len (s + 1) n)) (filter p (range_with_len (s + 1) n))) h

one_coded : (p : ℕ → Bool) (s n : ℕ) (x : ℤ) (xs : List ℤ) → p s ≡ true → RowCodes p (s + 1) n xs → RowCodes p s (suc n) (x ∷ xs)
one_coded p s n x xs h r =
    let code = put s x r.code in
    record {
      code = code;
      all =
          ap (map code) (coded_first p s n h)
          ∙ ap₂ (λ (y : ℤ) (ys : List ℤ). y ∷ ys) (put_here s x r.code)
          (map_filter_same code r.code p (s + 1) n (λ k l m. put_there s x r.code k (λ e. omega arith)) ∙ r.all);
      none = λ a q. put_there s x r.code a (λ e. false≢true (sym q ∙ ap p e ∙ h)) ∙ r.none a q;
    }

one_even : (p : ℕ → Bool) (s n : ℕ) (xs : List ℤ) → p s ≡ false → RowCodes p (s + 1) n xs → RowCodes p s (suc n) xs
one_even p s n xs h r = record { code = r.code; all = ap (map r.code) (even_first p s n h) ∙ r.all; none = r.none }

row_codes : (p : ℕ → Bool) (s n : ℕ) (xs : List ℤ) → length xs ≡ length (filter p (range_with_len s n)) → RowCodes p s n xs
row_codes p s zero [] e = record { code = λ a. pos 0; all = refl; none = λ a h. refl }
row_codes p s zero (x ∷ xs) e = absurd (omega arith)
row_codes p s (suc n) [] e =
    ⊎_elim
    (λ (h : p s ≡ true). absurd (omega (arith, ap length (coded_first p s n h))))
    (λ (h : p s ≡ false). one_even p s n [] h (row_codes p (s + 1) n [] (e ∙ ap length (even_first p s n h))))
    (cases_Bool (p s))
row_codes p s (suc n) (x ∷ xs) e =
    ⊎_elim
    (λ (h : p s ≡ true). one_coded p s n x xs h (row_codes p (s + 1) n xs (omega (arith, ap length (coded_first p s n h)))))
    (λ (h : p s ≡ false). one_even p s n (x ∷ xs) h (row_codes p (s + 1) n (x ∷ xs) (e ∙ ap length (even_first p s n h))))
    (cases_Bool (p s))

-- ---- all rows
record TableCodes (p : ℕ → ℕ → Bool) (w s n : ℕ) (xs : List ℤ) : Type 0 where
  code : ℕ → ℕ → ℤ
  all : flat_map (λ b. map (code b) (filter (p b) (range_with_len 0 w))) (range_with_len s n) ≡ xs
  none : (b a : ℕ) → p b a ≡ false → code b a ≡ pos 0

rows_alike : (f g : ℕ → List ℤ) (s n : ℕ) → ((k : ℕ) → s ≤ k → k < s + n → f k ≡ g k) → flat_map f (range_with_len s n) ≡ flat_map g (range_with_len s n)
rows_alike f g s zero h = refl
rows_alike f g s (suc n) h =
    ap₂ (λ (xs ys : List ℤ). xs ++ ys) (h s (omega arith) (omega arith)) (rows_alike f g (s + 1) n (λ k l m. h k (omega arith) (omega arith)))

one_row : (p : ℕ → ℕ → Bool) (w s n m : ℕ) (xs : List ℤ) → RowCodes (p s) 0 w (take m xs) → TableCodes p w (s + 1) n (drop m xs) → TableCodes p w s (suc n) xs
one_row p w s n m xs r t =
    let code = put s r.code t.code in
    let row = λ (f : ℕ → ℕ → ℤ) (b : ℕ). map (f b) (filter (p b) (range_with_len 0 w)) in
    record {
      code = code;
      all =
          ap₂ (λ (xs ys : List ℤ). xs ++ ys)
          (ap (λ (f : ℕ → ℤ). map f (filter (p s) (range_with_len 0 w))) (put_here s r.code t.code) ∙ r.all)
          (rows_alike (row code) (row t.code) (s + 1) n
          (λ k l h. ap (λ (f : ℕ → ℤ). map f (filter (p k) (range_with_len 0 w))) (put_there s r.code t.code k (λ e. omega arith)))
          ∙ t.all)
          ∙ take-append-drop m xs;
      none = λ b a q.
          ⊎_elim
          (λ (e : b ≡ s).
          ap (λ (k : ℕ). code k a) e ∙ ap (λ (f : ℕ → ℤ). f a) (put_here s r.code t.code) ∙ r.none a (ap (λ (k : ℕ). p k a) (sym e) ∙ q))
          (λ (other : b ≡ s → ⊥). ap (λ (f : ℕ → ℤ). f a) (put_there s r.code t.code b other) ∙ t.none b a q)
          (cases_eq b s);
    }

table_codes : (p : ℕ → ℕ → Bool) (w s n : ℕ) (xs : List ℤ) → length xs ≡ length (flat_map (λ b. filter (p b) (range_with_len 0 w)) (range_with_len s n)) → TableCodes p w s n xs
table_codes p w s zero [] e = record { code = λ b a. pos 0; all = refl; none = λ b a h. refl }
table_codes p w s zero (x ∷ xs) e = absurd (omega arith)
table_codes p w s (suc n) xs e =
    let first = filter (p s) (range_with_len 0 w) in
    let others = flat_map (λ b. filter (p b) (range_with_len 0 w)) (range_with_len (s + 1) n) in
    let size : length xs ≡ length first + length others = e ∙ length-append first others in
    let m = length first in
    one_row p w s n m xs
    (row_codes (p s) 0 w (take m xs) (length-take-le m xs (omega arith)))
    (table_codes p w (s + 1) n (drop m xs) (omega (arith, length-drop m xs)))

-- ---- the codes of a region
spread : (ℕ → ℕ → ℤ) → ℤ → ℤ → ℤ
spread f (pos a) (pos b) = f b a
spread f (pos a) (negsuc b) = pos 0
spread f (negsuc a) y = pos 0

spread_at : (f : ℕ → ℕ → ℤ) (r : Region) (a b : ℕ) → spread f (r.x0 +ℤ pos a -ℤ r.x0) (r.y0 +ℤ pos b -ℤ r.y0) ≡ f b a
unfolding spread
spread_at f r a b = ap₂ (spread f) (back r.x0 a) (back r.y0 b)
  where
    back : (x : ℤ) (n : ℕ) → x +ℤ pos n -ℤ x ≡ pos n
    back x n = omega (arith, ints)

spread_zero : (f : ℕ → ℕ → ℤ) (x y : ℤ) → ((a b : ℕ) → x ≡ pos a → y ≡ pos b → f b a ≡ pos 0) → spread f x y ≡ pos 0
unfolding spread
spread_zero f (pos a) (pos b) h = h a b refl refl
spread_zero f (pos a) (negsuc b) h = refl
spread_zero f (negsuc a) y h = refl

pub record SomeCoding (region : Region) (bytes : List ℕ) : Type 0 where
  pub code : ℤ → ℤ → ℤ
  pub coding : IsCoding code region bytes

pub coding_of : (r : Region) (xs : List ℤ) (bytes : List ℕ) → length xs ≡ code_count r → IsWordOf xs bytes → SomeCoding r bytes
coding_of r xs bytes count word =
    let p = λ (b a : ℕ). is_coded (r.x0 +ℤ pos a) (r.y0 +ℤ pos b) in
    let t = table_codes p (columns r) 0 (rows r) xs (count ∙ count_is r) in
    let code = λ (i j : ℤ). spread t.code (i -ℤ r.x0) (j -ℤ r.y0) in
    let values : coded_values code r ≡ xs =
    values_by_rows code r
    ∙ (λ u. flat_map (λ b. map (λ a. spread_at t.code r a b u) (coded_columns r b (columns r))) (range_with_len 0 (rows r)))
    ∙ t.all in
    record {
      code = code;
      coding = record {
        word = subst (λ (ys : List ℤ). IsWordOf ys bytes) (sym values) word;
        even = λ i j e.
            spread_zero t.code (i -ℤ r.x0) (j -ℤ r.y0)
            (λ a b q s.
            let column : i ≡ r.x0 +ℤ pos a = omega (arith, ints) in
            let row : j ≡ r.y0 +ℤ pos b = omega (arith, ints) in
            t.none b a (ap₂ is_coded (sym column) (sym row) ∙ e));
      };
    }
