-- Rows of a list of lists, one after another, and rows of which a stretch is left out.
use Rattle.std.proofs.Common.{◌≡◌, ℕ, zero, suc, ◌+◌, ◌-◌, ◌*◌, ◌<◌, ◌≤◌, Bool, true, false, cond, List, [], ◌∷◌, ◌++◌, length, map, min, refl, ap, sym, subst, ◌∙◌, ◌⊎◌, inl, inr, append-nil, length-append, arith}
use Rattle.std.specs.List.{flat_map, filter, range_with_len}
use Rattle.std.proofs.lemmas.Bool.{cases_lt}
use Rattle.std.proofs.lemmas.List.{map-append}
use Rattle.std.proofs.lemmas.List.Elements.{filter-append}
use Rattle.std.proofs.lemmas.List.Concat.{flat_map-append}
use Rattle.mesh_laws.proofs.Lists.{IsAt, at_left, at_right}

pub filter_of_flat_map : {A B : Type 0} (p : B → Bool) (f : A → List B) (xs : List A) → filter p (flat_map f xs) ≡ flat_map (λ x. filter p (f x)) xs
filter_of_flat_map p f [] = refl
filter_of_flat_map p f (x ∷ xs) = filter-append p (f x) (flat_map f xs) ∙ ap (λ rest. filter p (f x) ++ rest) (filter_of_flat_map p f xs)

-- a range in two parts
pub range_split : (s m n l t : ℕ) → m + n ≡ l → s + m ≡ t → range_with_len s l ≡ range_with_len s m ++ range_with_len t n
range_split s zero n l t el et =
    let el' : l ≡ n = omega arith in
    let et' : s ≡ t = omega arith in
    λ i. range_with_len (et' i) (el' i)
range_split s (suc m) n zero t el et = absurd (omega arith)
range_split s (suc m) n (suc l) t el et = ap (λ rest. s ∷ rest) (range_split (s + 1) m n l t (omega arith) (omega arith))

-- how many elements stand in the rows before row v
unfoldable pub before : {A : Type 0} → (ℕ → List A) → ℕ → ℕ
before row v = length (flat_map row (range_with_len 0 v))

pub before_none : {A : Type 0} (row : ℕ → List A) → before row 0 ≡ 0
unfolding before
before_none row = refl

pub before_more : {A : Type 0} (row : ℕ → List A) (v w : ℕ) → v + 1 ≡ w → before row w ≡ before row v + length (row v)
unfolding before
before_more row v w e =
    let split : range_with_len 0 w ≡ range_with_len 0 v ++ v ∷ [] = range_split 0 v 1 w v e (omega arith) in
    let parts : flat_map row (range_with_len 0 w) ≡ flat_map row (range_with_len 0 v) ++ (row v ++ []) = ap (flat_map row) split ∙ flat_map-append row (range_with_len 0 v) (v ∷ []) in
    ap length parts ∙ length-append (flat_map row (range_with_len 0 v)) (row v ++ []) ∙ ap (λ r. length (flat_map row (range_with_len 0 v)) + length r) (append-nil (row v))

-- what stands in a row stands in the rows
pub at_row : {A : Type 0} (row : ℕ → List A) (v n u : ℕ) (x : A) → v < n → IsAt (row v) u x → IsAt (flat_map row (range_with_len 0 n)) (before row v + u) x
unfolding before
at_row {A = A} row v n u x low h =
    let head : List A = flat_map row (range_with_len 0 v) in
    let tail : List A = flat_map row (range_with_len (v + 1) (n - v - 1)) in
    let inner : range_with_len v (n - v) ≡ (v ∷ []) ++ range_with_len (v + 1) (n - v - 1) = range_split v 1 (n - v - 1) (n - v) (v + 1) (omega arith) refl in
    let split : range_with_len 0 n ≡ range_with_len 0 v ++ (v ∷ range_with_len (v + 1) (n - v - 1)) =
    range_split 0 v (n - v) n v (omega arith) (omega arith) ∙ ap (λ r. range_with_len 0 v ++ r) inner in
    let parts : flat_map row (range_with_len 0 n) ≡ head ++ (row v ++ tail) = ap (flat_map row) split ∙ flat_map-append row (range_with_len 0 v) (v ∷ range_with_len (v + 1) (n - v - 1)) in
    subst (λ (xs : List A). IsAt xs (length head + u) x) (sym parts) (at_right head (row v ++ tail) u x (at_left (row v) tail u x h))

-- ---- tests of a row
pub filter_keeps : {A : Type 0} (p : A → Bool) (f : ℕ → A) (s n : ℕ) → ((u : ℕ) → s ≤ u → u < s + n → p (f u) ≡ true) → filter p (map f (range_with_len s n)) ≡ map f (range_with_len s n)
filter_keeps p f s zero h = refl
filter_keeps p f s (suc n) h =
    let rest = map f (range_with_len (s + 1) n) in
    let here : p (f s) ≡ true = h s (omega arith) (omega arith) in
    let kept : cond (p (f s)) (f s ∷ filter p rest) (filter p rest) ≡ f s ∷ filter p rest = rw here refl in
    kept ∙ ap (λ r. f s ∷ r) (filter_keeps p f (s + 1) n (λ u low high. h u (omega arith) (omega arith)))

pub filter_drops : {A : Type 0} (p : A → Bool) (f : ℕ → A) (s n : ℕ) → ((u : ℕ) → s ≤ u → u < s + n → p (f u) ≡ false) → filter p (map f (range_with_len s n)) ≡ []
filter_drops p f s zero h = refl
filter_drops p f s (suc n) h =
    let rest = map f (range_with_len (s + 1) n) in
    let here : p (f s) ≡ false = h s (omega arith) (omega arith) in
    let dropped : cond (p (f s)) (f s ∷ filter p rest) (filter p rest) ≡ filter p rest = rw here refl in
    dropped ∙ filter_drops p f (s + 1) n (λ u low high. h u (omega arith) (omega arith))

-- a row of a + b + c of which the b in the middle are left out
pub filter_middle : {A : Type 0} (p : A → Bool) (f : ℕ → A) (a b c m t : ℕ) → a + b + c ≡ m → a + b ≡ t →
    ((u : ℕ) → u < a → p (f u) ≡ true) → ((u : ℕ) → a ≤ u → u < t → p (f u) ≡ false) → ((u : ℕ) → t ≤ u → u < m → p (f u) ≡ true) →
    filter p (map f (range_with_len 0 m)) ≡ map f (range_with_len 0 a) ++ map f (range_with_len t c)
filter_middle p f a b c m t em et first middle last =
    let split : range_with_len 0 m ≡ range_with_len 0 a ++ (range_with_len a b ++ range_with_len t c) =
    range_split 0 a (b + c) m a (omega arith) (omega arith) ∙ ap (λ r. range_with_len 0 a ++ r) (range_split a b c (b + c) t refl et) in
    let mapped : map f (range_with_len 0 m) ≡ map f (range_with_len 0 a) ++ (map f (range_with_len a b) ++ map f (range_with_len t c)) =
    ap (map f) split ∙ map-append f (range_with_len 0 a) (range_with_len a b ++ range_with_len t c) ∙ ap (λ r. map f (range_with_len 0 a) ++ r) (map-append f (range_with_len a b) (range_with_len t c)) in
    let one = filter_keeps p f 0 a (λ u low high. first u (omega arith)) in
    let two = filter_drops p f a b (λ u low high. middle u low (omega arith)) in
    let three = filter_keeps p f t c (λ u low high. last u low (omega arith)) in
    ap (filter p) mapped
    ∙ filter-append p (map f (range_with_len 0 a)) (map f (range_with_len a b) ++ map f (range_with_len t c))
    ∙ ap (λ r. r ++ filter p (map f (range_with_len a b) ++ map f (range_with_len t c))) one
    ∙ ap (λ r. map f (range_with_len 0 a) ++ r) (filter-append p (map f (range_with_len a b)) (map f (range_with_len t c)) ∙ (λ i. two i ++ three i))

-- ---- rows of which some lack a stretch
-- rows of m, but those from row a on, h of them, lack b
pub record HasShortRows {A : Type 0} (row : ℕ → List A) (m a h b : ℕ) : Type 0 where
  pub whole_before : (v : ℕ) → v < a → length (row v) ≡ m
  pub short : (v : ℕ) → a ≤ v → v < a + h → length (row v) + b ≡ m
  pub whole_after : (v : ℕ) → a + h ≤ v → length (row v) ≡ m

-- one row more: a whole one or a short one
step_whole : (old new m b x y p q : ℕ) → old + b * x ≡ p → new ≡ old + m → y ≡ x → p + m ≡ q → new + b * y ≡ q
step_whole old new m b x y p q here more same next =
    let scaled : b * y ≡ b * x = ap (λ n. b * n) same in
    omega (arith, here, more, scaled, next)

step_short : (old new row m b x y p q : ℕ) → old + b * x ≡ p → new ≡ old + row → row + b ≡ m → y ≡ x + 1 → p + m ≡ q → new + b * y ≡ q
step_short old new row m b x y p q here more short same next =
    let scaled : b * y ≡ b * (x + 1) = ap (λ n. b * n) same in
    omega (arith, here, more, short, scaled, next)

pub before_short : {A : Type 0} (row : ℕ → List A) (m a h b : ℕ) → HasShortRows row m a h b → (v : ℕ) → before row v + b * min (v - a) h ≡ v * m
before_short row m a h b rows zero =
    let none = before_none row in
    let nothing : b * min (zero - a) h ≡ b * 0 = ap (λ n. b * n) (omega arith) in
    omega (arith, none, nothing)
before_short row m a h b rows (suc v) = step (cases_lt v a) (cases_lt v (a + h)) (before_short row m a h b rows v) (before_more row v (suc v) (omega arith))
  where
    step : (v < a) ⊎ (a ≤ v) → (v < a + h) ⊎ (a + h ≤ v) → before row v + b * min (v - a) h ≡ v * m → before row (suc v) ≡ before row v + length (row v) →
        before row (suc v) + b * min (suc v - a) h ≡ suc v * m
    step (inl low) other old more =
        step_whole (before row v) (before row (suc v)) m b (min (v - a) h) (min (suc v - a) h) (v * m) (suc v * m) old (more ∙ ap (λ n. before row v + n) (rows.whole_before v low)) (omega arith) (omega arith)
    step (inr high) (inl low) old more =
        step_short (before row v) (before row (suc v)) (length (row v)) m b (min (v - a) h) (min (suc v - a) h) (v * m) (suc v * m) old more (rows.short v high low) (omega arith) (omega arith)
    step (inr high) (inr past) old more =
        step_whole (before row v) (before row (suc v)) m b (min (v - a) h) (min (suc v - a) h) (v * m) (suc v * m) old (more ∙ ap (λ n. before row v + n) (rows.whole_after v past)) (omega arith) (omega arith)
