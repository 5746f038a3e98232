-- The bytes of a header.
use Rattle.std.proofs.Common.{◌≡◌, ◌⊎◌, inl, inr, ℕ, zero, suc, ◌+◌, ◌-◌, ◌^◌, ◌<◌, ◌≤◌, true, cond, eqb, List, [], ◌∷◌, ◌++◌, length, take, drop, get_or, refl, ap, sym, ◌∙◌, subst, ⊎_elim, arith, eq-eqb, drop-cons, get_or-drop, length-drop}
use Rattle.std.specs.Int.{w16, w32, to_be_bytes}
use Rattle.std.specs.Cmp.Lexicographic.{same_text}
use Rattle.std.proofs.Math.Seq.{take-append_seam}
use Rattle.std.proofs.lemmas.Bool.{and_from}
use Rattle.std.proofs.lemmas.Nat.{be_bytes_2, be_bytes_4}
use Rattle.std.proofs.lemmas.List.{take-append-drop, take_rest, length-take-le, drop-drop}
use lib.Pointwise.{pointwise}
use Rattle.byteorder.specs.Endian.{big_number}
use Rattle.store_model.specs.Format.{magic, head_bytes}
use Rattle.store_model.specs.Faults.{BeginsAs, OpensWithHead}

-- ---- the first four bytes
pointwise_itself : (xs : List ℕ) → pointwise eqb xs xs ≡ true
pointwise_itself [] = refl
pointwise_itself (x ∷ xs) = and_from (eqb x x) (pointwise eqb xs xs) (eq-eqb x x refl) (pointwise_itself xs)

pub take_all : (xs : List ℕ) (n : ℕ) → length xs ≤ n → take n xs ≡ xs
take_all [] zero h = refl
take_all [] (suc n) h = refl
take_all (x ∷ xs) zero h = absurd (omega arith)
take_all (x ∷ xs) (suc n) h = ap (λ (ys : List ℕ). x ∷ ys) (take_all xs n (omega arith))

pub record FirstFour (n : ℕ) (bytes : List ℕ) : Type 0 where
  pub same : take n bytes ≡ take 4 bytes
  pub size : length (take n bytes) ≡ n

pub four_of_few : (n : ℕ) (bytes : List ℕ) → n ≡ length bytes → length bytes < 4 → FirstFour n bytes
four_of_few n bytes e few =
    let all : take n bytes ≡ bytes = take_all bytes n (omega arith) in
    record { same = all ∙ sym (take_all bytes 4 (omega arith)); size = ap length all ∙ sym e }

pub four_of_many : (n : ℕ) (bytes : List ℕ) → n ≡ 4 → 4 ≤ length bytes → FirstFour n bytes
four_of_many n bytes e many =
    record { same = ap (λ (k : ℕ). take k bytes) e; size = length-take-le n bytes (omega arith) }

pub begins_from : (n version : ℕ) (bytes : List ℕ) → FirstFour n bytes → true ≡ pointwise eqb (take n bytes) (take n (magic version)) → BeginsAs version bytes
begins_from n version bytes f e =
    let same : take n bytes ≡ take n (magic version) = same_text (take n bytes) (take n (magic version)) e in
    (drop n (magic version), ap (λ (xs : List ℕ). xs ++ drop n (magic version)) (sym f.same ∙ same) ∙ take-append-drop n (magic version))

pub begins_to : (n version : ℕ) (bytes : List ℕ) → FirstFour n bytes → BeginsAs version bytes → pointwise eqb (take n bytes) (take n (magic version)) ≡ true
begins_to n version bytes f b =
    let size : length (take 4 bytes) ≡ n = ap length (sym f.same) ∙ f.size in
    let same : take 4 bytes ≡ take n (magic version) =
    sym (take-append_seam (take 4 bytes) b.0) ∙ ap (λ (k : ℕ). take k (take 4 bytes ++ b.0)) size ∙ ap (take n) b.1 in
    ap (λ (xs : List ℕ). pointwise eqb xs (take n (magic version))) (f.same ∙ same) ∙ pointwise_itself (take n (magic version))

-- ---- numbers
-- four bytes are those of their number
number_of_four : (xs : List ℕ) (n : ℕ) → 4 ≤ length xs → ((i : ℕ) → get_or xs i 0 < 256) → n ≡ big_number 4 xs → xs ≡ to_be_bytes w32 n ++ drop 4 xs
number_of_four (a ∷ b ∷ c ∷ d ∷ rest) n l small e =
    ap (λ (ys : List ℕ). ys ++ rest) (sym (be_bytes_4 (a ∷ b ∷ c ∷ d ∷ []) n refl each (omega arith)))
  where
    each : (i : ℕ) → get_or (a ∷ b ∷ c ∷ d ∷ []) i 0 < 256
    each zero = small 0
    each (suc zero) = small 1
    each (suc (suc zero)) = small 2
    each (suc (suc (suc zero))) = small 3
    each (suc (suc (suc (suc i)))) = omega arith
number_of_four [] n l small e = absurd (omega arith)
number_of_four (a ∷ []) n l small e = absurd (omega arith)
number_of_four (a ∷ b ∷ []) n l small e = absurd (omega arith)
number_of_four (a ∷ b ∷ c ∷ []) n l small e = absurd (omega arith)

-- two bytes are those of their number
pub number_of_two : (xs : List ℕ) (n : ℕ) → 2 ≤ length xs → ((i : ℕ) → get_or xs i 0 < 256) → n ≡ big_number 2 xs → xs ≡ to_be_bytes w16 n ++ drop 2 xs
number_of_two (a ∷ b ∷ rest) n l small e =
    ap (λ (ys : List ℕ). ys ++ rest) (sym (be_bytes_2 (a ∷ b ∷ []) n refl each (omega arith)))
  where
    each : (i : ℕ) → get_or (a ∷ b ∷ []) i 0 < 256
    each zero = small 0
    each (suc zero) = small 1
    each (suc (suc i)) = omega arith
number_of_two [] n l small e = absurd (omega arith)
number_of_two (a ∷ []) n l small e = absurd (omega arith)

pub small_drop : (bytes : List ℕ) (n : ℕ) → ((i : ℕ) → get_or bytes i 0 < 256) → (i : ℕ) → get_or (drop n bytes) i 0 < 256
small_drop bytes n small i = subst (λ (x : ℕ). x < 256) (sym (get_or-drop n bytes i 0)) (small (n + i))

word_at : (bytes : List ℕ) (at w : ℕ) → ((i : ℕ) → get_or bytes i 0 < 256) → at + 4 ≤ length bytes → w ≡ big_number 4 (take (length bytes - at) (drop at bytes)) → drop at bytes ≡ to_be_bytes w32 w ++ drop (at + 4) bytes
word_at bytes at w small whole e =
    number_of_four (drop at bytes) w (omega (arith, length-drop at bytes)) (small_drop bytes at small) (e ∙ ap (big_number 4) (take_rest bytes at))
    ∙ ap (λ (xs : List ℕ). to_be_bytes w32 w ++ xs) (drop-drop 4 at bytes)

first_four : (version : ℕ) (bytes : List ℕ) → 4 ≤ length bytes → BeginsAs version bytes → take 4 bytes ≡ magic version
first_four version bytes many b =
    sym (take-append_seam (take 4 bytes) b.0) ∙ ap (λ (k : ℕ). take k (take 4 bytes ++ b.0)) (length-take-le 4 bytes many) ∙ ap (take 4) b.1

tail_of : (bytes : List ℕ) (version step : ℕ) → 12 + version ≤ length bytes → ((version ≡ 1) × (step ≡ 1)) ⊎ ((version ≡ 2) × (step ≡ get_or bytes 13 0)) → drop 13 bytes ≡ cond (eqb version 2) (step ∷ []) [] ++ drop (12 + version) bytes
tail_of bytes version step whole known =
    ⊎_elim
    (λ (one : (version ≡ 1) × (step ≡ 1)).
    subst (λ (v : ℕ). drop 13 bytes ≡ cond (eqb v 2) (step ∷ []) [] ++ drop (12 + v) bytes) (sym one.0) refl)
    (λ (two : (version ≡ 2) × (step ≡ get_or bytes 13 0)).
    let second = two.0 in
    let here : drop 13 bytes ≡ step ∷ drop 14 bytes = drop-cons bytes 13 0 (omega arith) ∙ ap (λ (s : ℕ). s ∷ drop 14 bytes) (sym two.1) in
    subst (λ (v : ℕ). drop 13 bytes ≡ cond (eqb v 2) (step ∷ []) [] ++ drop (12 + v) bytes) (sym two.0) here)
    known

spelled_is : (bytes : List ℕ) (version w h step : ℕ) → ((i : ℕ) → get_or bytes i 0 < 256) → 12 + version ≤ length bytes → 1 ≤ version → BeginsAs version bytes → w ≡ big_number 4 (take (length bytes - 4) (drop 4 bytes)) → h ≡ big_number 4 (take (length bytes - 8) (drop 8 bytes)) → ((version ≡ 1) × (step ≡ 1)) ⊎ ((version ≡ 2) × (step ≡ get_or bytes 13 0)) → bytes ≡ head_bytes (record { version = version; width = w; height = h; levels = get_or bytes 12 0; step = step }) ++ drop (12 + version) bytes
unfolding head_bytes
spelled_is bytes version w h step small whole some begins ew eh known =
    let tail = cond (eqb version 2) (step ∷ []) [] ++ drop (12 + version) bytes in
    let last : drop 12 bytes ≡ get_or bytes 12 0 ∷ tail = drop-cons bytes 12 0 (omega arith) ∙ ap (λ (xs : List ℕ). get_or bytes 12 0 ∷ xs) (tail_of bytes version step whole known) in
    let high : drop 8 bytes ≡ to_be_bytes w32 h ++ (get_or bytes 12 0 ∷ tail) = word_at bytes 8 h small (omega arith) eh ∙ ap (λ (xs : List ℕ). to_be_bytes w32 h ++ xs) last in
    let wide : drop 4 bytes ≡ to_be_bytes w32 w ++ (to_be_bytes w32 h ++ (get_or bytes 12 0 ∷ tail)) = word_at bytes 4 w small (omega arith) ew ∙ ap (λ (xs : List ℕ). to_be_bytes w32 w ++ xs) high in
    sym (take-append-drop 4 bytes) ∙ ap (λ (xs : List ℕ). xs ++ drop 4 bytes) (first_four version bytes (omega arith) begins) ∙ ap (λ (xs : List ℕ). magic version ++ xs) wide

pub header_opens : (bytes : List ℕ) (version w h step : ℕ) → ((i : ℕ) → get_or bytes i 0 < 256) → 12 + version ≤ length bytes → BeginsAs version bytes → w < 2 ^ 32 → h < 2 ^ 32 → step < 256 → w ≡ big_number 4 (take (length bytes - 4) (drop 4 bytes)) → h ≡ big_number 4 (take (length bytes - 8) (drop 8 bytes)) → ((version ≡ 1) × (step ≡ 1)) ⊎ ((version ≡ 2) × (step ≡ get_or bytes 13 0)) → OpensWithHead (record { version = version; width = w; height = h; levels = get_or bytes 12 0; step = step }) bytes (drop (12 + version) bytes)
header_opens bytes version w h step small whole begins wf hf sf ew eh known = record {
  known = ⊎_elim (λ (one : (version ≡ 1) × (step ≡ 1)). inl one) (λ (two : (version ≡ 2) × (step ≡ get_or bytes 13 0)). inr two.0) known;
  wide = wf;
  high = hf;
  levels = small 12;
  step = sf;
  spelled = spelled_is bytes version w h step small whole some begins ew eh known;
}
  where
    some : 1 ≤ version
    some = ⊎_elim (λ (one : (version ≡ 1) × (step ≡ 1)). (let e = one.0 in omega arith)) (λ (two : (version ≡ 2) × (step ≡ get_or bytes 13 0)). (let e = two.0 in omega arith)) known
