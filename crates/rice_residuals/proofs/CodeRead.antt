-- What one code read, or its fault, says of the bits that were there.
use Rattle.std.proofs.Common.{◌≡◌, ◌≢◌, ℕ, ◌+◌, ◌-◌, ◌*◌, ◌/◌, ◌%◌, ◌^◌, ◌<◌, ◌≤◌, ℤ, Bool, true, false, List, [], ◌∷◌, ◌++◌, length, replicate, flat_map, sym, refl, ap, ap₂, ◌∙◌, subst, arith, append_assoc, append-nil, length-append}
use Rattle.std.proofs.lemmas.Nat.{div-mul-add, mod-mul-add}
use Rattle.std.proofs.lemmas.List.{length-replicate}
use Rattle.std.proofs.lemmas.List.Concat.{flat_map-append}
use Rattle.rice_residuals.specs.Bits.{low_bits}
use Rattle.rice_residuals.specs.Code.{code, codes, residual_code, folded}
use Rattle.rice_residuals.specs.Reading.{Reading}
use Rattle.rice_residuals.specs.Faults.{form, low_length, IsCut, IsLongForm, IsTooWide}
use Rattle.rice_residuals.proofs.LowBits.{low_bits-mod}
use Rattle.rice_residuals.proofs.Forms.{form_short, form_long, form-append, low_length_short, low_length_long, code_short, code_long}

filled_length : (low : List Bool) (n : ℕ) → length low < n → length (low ++ replicate (n - length low) false) ≡ n
filled_length low n h = omega (arith, length-append low (replicate (n - length low) false), length-replicate (n - length low) false)

not_none : (n : ℕ) → 0 < n → replicate n false ≢ []
not_none n h e = omega (arith, ap length e, length-replicate n false)

-- only ones were left, fewer than 32
pub cut_in_ones : (r : ℕ) (bits : List Bool) → bits ≡ replicate (length bits) true → length bits < 32 → IsCut r bits
cut_in_ones r bits e few = record {
  ones = length bits;
  few = omega arith;
  low = replicate r false;
  whole = length-replicate r false ∙ sym (low_length_short r (length bits) few);
  missing = false ∷ replicate r false;
  some = λ h. omega (arith, ap length h);
  spelled = ap (λ (x : List Bool). x ++ false ∷ replicate r false) e ∙ sym (form_short (length bits) (replicate r false) few);
}

-- fewer bits were left than stand behind the ones
pub cut_in_low : (r ones : ℕ) (bits low : List Bool) → ones ≤ 32 → bits ≡ form ones low → length low < low_length r ones → IsCut r bits
cut_in_low r ones bits low few e short =
    let more = replicate (low_length r ones - length low) false in
    record {
      ones = ones;
      few = few;
      low = low ++ more;
      whole = filled_length low (low_length r ones) short;
      missing = more;
      some = not_none (low_length r ones - length low) (omega arith);
      spelled = ap (λ (x : List Bool). x ++ more) e ∙ form-append ones low more;
    }

pub cut_in_long : (r : ℕ) (bits low : List Bool) → bits ≡ form 32 low → length low < 18 → IsCut r bits
cut_in_long r bits low e short = cut_in_low r 32 bits low (omega arith) e (subst (λ (n : ℕ). length low < n) (sym (low_length_long r)) short)

pub cut_in_short : (r ones : ℕ) (bits low : List Bool) → ones < 32 → bits ≡ form ones low → length low < r → IsCut r bits
cut_in_short r ones bits low few e short =
    cut_in_low r ones bits low (omega arith) e (subst (λ (n : ℕ). length low < n) (sym (low_length_short r ones few)) short)

-- the long form was read
long_spelled : (bits low after : List Bool) (u : ℕ) → bits ≡ form 32 low → low ≡ low_bits 18 u ++ after → bits ≡ replicate 32 true ++ (low_bits 18 u ++ after)
long_spelled bits low after u e f = e ∙ ap (form 32) f ∙ form_long (low_bits 18 u ++ after)

pub long_of_small : (r u : ℕ) (bits low after : List Bool) → bits ≡ form 32 low → low ≡ low_bits 18 u ++ after → u < 262144 → u / 2 ^ r < 32 → IsLongForm r bits
long_of_small r u bits low after e f fits small = record { folded = u; fits = fits; small = small; after = after; spelled = long_spelled bits low after u e f }

pub long_code : (r u : ℕ) (bits low after : List Bool) → bits ≡ form 32 low → low ≡ low_bits 18 u ++ after → 32 ≤ u / 2 ^ r → bits ≡ code r u ++ after
long_code r u bits low after e f large =
    e ∙ ap (form 32) f ∙ sym (form-append 32 (low_bits 18 u) after) ∙ ap (λ (x : List Bool). x ++ after) (sym (code_long r u large))

-- the short form was read
pub short_code : (r ones v u : ℕ) (bits low after : List Bool) → ones < 32 → v < 2 ^ r → u ≡ ones * 2 ^ r + v → bits ≡ form ones low → low ≡ low_bits r v ++ after → bits ≡ code r u ++ after
short_code r ones v u bits low after few below e f g =
    let high : u / 2 ^ r ≡ ones = ap (λ (n : ℕ). n / 2 ^ r) e ∙ div-mul-add ones (2 ^ r) v below in
    let rest : u % 2 ^ r ≡ v = ap (λ (n : ℕ). n % 2 ^ r) e ∙ mod-mul-add ones (2 ^ r) v below in
    let same : low_bits r u ≡ low_bits r v = sym (low_bits-mod r u) ∙ ap (low_bits r) rest in
    let small : u / 2 ^ r < 32 = omega arith in
    f
    ∙ ap (form ones) g
    ∙ sym (form-append ones (low_bits r v) after)
    ∙ ap (λ (x : List Bool). x ++ after) (ap₂ (λ (n : ℕ) (x : List Bool). form n x) (sym high) (sym same) ∙ sym (code_short r u small))

pub too_wide : (r ones v u : ℕ) (bits low after : List Bool) → ones < 32 → v < 2 ^ r → u ≡ ones * 2 ^ r + v → 262144 ≤ u → bits ≡ form ones low → low ≡ low_bits r v ++ after → IsTooWide r bits
too_wide r ones v u bits low after few below e wide f g = record {
  ones = ones;
  few = few;
  low = v;
  below = below;
  wide = omega arith;
  after = after;
  spelled = f ∙ ap (form ones) g ∙ form_short ones (low_bits r v ++ after) few;
}

-- the codes of residuals with one more
pub codes-push : (r : ℕ) (xs : List ℤ) (x : ℤ) → codes r (xs ++ x ∷ []) ≡ codes r xs ++ residual_code r x
unfolding codes
codes-push r xs x = flat_map-append (residual_code r) xs (x ∷ []) ∙ ap (λ (y : List Bool). flat_map (residual_code r) xs ++ y) (append-nil (residual_code r x))

pub codes-none : (r : ℕ) → codes r [] ≡ []
unfolding codes
codes-none r = refl

-- what is left ends where the bits ended before a take
pub end_after : (old mid new : Reading) (bits : List Bool) (n : ℕ) → length bits ≡ n → mid.left ≡ bits ++ new.left → new.place ≡ mid.place + n → mid.place + length mid.left ≡ old.place + length old.left → new.place + length new.left ≡ old.place + length old.left
end_after old mid new bits n l left place e =
    omega (arith, ap length left, length-append bits new.left)

pub end_same : (old mid new : Reading) → new ≡ mid → mid.place + length mid.left ≡ old.place + length old.left → new.place + length new.left ≡ old.place + length old.left
end_same old mid new same e = ap (λ (x : Reading). x.place + length x.left) same ∙ e

-- one more code was read
pub codes_more :
    (r : ℕ) (xs ys : List ℤ) (x y : ℤ) (u : ℕ) (all left after : List Bool)
    → ys ≡ xs ++ y ∷ [] → y ≡ x → folded x ≡ u → all ≡ codes r xs ++ left → left ≡ code r u ++ after → all ≡ codes r ys ++ after
codes_more r xs ys x y u all left after e same f a b =
    let named : residual_code r y ≡ code r u = ap (λ (z : ℤ). residual_code r z) same ∙ ap (code r) f in
    a
    ∙ ap (λ (l : List Bool). codes r xs ++ l) (b ∙ ap (λ (l : List Bool). l ++ after) (sym named))
    ∙ sym (append_assoc (codes r xs) (residual_code r y) after)
    ∙ ap (λ (l : List Bool). l ++ after) (sym (codes-push r xs y) ∙ ap (codes r) (sym e))

pub codes_begun : (r : ℕ) (xs : List ℤ) (all : List Bool) → xs ≡ [] → all ≡ codes r xs ++ all
codes_begun r xs all e = ap (λ (l : List Bool). l ++ all) (sym (ap (codes r) e ∙ codes-none r))

pub pushed_length : (xs ys : List ℤ) (y : ℤ) (m n : ℕ) → ys ≡ xs ++ y ∷ [] → length xs ≡ m → n ≡ m + 1 → length ys ≡ n
pushed_length xs ys y m n e l f = omega (arith, ap length e, length-append xs (y ∷ []))
