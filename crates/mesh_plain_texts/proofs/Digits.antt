-- The five digits of a height: what `{:05}` writes of them.
use Rattle.std.proofs.Common.{◌≡◌, ℕ, ◌*◌, ◌/◌, ◌%◌, ◌^◌, ◌-◌, ◌<◌, List, [], ◌∷◌, ◌++◌, get_or, map, ℤ, ap, sym, ◌∙◌, refl, decimal, append_assoc, arith}
use Rattle.std.specs.Prelude.{unsigned_abs}
use Rattle.std.specs.List.{range_with_len}
use Rattle.std.specs.Fmt.{digits, char_count, padded_integral, styled_decimal, format_spec}
use Rattle.std.proofs.lemmas.List.FromFn.{get_or-map-range_with_len}
use Rattle.mesh_model.specs.Text.{sign_text, five_digits, height_text}

-- what `{:05}` writes of this many thirty-seconds, as hundred-thousandths
written : ℕ → List ℕ
written n = styled_decimal (format_spec 32 0 4 5 (2 ^ 64 - 1)) (n * 3125)

spelled : ℕ → List ℕ
spelled n = five_digits (n * 3125)

-- the thirty-two texts
all_alike : map written (range_with_len 0 32) ≡ map spelled (range_with_len 0 32)
unfolding written spelled digits char_count padded_integral five_digits
all_alike = refl

alike : (n : ℕ) → n < 32 → written n ≡ spelled n
alike n small =
    sym (get_or-map-range_with_len written 0 32 n n [] small (omega arith))
    ∙ ap (λ texts. get_or texts n []) all_alike
    ∙ get_or-map-range_with_len spelled 0 32 n n [] small (omega arith)

-- the pieces of a height's text
pub height_is : (height : ℤ) (sign : List ℕ) (size : ℕ) → sign ≡ sign_text height → size ≡ unsigned_abs height → sign ++ (decimal (size / 32) ++ (46 ∷ styled_decimal (format_spec 32 0 4 5 (2 ^ 64 - 1)) (size % 32 * 3125))) ≡ height_text height
unfolding height_text written spelled
height_is height sign size sign_is size_is =
    let pieces = ap (λ text. sign ++ (decimal (size / 32) ++ (46 ∷ text))) (alike (size % 32) (omega arith)) in
    rw (sym size_is, sym sign_is) (simp append_assoc pieces)
