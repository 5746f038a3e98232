-- How many bytes a canonical word has at most.
use Rattle.std.proofs.Common.{◌≤◌, ℤ, List, length, replicate, false, ap, arith, length-append}
use Rattle.std.proofs.lemmas.List.{length-replicate}
use Rattle.rice_residuals.specs.Bits.{packed}
use Rattle.rice_residuals.specs.Word.{word_bits, best_parameter, canonical_word}
use Rattle.rice_residuals.proofs.ByteBits.{padding_of, padding_below, bits_of_bytes-packed, length-bits_of_bytes}
use Rattle.rice_residuals.proofs.WordRead.{word_bits_length}
use Rattle.rice_residuals.proofs.Best.{best_is_best}
use Rattle.rice_residuals.proofs.CodeWrite.{codes_at_most}

pub canonical_is_short : (xs : List ℤ) → length xs ≤ 64 → length (canonical_word xs) ≤ 401
unfolding canonical_word
canonical_is_short xs few =
    let bits = word_bits (best_parameter xs) xs in
    omega (
      arith,
      codes_at_most (best_parameter xs) xs (best_is_best xs).below,
      word_bits_length (best_parameter xs) xs,
      ap length (bits_of_bytes-packed bits),
      length-bits_of_bytes (packed bits),
      length-append bits (replicate (padding_of bits) false),
      length-replicate (padding_of bits) false,
      padding_below bits,
    )
