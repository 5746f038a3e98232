-- The bits of a writer through a push, and of its bytes at the end.
use Rattle.std.proofs.Common.{◌≡◌, ℕ, ◌+◌, ◌-◌, ◌*◌, ◌/◌, ◌%◌, ◌^◌, ◌<◌, ◌≤◌, Bool, true, false, List, [], ◌++◌, length, take, drop, get_or, replicate, bit_or, bit_and, if◌then◌else◌, w32, sym, refl, ap, ap₂, ◌∙◌, ⊎_elim, arith, append_assoc, append-nil, length-append, pow_pos}
use Rattle.std.specs.Int.{to_be_bytes}
use Rattle.std.proofs.lemmas.Nat.{and_mask}
use Rattle.std.proofs.lemmas.Bool.{false≢true, cases_lt}
use Rattle.std.proofs.lemmas.List.{take-append-drop, length-take-le, length-replicate, replicate-append-replicate, get_or_past}
use Rattle.rice_residuals.specs.Bits.{low_bits, bits_of_bytes, packed}
use Rattle.rice_residuals.proofs.LowBits.{length-low_bits, low_bits-append, low_bits-mod, low_bits-zero}
use Rattle.rice_residuals.proofs.ByteBits.{bits_of_bytes-nil, append_parts, bits_of_bytes-append, bits_of_bytes-to_be, length-bits_of_bytes, packed_from_bits}
use Rattle.rice_residuals.proofs.Registers.{shifted_in, low_bits-mod_more}
use Rattle.rice_residuals.proofs.Readings.{held_split}

-- the bits of a writer with these bytes and so many pending bits
abbrev pub written : List ℕ → ℕ → ℕ → List Bool
written bytes held pending = bits_of_bytes bytes ++ low_bits held pending

pub pushed : (bytes : List ℕ) (held pending count bits : ℕ) → bits < 2 ^ count → held + count ≤ 64 → written bytes (held + count) (bit_or ((pending * 2 ^ count) % 2 ^ 64) bits) ≡ written bytes held pending ++ low_bits count bits
pushed bytes held pending count bits below fits =
    ap (λ (x : List Bool). bits_of_bytes bytes ++ x) (shifted_in pending count bits held below fits)
    ∙ sym (append_assoc (bits_of_bytes bytes) (low_bits held pending) (low_bits count bits))

pub flushed : (bytes : List ℕ) (held pending word : ℕ) → 32 ≤ held → word ≡ bit_and (pending / 2 ^ (held - 32)) 4294967295 → written (bytes ++ to_be_bytes w32 word) (held - 32) pending ≡ written bytes held pending
flushed bytes held pending word h e =
    let rest = held - 32 in
    let value : word ≡ (pending / 2 ^ rest) % 2 ^ 32 = e ∙ and_mask (pending / 2 ^ rest) 32 in
    let four : bits_of_bytes (to_be_bytes w32 word) ≡ low_bits 32 (pending / 2 ^ rest) =
    bits_of_bytes-to_be word ∙ ap (low_bits 32) value ∙ low_bits-mod 32 (pending / 2 ^ rest) in
    ap (λ (x : List Bool). x ++ low_bits rest pending) (bits_of_bytes-append bytes (to_be_bytes w32 word) ∙ ap (λ (x : List Bool). bits_of_bytes bytes ++ x) four)
    ∙ append_assoc (bits_of_bytes bytes) (low_bits 32 (pending / 2 ^ rest)) (low_bits rest pending)
    ∙ ap (λ (x : List Bool). bits_of_bytes bytes ++ x) (sym (held_split held 32 pending h))

-- a word with the pending bits at its head, and zeros behind them
tail_word : (held pending word : ℕ) → held < 32 → word ≡ bit_and ((pending * 2 ^ (32 - held)) % 2 ^ 64) 4294967295 → low_bits 32 word ≡ low_bits held pending ++ replicate (32 - held) false
tail_word held pending word h e =
    let k = 32 - held in
    let value : word ≡ (pending * 2 ^ k) % 2 ^ 64 % 2 ^ 32 = e ∙ and_mask ((pending * 2 ^ k) % 2 ^ 64) 32 in
    let width : 32 ≡ held + k = omega arith in
    let shifted : pending * 2 ^ k ≡ pending * 2 ^ k + 0 = omega arith in
    ap (low_bits 32) value
    ∙ low_bits-mod 32 ((pending * 2 ^ k) % 2 ^ 64)
    ∙ low_bits-mod_more 32 64 (pending * 2 ^ k) (omega arith)
    ∙ ap₂ (λ (n : ℕ) (m : ℕ). low_bits n m) width shifted
    ∙ low_bits-append held k pending 0 (pow_pos k)
    ∙ ap (λ (x : List Bool). low_bits held pending ++ x) (low_bits-zero k)

-- the bytes of a word that are begun by the pending bits
tail_bytes : (held pending word count : ℕ) → held < 32 → count ≡ (held + 7) / 8 → word ≡ bit_and ((pending * 2 ^ (32 - held)) % 2 ^ 64) 4294967295 → length (to_be_bytes w32 word) ≡ 4 → bits_of_bytes (take count (to_be_bytes w32 word)) ≡ low_bits held pending ++ replicate (8 * count - held) false
tail_bytes held pending word count h n e four =
    let xs = to_be_bytes w32 word in
    let zeros : (8 * count - held) + (32 - 8 * count) ≡ 32 - held = omega arith in
    let whole : bits_of_bytes (take count xs) ++ bits_of_bytes (drop count xs) ≡ (low_bits held pending ++ replicate (8 * count - held) false) ++ replicate (32 - 8 * count) false =
    sym (bits_of_bytes-append (take count xs) (drop count xs))
    ∙ ap bits_of_bytes (take-append-drop count xs)
    ∙ bits_of_bytes-to_be word
    ∙ tail_word held pending word h e
    ∙ ap (λ (x : List Bool). low_bits held pending ++ x) (ap (λ (m : ℕ). replicate m false) (sym zeros) ∙ sym (replicate-append-replicate (8 * count - held) (32 - 8 * count) false))
    ∙ sym (append_assoc (low_bits held pending) (replicate (8 * count - held) false) (replicate (32 - 8 * count) false)) in
    let front : length (take count xs) ≡ count = length-take-le count xs (omega arith) in
    let same : length (bits_of_bytes (take count xs)) ≡ length (low_bits held pending ++ replicate (8 * count - held) false) =
    omega (arith, length-bits_of_bytes (take count xs), length-append (low_bits held pending) (replicate (8 * count - held) false), length-low_bits held pending, length-replicate (8 * count - held) false) in
    (append_parts (bits_of_bytes (take count xs)) (bits_of_bytes (drop count xs)) (low_bits held pending ++ replicate (8 * count - held) false) (replicate (32 - 8 * count) false) same whole).0

pub finished :
    (bytes all : List ℕ) (held pending word count : ℕ)
    → held < 32 → count ≡ (held + 7) / 8 → word ≡ bit_and ((pending * 2 ^ (32 - held)) % 2 ^ 64) 4294967295
    → ((k : ℕ) → get_or all k 0 < 256) → all ≡ bytes ++ take count (to_be_bytes w32 word)
    → all ≡ packed (written bytes held pending)
finished bytes all held pending word count h n e below whole =
    let padding = 8 * count - held in
    let bits : bits_of_bytes all ≡ written bytes held pending ++ replicate padding false =
    ap bits_of_bytes whole
    ∙ bits_of_bytes-append bytes (take count (to_be_bytes w32 word))
    ∙ ap (λ (x : List Bool). bits_of_bytes bytes ++ x) (tail_bytes held pending word count h n e refl)
    ∙ sym (append_assoc (bits_of_bytes bytes) (low_bits held pending) (replicate padding false)) in
    packed_from_bits all (written bytes held pending) padding below (omega arith) bits

-- ---- as the writer's calls state it

pub written_none : (bytes : List ℕ) → bytes ≡ [] → written bytes 0 0 ≡ []
unfolding low_bits
written_none bytes e = append-nil (bits_of_bytes bytes) ∙ ap bits_of_bytes e ∙ bits_of_bytes-nil

pub grown : (ok : Bool) (old new more : List ℕ) → ok ≡ true → new ≡ (if ok then old ++ more else old) → new ≡ old ++ more
grown true old new more e f = f
grown false old new more e f = absurd (false≢true e)

pub push_short : (old bytes : List ℕ) (held pending count n bits b : ℕ) (now : List Bool) → bytes ≡ old → n ≡ count → b ≡ bits → bits < 2 ^ count → held + count ≤ 64 → written old held pending ≡ now → written bytes (held + n) (bit_or ((pending * 2 ^ n) % 2 ^ 64) b) ≡ now ++ low_bits count bits
push_short old bytes held pending count n bits b now same e f below fits view =
    ap (λ (x : List ℕ). written x (held + n) (bit_or ((pending * 2 ^ n) % 2 ^ 64) b)) same
    ∙ ap₂ (λ (m : ℕ) (x : ℕ). written old (held + m) (bit_or ((pending * 2 ^ m) % 2 ^ 64) x)) e f
    ∙ pushed old held pending count bits below fits
    ∙ ap (λ (x : List Bool). x ++ low_bits count bits) view

pub push_long : (old bytes : List ℕ) (held pending count n bits b : ℕ) (now : List Bool) → bytes ≡ old ++ to_be_bytes w32 (bit_and (bit_or ((pending * 2 ^ n) % 2 ^ 64) b / 2 ^ (held + n - 32)) 4294967295) → 32 ≤ held + n → n ≡ count → b ≡ bits → bits < 2 ^ count → held + count ≤ 64 → written old held pending ≡ now → written bytes (held + n - 32) (bit_or ((pending * 2 ^ n) % 2 ^ 64) b) ≡ now ++ low_bits count bits
push_long old bytes held pending count n bits b now same many e f below fits view =
    let next = bit_or ((pending * 2 ^ n) % 2 ^ 64) b in
    ap (λ (x : List ℕ). written x (held + n - 32) next) same
    ∙ flushed old (held + n) next (bit_and (next / 2 ^ (held + n - 32)) 4294967295) many refl
    ∙ push_short old old held pending count n bits b now refl e f below fits view

pub below_all : (xs : List ℕ) → ((k : ℕ) (d : ℕ) → k < length xs → get_or xs k d < 256) → (k : ℕ) → get_or xs k 0 < 256
below_all xs h k =
    ⊎_elim (λ (l : k < length xs). h k 0 l) (λ (l : length xs ≤ k). omega (arith, get_or_past xs k 0 l)) (cases_lt k (length xs))
