-- A register of bits: bits shifted in from the right, taken from the left.
use Rattle.std.proofs.Common.{◌≡◌, ℕ, ◌+◌, ◌-◌, ◌*◌, ◌/◌, ◌%◌, ◌^◌, ◌<◌, ◌≤◌, Bool, List, ◌++◌, take, drop, bit_or, sym, ap, ap₂, ◌∙◌, arith, append_assoc, pow_pos, add-zero}
use Rattle.std.specs.Int.{bit_at}
use Rattle.std.proofs.lemmas.Nat.{shr_split, mod-pow-add, shl-shr, mod_low, or_shifted}
use Rattle.std.proofs.lemmas.Nat.Bits.{bit_at_cat_low}
use Rattle.std.proofs.lemmas.List.{take-append-drop, drop-drop}
use Rattle.rice_residuals.specs.Bits.{low_bits, bits_of_bytes}
use Rattle.rice_residuals.specs.Reading.{Reading, reading}
use Rattle.rice_residuals.specs.declared.register.Register.{Register}
use Rattle.rice_residuals.proofs.LowBits.{low_bits-same, low_bits-append}
use Rattle.rice_residuals.proofs.ByteBits.{bits_of_bytes-append}

-- bits above those that are read don't matter
pub low_bits-mod_more : (k j n : ℕ) → k ≤ j → low_bits k (n % 2 ^ j) ≡ low_bits k n
low_bits-mod_more k j n h =
    low_bits-same k (n % 2 ^ j) n (λ i l. sym (bit_at_cat_low (n / 2 ^ j) j (n % 2 ^ j) i (omega arith)) ∙ ap (λ (m : ℕ). bit_at m i) (shr_split n j))

-- what is shifted to the left in so many bits
pub shl_mod : (a c j : ℕ) → (a * 2 ^ c) % 2 ^ (j + c) ≡ (a % 2 ^ j) * 2 ^ c
shl_mod a c j =
    let low : (a * 2 ^ c) % 2 ^ c ≡ 0 = ap (λ (m : ℕ). m % 2 ^ c) (sym (add-zero (a * 2 ^ c))) ∙ mod_low a c 0 (pow_pos c) in
    mod-pow-add (a * 2 ^ c) j c
    ∙ ap₂ (λ (m : ℕ) (n : ℕ). (m % 2 ^ j) * 2 ^ c + n) (shl-shr a c) low
    ∙ add-zero ((a % 2 ^ j) * 2 ^ c)

-- new bits behind those that are held
pub shifted_in : (bits c b held : ℕ) → b < 2 ^ c → held + c ≤ 64 → low_bits (held + c) (bit_or ((bits * 2 ^ c) % 2 ^ 64) b) ≡ low_bits held bits ++ low_bits c b
shifted_in bits c b held below fits =
    let width : 64 ≡ (64 - c) + c = omega arith in
    let shifted : (bits * 2 ^ c) % 2 ^ 64 ≡ (bits % 2 ^ (64 - c)) * 2 ^ c = ap (λ (w : ℕ). (bits * 2 ^ c) % 2 ^ w) width ∙ shl_mod bits c (64 - c) in
    ap (λ (m : ℕ). low_bits (held + c) (bit_or m b)) shifted
    ∙ ap (low_bits (held + c)) (or_shifted (bits % 2 ^ (64 - c)) c b below)
    ∙ low_bits-append held c (bits % 2 ^ (64 - c)) b below
    ∙ ap (λ (x : List Bool). x ++ low_bits c b) (low_bits-mod_more held (64 - c) bits (omega arith))

-- a register that takes a run of bytes holds their bits
pub register_filled :
    (bytes : List ℕ) (next k held bits run : ℕ)
    → low_bits (8 * k) run ≡ bits_of_bytes (take k (drop next bytes)) → run < 2 ^ (8 * k) → held + 8 * k ≤ 64
    → low_bits (held + 8 * k) (bit_or ((bits * 2 ^ (8 * k)) % 2 ^ 64) run) ++ bits_of_bytes (drop (next + k) bytes)
    ≡ low_bits held bits ++ bits_of_bytes (drop next bytes)
register_filled bytes next k held bits run same below fits =
    let rest = drop next bytes in
    ap₂ (λ (x : List Bool) (y : List Bool). x ++ y) (shifted_in bits (8 * k) run held below fits) (ap bits_of_bytes (sym (drop-drop k next bytes)))
    ∙ append_assoc (low_bits held bits) (low_bits (8 * k) run) (bits_of_bytes (drop k rest))
    ∙ ap (λ (x : List Bool). low_bits held bits ++ x)
    (ap (λ (x : List Bool). x ++ bits_of_bytes (drop k rest)) same
    ∙ sym (bits_of_bytes-append (take k rest) (drop k rest))
    ∙ ap bits_of_bytes (take-append-drop k rest))

-- what a reader has left stays as it was
pub reading_filled :
    (bytes : List ℕ) (register : Register) (k run wide : ℕ)
    → wide ≡ run
    → low_bits (8 * k) run ≡ bits_of_bytes (take k (drop register.next bytes)) → run < 2 ^ (8 * k) → register.held + 8 * k ≤ 64 → register.held ≤ 8 * register.next
    → reading bytes (record { next = register.next + k; bits = bit_or ((register.bits * 2 ^ (8 * k)) % 2 ^ 64) wide; held = register.held + 8 * k })
    ≡ reading bytes register
unfolding reading
reading_filled bytes register k run wide e same below fits begun =
    let place : 8 * (register.next + k) - (register.held + 8 * k) ≡ 8 * register.next - register.held = omega arith in
    let left =
    ap (λ (m : ℕ). low_bits (register.held + 8 * k) (bit_or ((register.bits * 2 ^ (8 * k)) % 2 ^ 64) m) ++ bits_of_bytes (drop (register.next + k) bytes)) e
    ∙ register_filled bytes register.next k register.held register.bits run same below fits in
    ap₂ (λ (p : ℕ) (x : List Bool). let r : Reading = record { place = p; left = x } in r) place left
