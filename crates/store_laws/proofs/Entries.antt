-- A block behind its length ends in one way.
use Rattle.std.proofs.Common.{◌≡◌, ℕ, ◌+◌, ◌*◌, ◌^◌, ◌<◌, List, [], ◌∷◌, ◌++◌, length, refl, ap, sym, ◌∙◌, ⊎_elim, arith, append_assoc, length-append}
use Rattle.std.specs.List.{flat_map, range_with_len}
use Rattle.std.specs.Int.{w16, to_be_bytes, from_be_bytes}
use Rattle.std.proofs.lemmas.Nat.{from_be_bytes-to_be_bytes_2}
use Rattle.store_model.specs.Format.{entry}
use Rattle.store_model.specs.Faults.{IsCutEntry}
use Rattle.store_laws.proofs.Members.{Member, in_range, of_range, same_heads, flat_apart}

pub entry_apart : (c d r s : List ℕ) → length c < 2 ^ 16 → length d < 2 ^ 16 → entry c ++ r ≡ entry d ++ s → (c ≡ d) × (r ≡ s)
unfolding entry
entry_apart c d r s short shorter e =
    let moved : to_be_bytes w16 (length c) ++ (c ++ r) ≡ to_be_bytes w16 (length d) ++ (d ++ s) =
    sym (append_assoc (to_be_bytes w16 (length c)) c r) ∙ e ∙ append_assoc (to_be_bytes w16 (length d)) d s in
    let heads = same_heads (to_be_bytes w16 (length c)) (to_be_bytes w16 (length d)) (c ++ r) (d ++ s) refl moved in
    let lengths : length c ≡ length d = sym (from_be_bytes-to_be_bytes_2 (length c) short) ∙ ap (from_be_bytes w16) heads.0 ∙ from_be_bytes-to_be_bytes_2 (length d) shorter in
    same_heads c d r s lengths heads.1

pub entries_apart : (c d : ℕ → List ℕ) (n : ℕ) (r s : List ℕ) → ((k : ℕ) → k < n → length (c k) < 2 ^ 16) → ((k : ℕ) → k < n → length (d k) < 2 ^ 16) → flat_map (λ k. entry (c k)) (range_with_len 0 n) ++ r ≡ flat_map (λ k. entry (d k)) (range_with_len 0 n) ++ s → ((k : ℕ) → k < n → c k ≡ d k) × (r ≡ s)
entries_apart c d n r s short shorter e =
    let below : (k : ℕ) → Member (range_with_len 0 n) k → k < n = λ k m. (let h = of_range 0 n k m in omega arith) in
    let parts = flat_apart (λ (k : ℕ). entry (c k)) (λ (k : ℕ). entry (d k)) (range_with_len 0 n)
    (λ k m u v q. (let both = entry_apart (c k) (d k) u v (short k (below k m)) (shorter k (below k m)) q in (ap entry both.0, both.1)))
    r s e in (
      (λ k h. (entry_apart (c k) (d k) [] [] (short k h) (shorter k h) (ap (λ (ys : List ℕ). ys ++ []) (parts.0 k (in_range 0 n k (omega arith) (omega arith))))).0),
      parts.1,
    )

-- where a whole entry stands, none is cut short
pub cut_no_entry : (c after rest : List ℕ) → length c < 2 ^ 16 → rest ≡ entry c ++ after → IsCutEntry rest → ⊥
unfolding entry
cut_no_entry c after rest short e cut =
    let size : length rest ≡ 2 + (length c + length after) = ap length e ∙ length-append (to_be_bytes w16 (length c) ++ c) after ∙ ap (λ (n : ℕ). n + length after) (length-append (to_be_bytes w16 (length c)) c) ∙ omega arith in
    ⊎_elim
    (λ (few : length rest < 2). omega arith)
    (λ (begun : (high low : ℕ) × (more : List ℕ) × (rest ≡ high ∷ low ∷ more) × (length more < 256 * high + low)).
    let high = begun.0 in
    let low = begun.1 in
    let more = begun.2 in
    let spelled = begun.3 in
    let less = begun.4 in
    let moved : high ∷ low ∷ more ≡ to_be_bytes w16 (length c) ++ (c ++ after) = sym spelled ∙ e ∙ append_assoc (to_be_bytes w16 (length c)) c after in
    let heads = same_heads (high ∷ low ∷ []) (to_be_bytes w16 (length c)) more (c ++ after) refl moved in
    let number : from_be_bytes w16 (high ∷ low ∷ []) ≡ length c = ap (from_be_bytes w16) heads.0 ∙ from_be_bytes-to_be_bytes_2 (length c) short in
    let left : length more ≡ length c + length after = ap length heads.1 ∙ length-append c after in
    omega arith)
    cut
