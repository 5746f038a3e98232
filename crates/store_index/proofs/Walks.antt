-- From block to block through bytes.
use Rattle.std.proofs.Common.{◌≡◌, ℕ, zero, suc, ◌+◌, ◌^◌, ◌<◌, ◌≤◌, List, ◌++◌, length, take, drop, refl, ap, sym, ◌∙◌, arith, append_assoc, append-nil, length-append}
use Rattle.std.specs.List.{flat_map, range_with_len}
use Rattle.std.specs.Int.{w16, to_be_bytes, from_be_bytes}
use Rattle.std.proofs.lemmas.Nat.{from_be_bytes-to_be_bytes_2}
use Rattle.std.proofs.lemmas.List.{drop_at, take_at, drop-drop}
use Rattle.byteorder.specs.Endian.{big_number}
use Rattle.store_model.specs.Format.{entry}
use Rattle.store_index.specs.Places.{length_at, content_at, behind}
use Rattle.store_index.proofs.Lists.{flat_range_next, flat_split}

-- ---- one block
number_of_two : (n : ℕ) (rest : List ℕ) → big_number 2 (to_be_bytes w16 n ++ rest) ≡ from_be_bytes w16 (to_be_bytes w16 n)
number_of_two n rest = omega arith

pub entry_size : (content : List ℕ) → length (entry content) ≡ 2 + length content
unfolding entry
entry_size content = length-append (to_be_bytes w16 (length content)) content

pub length_here : (bytes before content after : List ℕ) (at : ℕ) → length content < 2 ^ 16 → at ≡ length before → bytes ≡ before ++ (entry content ++ after) → length_at bytes at ≡ length content
unfolding length_at entry
length_here bytes before content after at short place spelled =
    let rest : drop at bytes ≡ to_be_bytes w16 (length content) ++ (content ++ after) =
    ap (drop at) spelled ∙ drop_at before (entry content ++ after) at (sym place) ∙ append_assoc (to_be_bytes w16 (length content)) content after in
    ap (big_number 2) rest ∙ number_of_two (length content) (content ++ after) ∙ from_be_bytes-to_be_bytes_2 (length content) short

pub content_here : (bytes before content after : List ℕ) (at : ℕ) → length content < 2 ^ 16 → at ≡ length before → bytes ≡ before ++ (entry content ++ after) → content_at bytes at ≡ content
unfolding content_at entry
content_here bytes before content after at short place spelled =
    let rest : drop at bytes ≡ to_be_bytes w16 (length content) ++ (content ++ after) =
    ap (drop at) spelled ∙ drop_at before (entry content ++ after) at (sym place) ∙ append_assoc (to_be_bytes w16 (length content)) content after in
    let beyond : drop (at + 2) bytes ≡ content ++ after = sym (drop-drop 2 at bytes) ∙ ap (drop 2) rest in
    ap (λ (n : ℕ). take n (drop (at + 2) bytes)) (length_here bytes before content after at short place spelled)
    ∙ ap (take (length content)) beyond
    ∙ take_at content after (length content) refl

-- ---- blocks one behind another
pub behind_add : (bytes : List ℕ) (at a n : ℕ) → behind bytes (behind bytes at a) n ≡ behind bytes at (a + n)
unfolding behind
behind_add bytes at a zero = ap (behind bytes at) (let e : a ≡ a + 0 = omega arith in e)
behind_add bytes at a (suc n) =
    let next : suc (a + n) ≡ a + suc n = omega arith in
    ap (λ (b : ℕ). b + 2 + length_at bytes b) (behind_add bytes at a n) ∙ ap (behind bytes at) next

pub walked : (bytes before after : List ℕ) (content : ℕ → List ℕ) (n k : ℕ) → ((m : ℕ) → m < n → length (content m) < 2 ^ 16) → bytes ≡ before ++ (flat_map (λ m. entry (content m)) (range_with_len 0 n) ++ after) → k ≤ n → behind bytes (length before) k ≡ length (before ++ flat_map (λ m. entry (content m)) (range_with_len 0 k))
unfolding behind
walked bytes before after content n zero short spelled few = ap length (sym (append-nil before))
walked bytes before after content n (suc k) short spelled few =
    let f : ℕ → List ℕ = λ m. entry (content m) in
    let so_far = flat_map f (range_with_len 0 k) in
    let split = flat_split f k n (omega arith) in
    let at = behind bytes (length before) k in
    let place : at ≡ length (before ++ so_far) = walked bytes before after content n k short spelled (omega arith) in
    let parted : bytes ≡ (before ++ so_far) ++ (entry (content k) ++ (split.0 ++ after)) =
    spelled
    ∙ ap (λ (xs : List ℕ). before ++ (xs ++ after)) split.1
    ∙ ap (λ (xs : List ℕ). before ++ xs) (append_assoc so_far (f k ++ split.0) after ∙ ap (λ (xs : List ℕ). so_far ++ xs) (append_assoc (f k) split.0 after))
    ∙ sym (append_assoc before so_far (f k ++ (split.0 ++ after))) in
    let size : length_at bytes at ≡ length (content k) = length_here bytes (before ++ so_far) (content k) (split.0 ++ after) at (short k (omega arith)) place parted in
    let more : length (before ++ flat_map f (range_with_len 0 (suc k))) ≡ length (before ++ so_far) + length (entry (content k)) =
    ap (λ (xs : List ℕ). length (before ++ xs)) (flat_range_next f k) ∙ ap length (sym (append_assoc before so_far (f k))) ∙ length-append (before ++ so_far) (f k) in
    let counted = entry_size (content k) in
    let here : at + 2 + length_at bytes at ≡ length (before ++ so_far) + length (entry (content k)) = omega arith in
    here ∙ sym more
