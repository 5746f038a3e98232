-- A block's bytes behind their number.
use Rattle.std.proofs.Common.{◌≡◌, ℕ, ◌+◌, ◌-◌, ◌<◌, ◌≤◌, List, ◌++◌, length, take, drop, get_or, ap, sym, ◌∙◌, subst, arith, append_assoc, length-drop}
use Rattle.std.specs.Int.{w16, to_be_bytes}
use Rattle.std.proofs.lemmas.List.{take-append-drop, take_rest, length-take-le, drop-drop}
use Rattle.byteorder.specs.Endian.{big_number}
use Rattle.store_model.specs.Format.{entry}
use Rattle.store_reader.proofs.HeaderBytes.{number_of_two, small_drop}

entry_of : (rest : List ℕ) (n : ℕ) → ((i : ℕ) → get_or rest i 0 < 256) → 2 ≤ length rest → n ≤ length rest - 2 → n ≡ big_number 2 rest → rest ≡ entry (take n (drop 2 rest)) ++ drop (2 + n) rest
unfolding entry
entry_of rest n small two room e =
    let content = take n (drop 2 rest) in
    let size : length content ≡ n = length-take-le n (drop 2 rest) (omega (arith, length-drop 2 rest)) in
    number_of_two rest n two small e
    ∙ ap (λ (xs : List ℕ). to_be_bytes w16 n ++ xs) (sym (take-append-drop n (drop 2 rest)) ∙ ap (λ (xs : List ℕ). content ++ xs) (drop-drop n 2 rest))
    ∙ ap (λ (m : ℕ). to_be_bytes w16 m ++ (content ++ drop (2 + n) rest)) (sym size)
    ∙ sym (append_assoc (to_be_bytes w16 (length content)) content (drop (2 + n) rest))

pub entry_at : (bytes content : List ℕ) (at n : ℕ) → ((i : ℕ) → get_or bytes i 0 < 256) → at ≤ length bytes → 2 ≤ length (take (length bytes - at) (drop at bytes)) → n ≤ length (take (length bytes - at) (drop at bytes)) - 2 → n ≡ big_number 2 (take (length bytes - at) (drop at bytes)) → content ≡ take (2 + n - 2) (drop 2 (take (length bytes - at) (drop at bytes))) → drop at bytes ≡ entry content ++ drop (at + (2 + length content)) bytes
entry_at bytes content at n small inside two room e is =
    let all : take (length bytes - at) (drop at bytes) ≡ drop at bytes = take_rest bytes at in
    let count : 2 + n - 2 ≡ n = omega arith in
    let rest = drop at bytes in
    let two_here : 2 ≤ length rest = subst (λ (xs : List ℕ). 2 ≤ length xs) all two in
    let room_here : n ≤ length rest - 2 = subst (λ (xs : List ℕ). n ≤ length xs - 2) all room in
    let content_is : content ≡ take n (drop 2 rest) = is ∙ ap (λ (m : ℕ). take m (drop 2 (take (length bytes - at) rest))) count ∙ ap (λ (xs : List ℕ). take n (drop 2 xs)) all in
    let size : length content ≡ n = ap length content_is ∙ length-take-le n (drop 2 rest) (omega (arith, length-drop 2 rest)) in
    entry_of rest n (small_drop bytes at small) two_here room_here (e ∙ ap (big_number 2) all)
    ∙ ap (λ (xs : List ℕ). entry xs ++ drop (2 + n) rest) (sym content_is)
    ∙ ap (λ (xs : List ℕ). entry content ++ xs) (drop-drop (2 + n) at bytes)
    ∙ ap (λ (m : ℕ). entry content ++ drop (at + (2 + m)) bytes) (sym size)
