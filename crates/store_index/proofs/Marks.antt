-- The offsets that an index keeps.
use Rattle.std.proofs.Common.{◌≡◌, ℕ, suc, ◌+◌, ◌-◌, ◌*◌, ◌/◌, ◌%◌, ◌<◌, ◌≤◌, List, [], ◌∷◌, ◌++◌, length, get_or, refl, ap, sym, ◌∙◌, subst, arith}
use Rattle.std.proofs.lemmas.List.FromFn.{length-map-range_with_len, get_or-map-range_with_len, map-range_with_len_more}
use Rattle.store_index.specs.Places.{length_at, behind, AreThere}
use Rattle.store_index.specs.Index.{marks_of}
use Rattle.store_index.proofs.Walks.{behind_add}

-- ---- blocks that stand behind others
pub there_behind : (bytes : List ℕ) (first at a n m : ℕ) → AreThere bytes first n → at ≡ behind bytes first a → a + m ≤ n → AreThere bytes at m
there_behind bytes first at a n m all place few = λ i l.
    let low : a + i ≤ n = omega arith in
    subst (λ (b : ℕ). b ≤ length bytes) (sym (ap (λ (b : ℕ). behind bytes b i) place ∙ behind_add bytes first a i)) (all (a + i) low)

pub behind_more : (bytes : List ℕ) (first at a n m : ℕ) → at ≡ behind bytes first a → a + m ≡ n → behind bytes at m ≡ behind bytes first n
behind_more bytes first at a n m place sum = ap (λ (b : ℕ). behind bytes b m) place ∙ behind_add bytes first a m ∙ ap (behind bytes first) sum

pub no_marks : (bytes : List ℕ) (first : ℕ) → [] ≡ marks_of bytes first 0
no_marks bytes first = refl

pub one_more_mark : (bytes : List ℕ) (first at m : ℕ) (marks : List ℕ) → marks ≡ marks_of bytes first m → at ≡ behind bytes first (32 * m + 32) → marks ++ at ∷ [] ≡ marks_of bytes first (m + 1)
one_more_mark bytes first at m marks e place =
    ap (λ (xs : List ℕ). xs ++ at ∷ []) e
    ∙ ap (λ (b : ℕ). marks_of bytes first m ++ b ∷ []) place
    ∙ sym (map-range_with_len_more (λ (i : ℕ). behind bytes first (32 * i + 32)) 0 m m (omega arith))

-- ---- the mark before a block
pub mark_there : (bytes : List ℕ) (first total number : ℕ) (marks : List ℕ) → marks ≡ marks_of bytes first (total / 32) → number < total → 32 ≤ number → number / 32 - 1 < length marks
mark_there bytes first total number marks e below high =
    let size : length marks ≡ total / 32 = ap length e ∙ length-map-range_with_len (λ (i : ℕ). behind bytes first (32 * i + 32)) 0 (total / 32) in
    omega (arith, size)

pub mark_is : (bytes : List ℕ) (first total number d : ℕ) (marks : List ℕ) → marks ≡ marks_of bytes first (total / 32) → number < total → 32 ≤ number → get_or marks (number / 32 - 1) d ≡ behind bytes first (32 * (number / 32))
mark_is bytes first total number d marks e below high =
    let low : number / 32 - 1 < total / 32 = omega arith in
    let place : 32 * (number / 32 - 1) + 32 ≡ 32 * (number / 32) = omega arith in
    ap (λ (xs : List ℕ). get_or xs (number / 32 - 1) d) e
    ∙ get_or-map-range_with_len (λ (i : ℕ). behind bytes first (32 * i + 32)) 0 (total / 32) (number / 32 - 1) (number / 32 - 1) d low (omega arith)
    ∙ ap (behind bytes first) place

pub no_mark_is : (bytes : List ℕ) (first number : ℕ) → number < 32 → first ≡ behind bytes first (32 * (number / 32))
unfolding behind
no_mark_is bytes first number low = let none : 0 ≡ 32 * (number / 32) = omega arith in ap (behind bytes first) none

-- ---- the block
pub number_is : (number : ℕ) → 32 * (number / 32) + number % 32 ≡ number
number_is number = omega arith

pub block_whole : (bytes : List ℕ) (first total number at : ℕ) → AreThere bytes first total → number < total → at ≡ behind bytes first number → at + 2 + length_at bytes at ≤ length bytes
unfolding behind
block_whole bytes first total number at all below place =
    subst (λ (b : ℕ). b + 2 + length_at bytes b ≤ length bytes) (sym place) (all (suc number) (omega arith))

-- ---- from one block to the next
pub behind_none : (bytes : List ℕ) (first : ℕ) → first ≡ behind bytes first 0
unfolding behind
behind_none bytes first = refl

pub next_behind : (bytes : List ℕ) (first at n next : ℕ) → at ≡ behind bytes first n → next ≡ at + 2 + length_at bytes at → next ≡ behind bytes first (n + 1)
unfolding behind
next_behind bytes first at n next place e =
    let more : suc n ≡ n + 1 = omega arith in
    e ∙ ap (λ (b : ℕ). b + 2 + length_at bytes b) place ∙ ap (behind bytes first) more
