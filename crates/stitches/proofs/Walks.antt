-- Stitches along a walk that is an image of a range, and such walks turned round.
use Rattle.std.proofs.Common.{◌≡◌, ℕ, zero, suc, ◌+◌, ◌*◌, ◌<◌, List, [], ◌∷◌, ◌++◌, map, reverse, refl, ap, sym, ◌∙◌, append_assoc, arith}
use Rattle.std.specs.List.{range_with_len}
use Rattle.std.proofs.lemmas.List.{reverse-append}
use Rattle.std.proofs.lemmas.List.FromFn.{map-range_with_len_more}
use Rattle.mesh_model.specs.Parts.{stitches_from, stitches_along}

-- the stitch of steps 2 · s and 2 · s + 1
abbrev pub two_steps : (ℕ → ℕ) → ℕ → List ℕ
two_steps f s = f (2 * s) ∷ f (2 * s + 1) ∷ f (2 * s + 2) ∷ []

stitches_on : (f : ℕ → ℕ) (l n b s : ℕ) → l ≡ 2 * n → b ≡ 2 * s → stitches_from (f b) (map f (range_with_len (b + 1) l)) ≡ map (two_steps f) (range_with_len s n)
stitches_on f zero zero b s el eb = refl
stitches_on f zero (suc n) b s el eb = absurd (omega arith)
stitches_on f (suc zero) n b s el eb = absurd (omega arith)
stitches_on f (suc (suc l)) zero b s el eb = absurd (omega arith)
stitches_on f (suc (suc l)) (suc n) b s el eb =
    let one : b + 1 ≡ 2 * s + 1 = omega arith in
    let two : b + 1 + 1 ≡ 2 * s + 2 = omega arith in
    let rest : stitches_from (f (b + 1 + 1)) (map f (range_with_len (b + 1 + 1 + 1) l)) ≡ map (two_steps f) (range_with_len (s + 1) n) = stitches_on f l n (b + 1 + 1) (s + 1) (omega arith) (omega arith) in
    λ t. (f (eb t) ∷ f (one t) ∷ f (two t) ∷ []) ∷ rest t

pub stitches_in_range : (f : ℕ → ℕ) (l n : ℕ) → l ≡ 2 * n → stitches_along (map f (range_with_len 0 (l + 1))) ≡ map (two_steps f) (range_with_len 0 n)
stitches_in_range f l n e =
    let more : l + 1 ≡ suc l = omega arith in
    ap (λ m. stitches_along (map f (range_with_len 0 m))) more ∙ stitches_on f l n 0 0 e (omega arith)

-- the images of a range from the last to the first
pub turned : (f g : ℕ → ℕ) (m s : ℕ) → ((u w : ℕ) → u < m → u + w + 1 ≡ m + s → f u ≡ g w) → reverse (map f (range_with_len 0 m)) ≡ map g (range_with_len s m)
turned f g zero s same = refl
turned f g (suc m) s same =
    let more : suc m ≡ m + 1 = omega arith in
    let last : map f (range_with_len 0 (suc m)) ≡ map f (range_with_len 0 m) ++ f m ∷ [] = ap (λ n. map f (range_with_len 0 n)) more ∙ map-range_with_len_more f 0 m m (omega arith) in
    let first : f m ≡ g s = same m s (omega arith) (omega arith) in
    let rest : reverse (map f (range_with_len 0 m)) ≡ map g (range_with_len (s + 1) m) = turned f g m (s + 1) (λ u w low e. same u w (omega arith) (omega arith)) in
    ap reverse last ∙ reverse-append (map f (range_with_len 0 m)) (f m ∷ []) ∙ (λ t. first t ∷ rest t)

-- one image of a range more
pub one_more : {A : Type 0} (f : ℕ → A) (base now next : List A) (n : ℕ) (x : A) → now ≡ base ++ map f (range_with_len 0 n) → next ≡ now ++ x ∷ [] → x ≡ f n →
    next ≡ base ++ map f (range_with_len 0 (n + 1))
one_more f base now next n x so_far pushed same =
    pushed ∙ (λ t. so_far t ++ same t ∷ []) ∙ append_assoc base (map f (range_with_len 0 n)) (f n ∷ [])
    ∙ ap (λ xs. base ++ xs) (sym (map-range_with_len_more f 0 n n (omega arith)))
