-- Of two lists of codes with tails that are equal, the shorter is a front of the longer; and what can't be a tail before a code.
use Rattle.std.proofs.Common.{◌≡◌, ◌≢◌, ℕ, ◌+◌, ◌*◌, ◌/◌, ◌%◌, ◌^◌, ◌<◌, ◌≤◌, ℤ, pos, negsuc, Bool, List, [], ◌∷◌, ◌++◌, length, drop, All, sym, refl, ap, ap₂, ◌∙◌, subst, inl, inr, arith, length-append, append_assoc, append-nil, pow_pos}
use Rattle.std.proofs.lemmas.Nat.{shr_split, mod_below}
use Rattle.std.proofs.lemmas.Int.{ints}
use Rattle.std.proofs.lemmas.List.Elements.{All-head, All-tail, All-same, All-drop}
use Rattle.std.proofs.lemmas.List.{drop_at}
use Rattle.rice_residuals.specs.Bits.{low_bits}
use Rattle.rice_residuals.specs.Code.{IsResidual, folded, code, codes}
use Rattle.rice_residuals.specs.Word.{OpensWith, word_bits}
use Rattle.rice_residuals.specs.Faults.{form, low_length, IsCut, IsLongForm, IsTooWide}
use Rattle.rice_residuals.proofs.LowBits.{length-low_bits, low_bits-mod, low_bits-injective}
use Rattle.rice_residuals.proofs.ByteBits.{append_parts}
use Rattle.rice_residuals.proofs.Forms.{form_parts, form-append, form_short, form_long, low_length_short, low_length_long, HasForm, form_of_code, same_code}

-- ---- one code

-- bits that begin with a whole form
pub record IsWhole (r ones : ℕ) (low after rest : List Bool) : Type 0 where
  pub few : ones ≤ 32
  pub whole : length low ≡ low_length r ones
  pub spelled : rest ≡ form ones (low ++ after)

pub whole_code : (r u ones : ℕ) (low after rest : List Bool) → HasForm r u ones low → rest ≡ code r u ++ after → IsWhole r ones low after rest
whole_code r u ones low after rest f e = record {
  few = f.few;
  whole = f.whole;
  spelled = e ∙ ap (λ (x : List Bool). x ++ after) f.spelled ∙ form-append ones low after;
}

pub whole_parts : (r a b : ℕ) (x y s t rest : List Bool) → IsWhole r a x s rest → IsWhole r b y t rest → (a ≡ b) × (x ≡ y) × (s ≡ t)
whole_parts r a b x y s t rest p q =
    let parts = form_parts a b (x ++ s) (y ++ t) p.few q.few (sym p.spelled ∙ q.spelled) in
    let l : length x ≡ length y = p.whole ∙ ap (low_length r) parts.0 ∙ sym q.whole in
    let inner = append_parts x s y t l parts.1 in
    (parts.0, inner.0, inner.1)

-- a code is no front of another
pub code_parts : (r u v : ℕ) (x y : List Bool) → u < 262144 → v < 262144 → code r u ++ x ≡ code r v ++ y → (u ≡ v) × (x ≡ y)
code_parts r u v x y p q e =
    let f = form_of_code r u in
    let g = form_of_code r v in
    let parts = whole_parts r f.0 g.0 f.1 g.1 x y (code r u ++ x) (whole_code r u f.0 f.1 x (code r u ++ x) f.2 refl) (whole_code r v g.0 g.1 y (code r u ++ x) g.2 e) in
    let moved : HasForm r v f.0 f.1 = subst (λ (n : ℕ). HasForm r v n f.1) (sym parts.0) (subst (λ (l : List Bool). HasForm r v g.0 l) (sym parts.1) g.2) in
    (same_code r u v f.0 f.1 p q f.2 moved, parts.2)

-- the bits begin with no code of a residual
pub HasNoCode : ℕ → List Bool → Type 0
HasNoCode r rest = (u : ℕ) (after : List Bool) → u < 262144 → rest ≡ code r u ++ after → ⊥

pub cut_not_whole : (r ones : ℕ) (low after rest : List Bool) → IsCut r rest → IsWhole r ones low after rest → ⊥
cut_not_whole r ones low after rest c w =
    let joined : form ones (low ++ (after ++ c.missing)) ≡ form c.ones c.low =
    ap (form ones) (sym (append_assoc low after c.missing)) ∙ sym (form-append ones (low ++ after) c.missing) ∙ ap (λ (x : List Bool). x ++ c.missing) (sym w.spelled) ∙ c.spelled in
    let parts = form_parts ones c.ones (low ++ (after ++ c.missing)) c.low w.few c.few joined in
    let l : length low ≡ length c.low = w.whole ∙ ap (low_length r) parts.0 ∙ sym c.whole in
    none after c.missing c.some (omega (arith, ap length parts.1, length-append low (after ++ c.missing)))
  where
    none : (x y : List Bool) → y ≢ [] → length (x ++ y) ≡ 0 → ⊥
    none [] [] n e = n refl
    none [] (b ∷ y) n e = omega arith
    none (b ∷ x) y n e = omega arith

pub HasNoCode-cut : (r : ℕ) (rest : List Bool) → IsCut r rest → HasNoCode r rest
unfolding HasNoCode
HasNoCode-cut r rest c u after p e =
    let f = form_of_code r u in
    cut_not_whole r f.0 f.1 after rest c (whole_code r u f.0 f.1 after rest f.2 e)

pub whole_long : (r : ℕ) (rest : List Bool) (l : IsLongForm r rest) → IsWhole r 32 (low_bits 18 l.folded) l.after rest
whole_long r rest l = record {
  few = omega arith;
  whole = length-low_bits 18 l.folded ∙ sym (low_length_long r);
  spelled = l.spelled ∙ sym (form_long (low_bits 18 l.folded ++ l.after));
}

pub whole_wide : (r : ℕ) (rest : List Bool) (w : IsTooWide r rest) → IsWhole r w.ones (low_bits r w.low) w.after rest
whole_wide r rest w = record {
  few = omega (arith, w.few);
  whole = length-low_bits r w.low ∙ sym (low_length_short r w.ones w.few);
  spelled = w.spelled ∙ sym (form_short w.ones (low_bits r w.low ++ w.after) w.few);
}

pub HasNoCode-long : (r : ℕ) (rest : List Bool) → IsLongForm r rest → HasNoCode r rest
unfolding HasNoCode
HasNoCode-long r rest l u after p e =
    let f = form_of_code r u in
    let parts = whole_parts r 32 f.0 (low_bits 18 l.folded) f.1 l.after after rest (whole_long r rest l) (whole_code r u f.0 f.1 after rest f.2 e) in
    elim f.2.kind [
      | inl a ↦ absurd (omega arith)
      | inr a ↦
          let same : l.folded ≡ u = low_bits-injective 18 l.folded u l.fits p (parts.1 ∙ a.2) in
          let small = l.small in
          let moved : u / 2 ^ r < 32 = subst (λ (n : ℕ). n / 2 ^ r < 32) same small in
          omega arith
    ]

pub HasNoCode-wide : (r : ℕ) (rest : List Bool) → IsTooWide r rest → HasNoCode r rest
unfolding HasNoCode
HasNoCode-wide r rest w u after p e =
    let f = form_of_code r u in
    let parts = whole_parts r w.ones f.0 (low_bits r w.low) f.1 w.after after rest (whole_wide r rest w) (whole_code r u f.0 f.1 after rest f.2 e) in
    let few = w.few in
    elim f.2.kind [
      | inl a ↦
          let top : w.ones ≡ u / 2 ^ r = parts.0 ∙ a.1 in
          let low : w.low ≡ u % 2 ^ r = low_bits-injective r w.low (u % 2 ^ r) w.below (mod_below u (2 ^ r) (pow_pos r)) (parts.1 ∙ a.2 ∙ sym (low_bits-mod r u)) in
          let whole : u ≡ w.ones * 2 ^ r + w.low = sym (shr_split u r) ∙ ap₂ (λ (h : ℕ) (l : ℕ). h * 2 ^ r + l) (sym top) (sym low) in
          let wide = w.wide in
          omega arith
      | inr a ↦ absurd (omega arith)
    ]

-- ---- residuals

pub folded_below : (x : ℤ) → IsResidual x → folded x < 262144
folded_below (pos n) h = omega (arith, ints, h.0, h.1)
folded_below (negsuc n) h = omega (arith, ints, h.0, h.1)

pub folded-injective : (x y : ℤ) → folded x ≡ folded y → x ≡ y
folded-injective (pos a) (pos b) e = ap pos (omega arith)
folded-injective (pos a) (negsuc b) e = absurd (omega arith)
folded-injective (negsuc a) (pos b) e = absurd (omega arith)
folded-injective (negsuc a) (negsuc b) e = ap negsuc (omega arith)

-- the codes of the shorter list are a front of those of the longer
pub codes_front :
    (r : ℕ) (xs ys : List ℤ) (x y : List Bool)
    → All IsResidual xs → All IsResidual ys → codes r xs ++ x ≡ codes r ys ++ y → length xs ≤ length ys
    → (zs : List ℤ) × (ys ≡ xs ++ zs) × (x ≡ codes r zs ++ y)
unfolding codes
codes_front r [] ys x y p q e l = (ys, refl, e)
codes_front r (a ∷ xs) [] x y p q e l = absurd (omega arith)
codes_front r (a ∷ xs) (b ∷ ys) x y p q e l =
    let regrouped : code r (folded a) ++ (codes r xs ++ x) ≡ code r (folded b) ++ (codes r ys ++ y) =
    sym (append_assoc (code r (folded a)) (codes r xs) x) ∙ e ∙ append_assoc (code r (folded b)) (codes r ys) y in
    let head = code_parts r (folded a) (folded b) (codes r xs ++ x) (codes r ys ++ y) (folded_below a (All-head IsResidual a xs p)) (folded_below b (All-head IsResidual b ys q)) regrouped in
    let same : a ≡ b = folded-injective a b head.0 in
    let tail = codes_front r xs ys x y (All-tail IsResidual a xs p) (All-tail IsResidual b ys q) head.1 (omega arith) in
    (tail.0, ap₂ (λ (c : ℤ) (cs : List ℤ). c ∷ cs) (sym same) tail.1, tail.2)

-- ---- words

pub word_parts : (r s : ℕ) (xs ys : List ℤ) (x y : List Bool) → r < 16 → s < 16 → word_bits r xs ++ x ≡ word_bits s ys ++ y → (r ≡ s) × (codes r xs ++ x ≡ codes s ys ++ y)
unfolding word_bits codes
word_parts r s xs ys x y p q e =
    let regrouped : low_bits 4 r ++ (codes r xs ++ x) ≡ low_bits 4 s ++ (codes s ys ++ y) =
    sym (append_assoc (low_bits 4 r) (codes r xs) x) ∙ e ∙ append_assoc (low_bits 4 s) (codes s ys) y in
    let parts = append_parts (low_bits 4 r) (codes r xs ++ x) (low_bits 4 s) (codes s ys ++ y) (length-low_bits 4 r ∙ sym (length-low_bits 4 s)) regrouped in
    (low_bits-injective 4 r s p q parts.0, parts.1)

-- two openings of the same bits
pub opens_front :
    (r s : ℕ) (xs ys : List ℤ) (bits x y : List Bool)
    → OpensWith r xs bits x → OpensWith s ys bits y → length xs ≤ length ys
    → (r ≡ s) × ((zs : List ℤ) × (ys ≡ xs ++ zs) × (x ≡ codes r zs ++ y))
opens_front r s xs ys bits x y p q l =
    let parts = word_parts r s xs ys x y p.parameter q.parameter (sym p.spelled ∙ q.spelled) in
    (parts.0, codes_front r xs ys x y p.in_range q.in_range (parts.1 ∙ ap (λ (t : ℕ). codes t ys ++ y) (sym parts.0)) l)

pub opens_same :
    (r s : ℕ) (xs ys : List ℤ) (bits x y : List Bool)
    → OpensWith r xs bits x → OpensWith s ys bits y → length xs ≡ length ys
    → (r ≡ s) × (xs ≡ ys) × (x ≡ y)
unfolding codes
opens_same r s xs ys bits x y p q l =
    let front = opens_front r s xs ys bits x y p q (omega arith) in
    let zs = front.1.0 in
    let none : zs ≡ [] = empty zs (omega (arith, ap length front.1.1, length-append xs zs)) in
    (front.0, sym (front.1.1 ∙ ap (λ (z : List ℤ). xs ++ z) none ∙ append-nil xs), front.1.2 ∙ ap (λ (z : List ℤ). codes r z ++ y) none)
  where
    empty : (z : List ℤ) → length z ≡ 0 → z ≡ []
    empty [] e = refl
    empty (a ∷ z) e = absurd (omega arith)

-- where no code follows, no longer list opens the bits
pub opens_stop :
    (r s : ℕ) (xs ys : List ℤ) (bits x y : List Bool)
    → OpensWith r xs bits x → HasNoCode r x → OpensWith s ys bits y → length xs < length ys → ⊥
unfolding codes HasNoCode
opens_stop r s xs ys bits x y p none q l =
    let front = opens_front r s xs ys bits x y p q (omega arith) in
    let zs = front.1.0 in
    stops zs (omega (arith, ap length front.1.1, length-append xs zs)) (ranged zs front.1.1) front.1.2
  where
    ranged : (z : List ℤ) → ys ≡ xs ++ z → All IsResidual z
    ranged z e =
        All-same IsResidual z (drop (length xs) ys) (sym (ap (drop (length xs)) e ∙ drop_at xs z (length xs) refl)) (All-drop IsResidual (length xs) ys q.in_range)

    stops : (z : List ℤ) → 0 < length z → All IsResidual z → x ≡ codes r z ++ y → ⊥
    stops [] h a e = omega arith
    stops (b ∷ z) h a e =
        none (folded b) (codes r z ++ y) (folded_below b (All-head IsResidual b z a)) (e ∙ append_assoc (code r (folded b)) (codes r z) y)
