-- The header of bytes is one.
use Rattle.std.proofs.Common.{◌≡◌, ◌⊎◌, inl, inr, cond, eqb, ℕ, suc, ◌+◌, ◌*◌, ◌^◌, ◌<◌, ◌≤◌, List, [], ◌∷◌, ◌++◌, length, take, drop, get_or, refl, ap, sym, ◌∙◌, subst, ⊎_elim, arith, append-nil}
use Rattle.std.specs.Int.{w32, to_be_bytes, from_be_bytes}
use Rattle.std.proofs.lemmas.Nat.{from_be_bytes-to_be_bytes_4}
use Rattle.std.proofs.Math.Nat.{mul-le-mul_left}
use Rattle.four_point.specs.Steps.{IsStep}
use Rattle.store_model.specs.declared.fault.Field.{Field}
use Rattle.store_model.specs.declared.fault.Field.TheVariants.{Width, Height, Samples, Levels as LevelCount, Step}
use Rattle.store_model.specs.Format.{Head, IsSoundHead, magic, head_bytes}
use Rattle.store_model.specs.Faults.{BeginsAs, IsCutHead, OpensWithHead, IsSide, IsBadField}

-- what a header needs to be told by its bytes
pub record IsSpelled (head : Head) : Type 0 where
  pub known : ((head.version ≡ 1) × (head.step ≡ 1)) ⊎ (head.version ≡ 2)
  pub wide : head.width < 2 ^ 32
  pub high : head.height < 2 ^ 32

pub spelled_of_open : (head : Head) (bytes rest : List ℕ) → OpensWithHead head bytes rest → IsSpelled head
spelled_of_open head bytes rest o = record { known = o.known; wide = o.wide; high = o.high }

side_of_product : (w h : ℕ) → 1 ≤ h → w * h ≤ 2 ^ 26 → w ≤ 2 ^ 26
side_of_product w h some few = omega (arith, mul-le-mul_left {m = 1} {n = h} w some)

pub side_of_sound : (head : Head) → IsSoundHead head → IsSide head.width × IsSide head.height
side_of_sound head sound =
    let columns = sound.some_columns in
    let rows = sound.some_rows in
    let few = sound.few_samples in
    let turned : head.height * head.width ≤ 2 ^ 26 = omega arith in
    ((columns, side_of_product head.width head.height rows few), (rows, side_of_product head.height head.width columns turned))

pub spelled_of_sound : (head : Head) → IsSoundHead head → IsSpelled head
spelled_of_sound head sound =
    let sides = side_of_sound head sound in
    let wide : head.width ≤ 2 ^ 26 = sides.0.1 in
    let high : head.height ≤ 2 ^ 26 = sides.1.1 in
    record {
      known =
          ⊎_elim
          (λ (one : (head.version ≡ 1) × (head.step ≡ 1)). inl one)
          (λ (two : (head.version ≡ 2) × IsStep head.step). inr two.0)
          sound.version;
      wide = omega arith;
      high = omega arith;
    }

-- the step, where a header has one
step_bytes : ℕ → ℕ → List ℕ
step_bytes version step = cond (eqb version 2) (step ∷ []) []

tail_apart : (version a b : ℕ) (r s : List ℕ) → ((version ≡ 1) × (a ≡ 1)) ⊎ (version ≡ 2) → ((version ≡ 1) × (b ≡ 1)) ⊎ (version ≡ 2) → step_bytes version a ++ r ≡ step_bytes version b ++ s → (a ≡ b) × (r ≡ s)
unfolding step_bytes
tail_apart version a b r s p q e =
    ⊎_elim
    (λ (one : (version ≡ 1) × (a ≡ 1)).
    ⊎_elim
    (λ (first : (version ≡ 1) × (b ≡ 1)). (one.1 ∙ sym first.1, subst (λ (v : ℕ). cond (eqb v 2) (a ∷ []) [] ++ r ≡ cond (eqb v 2) (b ∷ []) [] ++ s) one.0 e))
    (λ (two : version ≡ 2). (let far = one.0 in absurd (omega arith)))
    q)
    (λ (two : version ≡ 2).
    let opened : a ∷ r ≡ b ∷ s = subst (λ (v : ℕ). cond (eqb v 2) (a ∷ []) [] ++ r ≡ cond (eqb v 2) (b ∷ []) [] ++ s) two e in
    let first : a ≡ b = cc in
    let rest : r ≡ s = cc in (first, rest))
    p

same_head : (h g : Head) → h.version ≡ g.version → h.width ≡ g.width → h.height ≡ g.height → h.levels ≡ g.levels → h.step ≡ g.step → h ≡ g
same_head h g v w t l s = λ i. record { version = v i; width = w i; height = t i; levels = l i; step = s i }

pub head_apart : (h g : Head) (r s : List ℕ) → IsSpelled h → IsSpelled g → head_bytes h ++ r ≡ head_bytes g ++ s → (h ≡ g) × (r ≡ s)
unfolding head_bytes step_bytes
head_apart h g r s a b e =
    let version : h.version ≡ g.version = (let v : 48 + h.version ≡ 48 + g.version = ap (λ (xs : List ℕ). get_or xs 3 0) e in omega arith) in
    let widths : to_be_bytes w32 h.width ≡ to_be_bytes w32 g.width = ap (λ (xs : List ℕ). take 4 (drop 4 xs)) e in
    let heights : to_be_bytes w32 h.height ≡ to_be_bytes w32 g.height = ap (λ (xs : List ℕ). take 4 (drop 8 xs)) e in
    let levels : h.levels ≡ g.levels = ap (λ (xs : List ℕ). get_or xs 12 0) e in
    let tails : step_bytes h.version h.step ++ r ≡ step_bytes g.version g.step ++ s = ap (drop 13) e in
    let width : h.width ≡ g.width = sym (from_be_bytes-to_be_bytes_4 h.width a.wide) ∙ ap (from_be_bytes w32) widths ∙ from_be_bytes-to_be_bytes_4 g.width b.wide in
    let height : h.height ≡ g.height = sym (from_be_bytes-to_be_bytes_4 h.height a.high) ∙ ap (from_be_bytes w32) heights ∙ from_be_bytes-to_be_bytes_4 g.height b.high in
    let known : ((h.version ≡ 1) × (g.step ≡ 1)) ⊎ (h.version ≡ 2) = subst (λ (v : ℕ). ((v ≡ 1) × (g.step ≡ 1)) ⊎ (v ≡ 2)) (sym version) b.known in
    let moved : step_bytes h.version h.step ++ r ≡ step_bytes h.version g.step ++ s = tails ∙ ap (λ (v : ℕ). step_bytes v g.step ++ s) (sym version) in
    let rest = tail_apart h.version h.step g.step r s a.known known moved in
    (same_head h g version width height levels rest.0, rest.1)

pub head_size : (head : Head) (rest : List ℕ) → IsSpelled head → length (head_bytes head ++ rest) ≡ 12 + head.version + length rest
unfolding head_bytes
head_size head rest a =
    counted (length (cond (eqb head.version 2) (head.step ∷ []) [] ++ rest))
    ∙ ⊎_elim
    (λ (one : (head.version ≡ 1) × (head.step ≡ 1)).
    ap (λ (v : ℕ). 13 + length (cond (eqb v 2) (head.step ∷ []) [] ++ rest)) one.0 ∙ one_more (length rest) ∙ ap (λ (v : ℕ). 12 + v + length rest) (sym one.0))
    (λ (two : head.version ≡ 2).
    ap (λ (v : ℕ). 13 + length (cond (eqb v 2) (head.step ∷ []) [] ++ rest)) two ∙ two_more (length rest) ∙ ap (λ (v : ℕ). 12 + v + length rest) (sym two))
    a.known
  where
    counted : (n : ℕ) → suc (suc (suc (suc (suc (suc (suc (suc (suc (suc (suc (suc (suc n)))))))))))) ≡ 13 + n
    counted n = omega arith

    one_more : (n : ℕ) → 13 + n ≡ 12 + 1 + n
    one_more n = omega arith

    two_more : (n : ℕ) → 13 + suc n ≡ 12 + 2 + n
    two_more n = omega arith

first_four : (head : Head) (rest : List ℕ) → take 4 (head_bytes head ++ rest) ≡ magic head.version
unfolding head_bytes
first_four head rest = refl

pub begins : (head : Head) (bytes rest : List ℕ) → bytes ≡ head_bytes head ++ rest → BeginsAs head.version bytes
begins head bytes rest e = ([], append-nil (take 4 bytes) ∙ ap (take 4) e ∙ first_four head rest)

pub no_bad_magic : (head : Head) (bytes rest : List ℕ) → IsSpelled head → bytes ≡ head_bytes head ++ rest → (¬ BeginsAs 1 bytes) → (¬ BeginsAs 2 bytes) → ⊥
no_bad_magic head bytes rest a e one two =
    let b = begins head bytes rest e in
    ⊎_elim
    (λ (v : (head.version ≡ 1) × (head.step ≡ 1)). one (subst (λ (n : ℕ). BeginsAs n bytes) v.0 b))
    (λ (v : head.version ≡ 2). two (subst (λ (n : ℕ). BeginsAs n bytes) v b))
    a.known

pub no_cut_head : (head : Head) (bytes rest : List ℕ) → IsSpelled head → bytes ≡ head_bytes head ++ rest → IsCutHead bytes → ⊥
no_cut_head head bytes rest a e cut =
    let size : length bytes ≡ 12 + head.version + length rest = ap length e ∙ head_size head rest a in
    let more = cut.begins.0 in
    let four : magic head.version ++ more ≡ magic cut.version = ap (λ (xs : List ℕ). xs ++ more) (sym (ap (take 4) e ∙ first_four head rest)) ∙ cut.begins.1 in
    let same : 48 + head.version ≡ 48 + cut.version = ap (λ (xs : List ℕ). get_or xs 3 0) four in
    let short = cut.cut in
    omega arith

pub no_bad_field : (head : Head) (field : Field) → IsSoundHead head → IsBadField head field → ⊥
no_bad_field head Width sound bad = bad (side_of_sound head sound).0
no_bad_field head Height sound bad = bad.1 (side_of_sound head sound).1
no_bad_field head Samples sound bad = (let few = sound.few_samples in let many = bad.2 in omega arith)
no_bad_field head LevelCount sound bad = bad.3 (sound.some_levels, sound.few_levels)
no_bad_field head Step sound bad =
    let even = bad.4 in
    ⊎_elim
    (λ (one : (head.version ≡ 1) × (head.step ≡ 1)). (let e = one.1 in omega arith))
    (λ (two : (head.version ≡ 2) × IsStep head.step). (let odd = two.1.odd in omega arith))
    sound.version

pub one_bad_field : (head : Head) (a b : Field) → IsBadField head a → IsBadField head b → a ≡ b
one_bad_field head Width Width p q = refl
one_bad_field head Width Height p q = absurd (p q.0)
one_bad_field head Width Samples p q = absurd (p q.0)
one_bad_field head Width LevelCount p q = absurd (p q.0)
one_bad_field head Width Step p q = absurd (p q.0)
one_bad_field head Height Width p q = absurd (q p.0)
one_bad_field head Height Height p q = refl
one_bad_field head Height Samples p q = absurd (p.1 q.1)
one_bad_field head Height LevelCount p q = absurd (p.1 q.1)
one_bad_field head Height Step p q = absurd (p.1 q.1)
one_bad_field head Samples Width p q = absurd (q p.0)
one_bad_field head Samples Height p q = absurd (q.1 p.1)
one_bad_field head Samples Samples p q = refl
one_bad_field head Samples LevelCount p q = (let m = p.2 in let n = q.2 in absurd (omega arith))
one_bad_field head Samples Step p q = (let m = p.2 in let n = q.2 in absurd (omega arith))
one_bad_field head LevelCount Width p q = absurd (q p.0)
one_bad_field head LevelCount Height p q = absurd (q.1 p.1)
one_bad_field head LevelCount Samples p q = (let m = q.2 in let n = p.2 in absurd (omega arith))
one_bad_field head LevelCount LevelCount p q = refl
one_bad_field head LevelCount Step p q = absurd (p.3 q.3)
one_bad_field head Step Width p q = absurd (q p.0)
one_bad_field head Step Height p q = absurd (q.1 p.1)
one_bad_field head Step Samples p q = (let m = q.2 in let n = p.2 in absurd (omega arith))
one_bad_field head Step LevelCount p q = absurd (q.3 p.3)
one_bad_field head Step Step p q = refl
