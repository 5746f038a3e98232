-- Any bytes begin with the header of a store, or have a fault in it.
use Rattle.std.proofs.Common.{◌≡◌, ◌⊎◌, inl, inr, ℕ, ◌+◌, ◌-◌, ◌*◌, ◌%◌, ◌^◌, ◌<◌, ◌≤◌, List, [], ◌∷◌, ◌++◌, length, take, drop, get_or, refl, ap, ap₂, ◌∙◌, ⊎_elim, arith}
use Rattle.std.proofs.lemmas.Bool.{cases_lt, cases_eq}
use Rattle.std.proofs.lemmas.List.{take-append-drop, append_cancel_right}
use Rattle.std.proofs.lemmas.List.Elements.{All-take, All-drop}
use Rattle.byteorder.specs.Endian.{big_number}
use Rattle.store_model.specs.declared.fault.Field.{Field}
use Rattle.store_model.specs.declared.fault.Field.TheVariants.{Width, Height, Samples, Levels as LevelCount, Step}
use Rattle.store_model.specs.declared.fault.StoreFault.TheVariants.{BadMagic, BadHeader, CutShort}
use Rattle.store_model.specs.Format.{Head, IsSoundHead, magic, head_bytes}
use Rattle.store_model.specs.Faults.{BeginsAs, OpensWithHead, IsSide, IsBadField}
use Rattle.store_reader.proofs.HeaderBytes.{header_opens}
use Rattle.store_verdicts.specs.Laws.{HasSomeStoreFault}
use Rattle.store_verdicts.proofs.Blocks.{AreBytes, small_at}

-- ---- the first four bytes

abbrev IsFrontOf : List ℕ → List ℕ → Type 0
IsFrontOf xs ys = (more : List ℕ) × (xs ++ more ≡ ys)

front_or_not : (xs ys : List ℕ) → IsFrontOf xs ys ⊎ (IsFrontOf xs ys → ⊥)
front_or_not [] ys = inl (ys, refl)
front_or_not (x ∷ xs) [] = inr (λ h. omega (arith, ap length h.1))
front_or_not (x ∷ xs) (y ∷ ys) =
    ⊎_elim
    (λ (e : x ≡ y).
    ⊎_elim
    (λ (f : IsFrontOf xs ys). inl (f.0, ap₂ (λ (z : ℕ) (zs : List ℕ). z ∷ zs) e f.1))
    (λ (no : IsFrontOf xs ys → ⊥).
    inr (λ h.
    let all : x ∷ (xs ++ h.0) ≡ y ∷ ys = h.1 in
    let rest : xs ++ h.0 ≡ ys = cc in
    no (h.0, rest)))
    (front_or_not xs ys))
    (λ (other : x ≡ y → ⊥).
    inr (λ h.
    let all : x ∷ (xs ++ h.0) ≡ y ∷ ys = h.1 in
    let same : x ≡ y = cc in
    other same))
    (cases_eq x y)

begins_or_not : (version : ℕ) (bytes : List ℕ) → BeginsAs version bytes ⊎ (BeginsAs version bytes → ⊥)
begins_or_not version bytes = front_or_not (take 4 bytes) (magic version)

-- ---- the fields

IsKnown : Head → Type 0
IsKnown head = ((head.version ≡ 1) × (head.step ≡ 1)) ⊎ (head.version ≡ 2)

record BadField (head : Head) : Type 0 where
  field : Field
  bad : IsBadField head field

side_or_not : (n : ℕ) → IsSide n ⊎ (IsSide n → ⊥)
side_or_not n =
    ⊎_elim
    (λ (none : n < 1). inr (λ s. (let h = s.0 in omega arith)))
    (λ (some : 1 ≤ n).
    ⊎_elim
    (λ (long : 2 ^ 26 < n). inr (λ s. (let h = s.1 in omega arith)))
    (λ (short : n ≤ 2 ^ 26). inl (some, short))
    (cases_lt (2 ^ 26) n))
    (cases_lt n 1)

levels_or_not : (n : ℕ) → ((1 ≤ n) × (n ≤ 12)) ⊎ ((1 ≤ n) × (n ≤ 12) → ⊥)
levels_or_not n =
    ⊎_elim
    (λ (none : n < 1). inr (λ s. (let h = s.0 in omega arith)))
    (λ (some : 1 ≤ n).
    ⊎_elim
    (λ (many : 12 < n). inr (λ s. (let h = s.1 in omega arith)))
    (λ (few : n ≤ 12). inl (some, few))
    (cases_lt 12 n))
    (cases_lt n 1)

field_verdict : (head : Head) → IsKnown head → head.step < 256 → IsSoundHead head ⊎ BadField head
unfolding IsKnown
field_verdict head known byte =
    ⊎_elim
    (λ (w : IsSide head.width).
    ⊎_elim
    (λ (h : IsSide head.height).
    ⊎_elim
    (λ (many : 2 ^ 26 < head.width * head.height). inr (record { field = Samples; bad = (w, h, many) }))
    (λ (few : head.width * head.height ≤ 2 ^ 26).
    ⊎_elim
    (λ (levels : (1 ≤ head.levels) × (head.levels ≤ 12)).
    ⊎_elim
    (λ (even : head.step % 2 ≡ 0). inr (record { field = Step; bad = (w, h, few, levels, even) }))
    (λ (odd : head.step % 2 ≡ 0 → ⊥).
    inl (record {
      some_columns = w.0;
      some_rows = h.0;
      few_samples = few;
      some_levels = levels.0;
      few_levels = levels.1;
      version =
          ⊎_elim
          (λ (one : (head.version ≡ 1) × (head.step ≡ 1)). inl one)
          (λ (two : head.version ≡ 2). inr (two, record { odd = omega (arith, odd); high = omega arith }))
          known;
    }))
    (cases_eq (head.step % 2) 0))
    (λ (no : (1 ≤ head.levels) × (head.levels ≤ 12) → ⊥). inr (record { field = LevelCount; bad = (w, h, few, no) }))
    (levels_or_not head.levels))
    (cases_lt (2 ^ 26) (head.width * head.height)))
    (λ (no : IsSide head.height → ⊥). inr (record { field = Height; bad = (w, no) }))
    (side_or_not head.height))
    (λ (no : IsSide head.width → ⊥). inr (record { field = Width; bad = no }))
    (side_or_not head.width)

-- ---- the header

four_below : (xs : List ℕ) → AreBytes xs → big_number 4 xs < 2 ^ 32
four_below xs all =
    let a = small_at xs all 0 in
    let b = small_at xs all 1 in
    let c = small_at xs all 2 in
    let d = small_at xs all 3 in
    omega arith

pub record HeadRead (bytes : List ℕ) : Type 0 where
  pub head : Head
  pub sound : IsSoundHead head
  pub start : ℕ
  pub inside : start ≤ length bytes
  pub front : take start bytes ≡ head_bytes head

opened : (head : Head) (bytes : List ℕ) (start : ℕ) → start ≤ length bytes → OpensWithHead head bytes (drop start bytes) → HeadRead bytes ⊎ HasSomeStoreFault bytes
unfolding IsKnown
opened head bytes start whole opens =
    ⊎_elim
    (λ (sound : IsSoundHead head).
    inl (record {
      head = head;
      sound = sound;
      start = start;
      inside = whole;
      front = append_cancel_right (take start bytes) (head_bytes head) (drop start bytes) (take-append-drop start bytes ∙ opens.spelled);
    }))
    (λ (bad : BadField head). inr (record { fault = BadHeader bad.field; first = (head, drop start bytes, opens, bad.bad) }))
    (field_verdict head opens.known opens.step)

by_version : (version : ℕ) (bytes : List ℕ) → AreBytes bytes → (version ≡ 1) ⊎ (version ≡ 2) → BeginsAs version bytes → HeadRead bytes ⊎ HasSomeStoreFault bytes
by_version version bytes all known begins =
    ⊎_elim
    (λ (cut : length bytes < 12 + version).
    inr (record { fault = CutShort (length bytes); first = (refl, inl (record { version = version; known = known; begins = begins; cut = cut })) }))
    (λ (whole : 12 + version ≤ length bytes).
    let columns = take (length bytes - 4) (drop 4 bytes) in
    let rows = take (length bytes - 8) (drop 8 bytes) in
    let w = big_number 4 columns in
    let h = big_number 4 rows in
    let wide = four_below columns (All-take (λ b. b < 256) (length bytes - 4) (drop 4 bytes) (All-drop (λ b. b < 256) 4 bytes all)) in
    let high = four_below rows (All-take (λ b. b < 256) (length bytes - 8) (drop 8 bytes) (All-drop (λ b. b < 256) 8 bytes all)) in
    let small = small_at bytes all in
    ⊎_elim
    (λ (one : version ≡ 1).
    opened (record { version = version; width = w; height = h; levels = get_or bytes 12 0; step = 1 }) bytes (12 + version) whole
    (header_opens bytes version w h 1 small whole begins wide high (omega arith) refl refl (inl (one, refl))))
    (λ (two : version ≡ 2).
    opened (record { version = version; width = w; height = h; levels = get_or bytes 12 0; step = get_or bytes 13 0 }) bytes (12 + version) whole
    (header_opens bytes version w h (get_or bytes 13 0) small whole begins wide high (small 13) refl refl (inr (two, refl))))
    known)
    (cases_lt (length bytes) (12 + version))

pub head_verdict : (bytes : List ℕ) → AreBytes bytes → HeadRead bytes ⊎ HasSomeStoreFault bytes
head_verdict bytes all =
    ⊎_elim
    (λ (one : BeginsAs 1 bytes). by_version 1 bytes all (inl refl) one)
    (λ (not_one : BeginsAs 1 bytes → ⊥).
    ⊎_elim
    (λ (two : BeginsAs 2 bytes). by_version 2 bytes all (inr refl) two)
    (λ (not_two : BeginsAs 2 bytes → ⊥). inr (record { fault = BadMagic; first = (not_one, not_two) }))
    (begins_or_not 2 bytes))
    (begins_or_not 1 bytes)
