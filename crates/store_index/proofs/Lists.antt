-- Blocks one behind another, as lists.
use Rattle.std.proofs.Common.{◌≡◌, ℕ, zero, suc, ◌+◌, ◌-◌, ◌<◌, ◌≤◌, List, [], ◌∷◌, ◌++◌, ap, sym, ◌∙◌, subst, ⊎_elim, arith, append_assoc, append-nil}
use Rattle.std.specs.List.{flat_map, range_with_len}
use Rattle.std.proofs.lemmas.Bool.{cases_lt}
use Rattle.std.proofs.lemmas.List.{map-id}
use Rattle.std.proofs.lemmas.List.Concat.{flat_map-append}
use Rattle.std.proofs.lemmas.List.FromFn.{map-range_with_len_more}
use Rattle.store_model.specs.Format.{Head}
use Rattle.store_model.specs.Store.{Levels, IsLevel, IsFront}

range_more : (n : ℕ) → range_with_len 0 (n + 1) ≡ range_with_len 0 n ++ n ∷ []
range_more n =
    sym (map-id (range_with_len 0 (n + 1)))
    ∙ map-range_with_len_more (λ k. k) 0 n n (omega arith)
    ∙ ap (λ (xs : List ℕ). xs ++ n ∷ []) (map-id (range_with_len 0 n))

flat_range_more : (f : ℕ → List ℕ) (n : ℕ) → flat_map f (range_with_len 0 (n + 1)) ≡ flat_map f (range_with_len 0 n) ++ f n
flat_range_more f n =
    ap (flat_map f) (range_more n) ∙ flat_map-append f (range_with_len 0 n) (n ∷ []) ∙ ap (λ (ys : List ℕ). flat_map f (range_with_len 0 n) ++ ys) (append-nil (f n))

pub flat_range_next : (f : ℕ → List ℕ) (n : ℕ) → flat_map f (range_with_len 0 (suc n)) ≡ flat_map f (range_with_len 0 n) ++ f n
flat_range_next f n =
    let next : suc n ≡ n + 1 = omega arith in
    ap (λ (m : ℕ). flat_map f (range_with_len 0 m)) next ∙ flat_range_more f n

-- the parts from number k on follow those before it
pub flat_split : (f : ℕ → List ℕ) (k n : ℕ) → k < n → (after : List ℕ) × (flat_map f (range_with_len 0 n) ≡ flat_map f (range_with_len 0 k) ++ (f k ++ after))
flat_split f k zero h = absurd (omega arith)
flat_split f k (suc n) h =
    ⊎_elim
    (λ (l : k < n).
    let rest = flat_split f k n l in
    let moved : flat_map f (range_with_len 0 (suc n)) ≡ flat_map f (range_with_len 0 k) ++ (f k ++ (rest.0 ++ f n)) =
    flat_range_next f n
    ∙ ap (λ (xs : List ℕ). xs ++ f n) rest.1
    ∙ append_assoc (flat_map f (range_with_len 0 k)) (f k ++ rest.0) (f n)
    ∙ ap (λ (xs : List ℕ). flat_map f (range_with_len 0 k) ++ xs) (append_assoc (f k) rest.0 (f n)) in
    (rest.0 ++ f n, moved))
    (λ (l : n ≤ k).
    let same : n ≡ k = omega arith in
    let moved : flat_map f (range_with_len 0 (suc n)) ≡ flat_map f (range_with_len 0 k) ++ (f k ++ []) =
    flat_range_next f n
    ∙ ap (λ (m : ℕ). flat_map f (range_with_len 0 m) ++ f m) same
    ∙ ap (λ (xs : List ℕ). flat_map f (range_with_len 0 k) ++ xs) (sym (append-nil (f k))) in
    ([], moved))
    (cases_lt k n)

-- a front has the fronts of fewer levels
pub record FrontSplit (head : Head) (heights : Levels) (m : ℕ) (bytes : List ℕ) : Type 0 where
  pub before : List ℕ
  pub here : List ℕ
  pub after : List ℕ
  pub front : IsFront head heights m before
  pub whole : IsLevel head heights (head.levels - suc m) here
  pub spelled : bytes ≡ before ++ (here ++ after)

pub front_split : (head : Head) (heights : Levels) (m n : ℕ) (bytes : List ℕ) → m < n → IsFront head heights n bytes → FrontSplit head heights m bytes
front_split head heights m zero bytes below x = absurd (omega arith)
front_split head heights m (suc n) bytes below x =
    ⊎_elim
    (λ (l : m < n).
    let rest = front_split head heights m n x.0 l x.2 in
    record {
      before = rest.before;
      here = rest.here;
      after = rest.after ++ x.1;
      front = rest.front;
      whole = rest.whole;
      spelled =
          x.4
          ∙ ap (λ (xs : List ℕ). xs ++ x.1) rest.spelled
          ∙ append_assoc rest.before (rest.here ++ rest.after) x.1
          ∙ ap (λ (xs : List ℕ). rest.before ++ xs) (append_assoc rest.here rest.after x.1);
    })
    (λ (l : n ≤ m).
    let same : n ≡ m = omega arith in
    record {
      before = x.0;
      here = x.1;
      after = [];
      front = subst (λ (k : ℕ). IsFront head heights k x.0) same x.2;
      whole = subst (λ (k : ℕ). IsLevel head heights (head.levels - suc k) x.1) same x.3;
      spelled = x.4 ∙ ap (λ (xs : List ℕ). x.0 ++ xs) (sym (append-nil x.1));
    })
    (cases_lt m n)
