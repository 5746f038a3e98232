-- The strips round a filled region, one by one.
use Rattle.std.proofs.Common.{◌≡◌, Bool, true, false, cond, ℤ, ◌≤ℤ◌, ◌<ℤ◌, List, [], ◌∷◌, ◌++◌, filter, length, Some, None, refl, ap, sym, ◌∙◌, inl, inr, arith}
use Rattle.std.specs.Prelude.{not}
use Rattle.std.specs.List.{slice_get}
use Rattle.std.proofs.lemmas.Int.{ints}
use Rattle.std.proofs.lemmas.Bool.{or_from, or_left, or_right, true≢false}
use Rattle.std.proofs.lemmas.List.Elements.{filter-append}
use lib.Signed.{lt_z}
use Rattle.clip_regions.specs.declared.region.Region.{Region}
use Rattle.clip_regions.specs.Regions.{is_empty}
use Rattle.plan_model.specs.Strips.{first_of, has_cell, left_of, right_of, above, below}
use Rattle.plan_model.specs.Sound.{IsInside}
use Rattle.plan_model.specs.Laws.{IsFilledIn}
use Rattle.plan_laws.specs.Hulls.{InsideIsHeld}

-- ---- which of them have a cell
less_tested : (a b : ℤ) → a <ℤ b → lt_z a b ≡ true
less_tested a b h = grind (arith, ints)

not_less : (a b : ℤ) → b ≤ℤ a → lt_z a b ≡ false
not_less a b h = grind (arith, ints)

some : (r : Region) → r.x0 ≤ℤ r.x1 → r.y0 ≤ℤ r.y1 → has_cell r ≡ true
unfolding has_cell is_empty
some r h k = ap not (or_from (lt_z r.x1 r.x0) (lt_z r.y1 r.y0) (not_less r.x1 r.x0 h) (not_less r.y1 r.y0 k))

no_column : (r : Region) → r.x1 <ℤ r.x0 → has_cell r ≡ false
unfolding has_cell is_empty
no_column r h = ap not (or_left (lt_z r.x1 r.x0) (lt_z r.y1 r.y0) (less_tested r.x1 r.x0 h))

no_row : (r : Region) → r.y1 <ℤ r.y0 → has_cell r ≡ false
unfolding has_cell is_empty
no_row r h =
    ap not (or_right (lt_z r.x1 r.x0) (lt_z r.y1 r.y0) (less_tested r.y1 r.y0 h))

pub kept : (r : Region) → has_cell r ≡ true → filter has_cell (r ∷ []) ≡ r ∷ []
kept r e = ap (λ (b : Bool). cond b (r ∷ []) []) e

pub gone : (r : Region) → has_cell r ≡ false → filter has_cell (r ∷ []) ≡ []
gone r e = ap (λ (b : Bool). cond b (r ∷ []) []) e

pub left_kept : (filled window : Region) → IsInside window filled → window.x0 <ℤ filled.x0 → filter has_cell (left_of filled window ∷ []) ≡ left_of filled window ∷ []
unfolding left_of
left_kept filled window h l =
    kept (left_of filled window) (some (left_of filled window) (omega (arith, ints)) h.rows)

pub left_gone : (filled window : Region) → IsInside window filled → filled.x0 ≤ℤ window.x0 → filter has_cell (left_of filled window ∷ []) ≡ []
unfolding left_of
left_gone filled window h l = gone (left_of filled window) (no_column (left_of filled window) (omega (arith, ints)))

pub right_kept : (filled window : Region) → IsInside window filled → filled.x1 <ℤ window.x1 → filter has_cell (right_of filled window ∷ []) ≡ right_of filled window ∷ []
unfolding right_of
right_kept filled window h l =
    kept (right_of filled window) (some (right_of filled window) (omega (arith, ints)) h.rows)

pub right_gone : (filled window : Region) → IsInside window filled → window.x1 ≤ℤ filled.x1 → filter has_cell (right_of filled window ∷ []) ≡ []
unfolding right_of
right_gone filled window h l =
    gone (right_of filled window) (no_column (right_of filled window) (omega (arith, ints)))

pub above_kept : (filled window : Region) → IsInside window filled → window.y0 <ℤ filled.y0 → filter has_cell (above filled window ∷ []) ≡ above filled window ∷ []
unfolding above
above_kept filled window h l =
    kept (above filled window) (some (above filled window) (omega (arith, ints)) (omega (arith, ints)))

pub above_gone : (filled window : Region) → IsInside window filled → filled.y0 ≤ℤ window.y0 → filter has_cell (above filled window ∷ []) ≡ []
unfolding above
above_gone filled window h l =
    gone (above filled window) (no_row (above filled window) (omega (arith, ints)))

pub below_kept : (filled window : Region) → IsInside window filled → filled.y1 <ℤ window.y1 → filter has_cell (below filled window ∷ []) ≡ below filled window ∷ []
unfolding below
below_kept filled window h l =
    kept (below filled window) (some (below filled window) (omega (arith, ints)) (omega (arith, ints)))

pub below_gone : (filled window : Region) → IsInside window filled → window.y1 ≤ℤ filled.y1 → filter has_cell (below filled window ∷ []) ≡ []
unfolding below
below_gone filled window h l =
    gone (below filled window) (no_row (below filled window) (omega (arith, ints)))

-- ---- all four
pub four : {X : Type 0} (p : X → Bool) (a b c d : X) → ((filter p (a ∷ []) ++ filter p (b ∷ [])) ++ filter p (c ∷ [])) ++ filter p (d ∷ []) ≡ filter p (a ∷ b ∷ c ∷ d ∷ [])
four {X = X} p a b c d =
    ap (λ (xs : List X). (xs ++ filter p (c ∷ [])) ++ filter p (d ∷ [])) (sym (filter-append p (a ∷ []) (b ∷ []))) ∙ ap (λ (xs : List X). xs ++ filter p (d ∷ [])) (sym (filter-append p (a ∷ b ∷ []) (c ∷ []))) ∙ sym (filter-append p (a ∷ b ∷ c ∷ []) (d ∷ []))

pub inside : InsideIsHeld → (filled window : Region) → IsFilledIn filled window → is_empty filled ≡ false → IsInside window filled
inside law filled window (inl e) n = absurd (true≢false (sym e ∙ n))
inside law filled window (inr h) n = (law window filled).1 (n, h)

-- ---- the first of a list
pub first_none : {X : Type 0} (xs : List X) → length xs ≡ 0 → first_of xs ≡ None
first_none [] e = refl
first_none (x ∷ xs) e = absurd (omega arith)

pub first_some : {X : Type 0} (xs : List X) (x : X) → slice_get xs 0 ≡ Some x → first_of xs ≡ Some x
first_some [] x e = e
first_some (y ∷ xs) x e = e
