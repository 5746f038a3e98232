-- The active regions of the filled regions of a sound state: as many as these, each empty or in the window of its level.
use Rattle.std.proofs.Common.{◌≡◌, ℕ, zero, suc, ◌<◌, List, [], ◌∷◌, length, get_or, refl, ap, sym, ◌∙◌, subst, inl, inr, arith}
use Rattle.std.proofs.lemmas.Bool.{true≢false}
use Rattle.clip_regions.specs.declared.region.Region.{Region}
use Rattle.clip_regions.specs.Regions.{is_empty, empty_region, meet}
use Rattle.plan_model.specs.Window.{margin}
use Rattle.plan_model.specs.Actives.{inner, active_of, actives_by, filled_from, actives}
use Rattle.plan_model.specs.Laws.{IsEvenOrEmpty, AllEvenOrEmpty, EvenActives}
use Rattle.plan_model.specs.Sound.{IsFilledPart, IsPartOf}
use Rattle.plan_sound.proofs.Parts.{meet_in, inside_some}
use Rattle.plan_model.proofs.ActiveLaws.{drawable_by}

active_in : (window : Region) (e : ℕ) (filled : Region) (rest : List Region) → IsFilledPart window filled → IsFilledPart window (active_of e filled rest)
active_in window e filled [] h = drawable_by (IsFilledPart window) filled (inl refl) h
active_in window e filled (coarser ∷ rest) h =
    drawable_by (IsFilledPart window) (meet filled (inner e coarser)) (inl refl) (meet_in window filled (inner e coarser) h)

-- ---- of each level
-- each region of a list is a filled part of the window of its level
abbrev pub AllParts : (ℕ → Region) → List Region → Type 0
AllParts window filled = (i : ℕ) → i < length filled → IsFilledPart (window i) (get_or filled i empty_region)

later : (window : ℕ → Region) (r : Region) (rest : List Region) → AllParts window (r ∷ rest) → AllParts (λ (i : ℕ). window (suc i)) rest
later window r rest h i inside = h (suc i) (omega arith)

actives_by_in : (window : ℕ → Region) (e : ℕ) (filled : List Region) → AllParts window filled → AllParts window (actives_by e filled)
actives_by_in window e [] h i inside = inl refl
actives_by_in window e (r ∷ rest) h zero inside = active_in (window 0) e r (actives_by e rest) (h 0 (omega arith))
actives_by_in window e (r ∷ rest) h (suc i) inside =
    actives_by_in (λ (j : ℕ). window (suc j)) e rest (later window r rest h) i (omega arith)

filled_from_in : (window : ℕ → Region) (finest : ℕ) (filled : List Region) → AllParts window filled → AllParts window (filled_from finest filled)
filled_from_in window finest [] h i inside = inl refl
filled_from_in window zero (r ∷ rest) h i inside = h i inside
filled_from_in window (suc finest) (r ∷ rest) h zero inside = inl refl
filled_from_in window (suc finest) (r ∷ rest) h (suc i) inside =
    filled_from_in (λ (j : ℕ). window (suc j)) finest rest (later window r rest h) i (omega arith)

actives_by_many : (e : ℕ) (filled : List Region) → length (actives_by e filled) ≡ length filled
actives_by_many e [] = refl
actives_by_many e (r ∷ rest) = ap suc (actives_by_many e rest)

filled_from_many : (finest : ℕ) (filled : List Region) → length (filled_from finest filled) ≡ length filled
filled_from_many finest [] = refl
filled_from_many zero (r ∷ rest) = refl
filled_from_many (suc finest) (r ∷ rest) = ap suc (filled_from_many finest rest)

-- there are as many active regions as filled ones
pub actives_many : (k finest : ℕ) (filled : List Region) → length (actives k finest filled) ≡ length filled
unfolding actives
actives_many k finest filled = actives_by_many (margin k) (filled_from finest filled) ∙ filled_from_many finest filled

actives_in : (window : ℕ → Region) (k finest : ℕ) (filled : List Region) → AllParts window filled → AllParts window (actives k finest filled)
unfolding actives
actives_in window k finest filled h =
    actives_by_in window (margin k) (filled_from finest filled) (filled_from_in window finest filled h)

-- ---- even corners
each_even : (rs : List Region) → AllEvenOrEmpty rs → (i : ℕ) → i < length rs → IsEvenOrEmpty (get_or rs i empty_region)
each_even [] h i inside = absurd (omega arith)
each_even (r ∷ rest) h zero inside = h.0
each_even (r ∷ rest) h (suc i) inside = each_even rest h.1 i (omega arith)

all_even : (rs : List Region) → ((i : ℕ) → i < length rs → IsEvenOrEmpty (get_or rs i empty_region)) → AllEvenOrEmpty rs
all_even [] h = tt
all_even (r ∷ rest) h = (h 0 (omega arith), all_even rest (λ i inside. h (suc i) (omega arith)))

even_part : (window r : Region) → IsFilledPart window r → IsEvenOrEmpty r → IsPartOf window r
even_part window r (inl e) even = inl e
even_part window r (inr h) (inl none) = absurd (true≢false (sym none ∙ inside_some window r h))
even_part window r (inr h) (inr even) = inr (record { inside = h; even = even })

empty_even : (r : Region) → r ≡ empty_region → IsEvenOrEmpty r
unfolding is_empty
empty_even r e = inl (ap is_empty e)

pub part_even : (window r : Region) → IsPartOf window r → IsEvenOrEmpty r
part_even window r (inl e) = empty_even r e
part_even window r (inr h) = inr h.even

pub part_filled : (window r : Region) → IsPartOf window r → IsFilledPart window r
part_filled window r (inl e) = inl e
part_filled window r (inr h) = inr h.inside

-- where each filled region is an even part of the window of its level, so is each active region
pub actives_parts : EvenActives → (window : ℕ → Region) (k finest : ℕ) (filled : List Region) → ((i : ℕ) → i < length filled → IsPartOf (window i) (get_or filled i empty_region)) → (i : ℕ) → i < length filled → IsPartOf (window i) (get_or (actives k finest filled) i empty_region)
actives_parts law window k finest filled h i inside =
    let here : i < length (actives k finest filled) = subst (λ (n : ℕ). i < n) (sym (actives_many k finest filled)) inside in
    even_part (window i) (get_or (actives k finest filled) i empty_region) (actives_in window k finest filled (λ j b. part_filled (window j) (get_or filled j empty_region) (h j b)) i here) (each_even (actives k finest filled) (law k finest filled (all_even filled (λ j b. part_even (window j) (get_or filled j empty_region) (h j b)))) i here)
