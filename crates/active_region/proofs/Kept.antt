-- What is true of the active regions of filled ones.
use Rattle.std.proofs.Common.{◌≡◌, ℕ, zero, suc, ◌-◌, ◌^◌, ◌<◌, ◌⊎◌, true, pos, List, [], ◌∷◌, ◌++◌, length, take, drop, replicate, get_or, map, refl, ap, sym, ◌∙◌, subst, inl, inr, arith}
use Rattle.std.specs.List.{All}
use Rattle.std.proofs.lemmas.Int.{ints}
use Rattle.std.proofs.lemmas.Bool.{cases_Bool}
use Rattle.std.proofs.lemmas.List.Elements.{All-from_get_or}
use Rattle.std.proofs.lemmas.List.{get_or-map, length-map}
use Rattle.std.proofs.Math.Seq.{take-append_seam, drop-append_seam}
use Rattle.clip_regions.specs.declared.region.Region.{Region}
use Rattle.clip_regions.specs.Regions.{is_empty, empty_region, spelled, IsWithin}
use Rattle.plan_model.specs.Limits.{IsSize, IsLevelCount, IsViewed}
use Rattle.plan_model.specs.Window.{margin, window}
use Rattle.plan_model.specs.Actives.{active_of, actives_by, filled_from, actives}
use Rattle.plan_model.specs.Laws.{IsEvenOrEmpty, AllEvenOrEmpty, NestedActives}
use Rattle.plan_model.specs.Sound.{IsPartOf, IsShown}
use Rattle.plan_laws.specs.Drawn.{ActivesAreAsMany, AreShown, ActivesAreShown}
use Rattle.plan_sound.specs.Laws.{WindowsAreNear}
use Rattle.active_region.specs.Active.{AreFilled, IsNearOrEmpty, AreDrawn}
use Rattle.active_region.proofs.Regions.{part_within}
use Rattle.active_region.proofs.Drawn.{active_of_none, actives_wide}
use Rattle.clip_regions.proofs.Cells.{empty_is_empty, spelled_empty, spelled_other}

-- ---- where regions lie
shown_near : WindowsAreNear → (k level : ℕ) (r : Region) → IsSize k → IsShown k level r → IsWithin (2 ^ 24) r
shown_near near k level r size shown =
    part_within (2 ^ 24) (window k level shown.x shown.y) r (omega arith) (near k level shown.x shown.y size shown.column shown.row) shown.part

filled_near : WindowsAreNear → (k level : ℕ) (r : Region) → IsSize k → (is_empty r ≡ true) ⊎ IsShown k level r → IsNearOrEmpty r
filled_near near k level r size (inl none) = inl none
filled_near near k level r size (inr shown) = inr (shown_near near k level r size shown)

pub all_filled_near : WindowsAreNear → (k : ℕ) (filled : List Region) → IsSize k → AreFilled k filled → All IsNearOrEmpty filled
all_filled_near near k filled size h =
    All-from_get_or IsNearOrEmpty filled empty_region (λ level inside. filled_near near k level (get_or filled level empty_region) size (h level inside))

all_shown_near : WindowsAreNear → (k : ℕ) (regions : List Region) → IsSize k → AreShown k regions → All (IsWithin (2 ^ 24)) regions
all_shown_near near k regions size h =
    All-from_get_or (IsWithin (2 ^ 24)) regions empty_region (λ level inside. shown_near near k level (get_or regions level empty_region) size (h level inside))

-- ---- filled regions with one spelling of those without a cell
spelled_active : (e : ℕ) (filled : Region) (rest : List Region) → active_of e (spelled filled) rest ≡ active_of e filled rest
spelled_active e filled rest =
    elim (cases_Bool (is_empty filled)) [
      | inl none ↦ ap (λ (q : Region). active_of e q rest) (spelled_empty filled none) ∙ active_of_none e empty_region rest empty_is_empty ∙ sym (active_of_none e filled rest none)
      | inr some ↦ ap (λ (q : Region). active_of e q rest) (spelled_other filled some)
    ]

spelled_by_all : (e : ℕ) (filled : List Region) → actives_by e (map spelled filled) ≡ actives_by e filled
spelled_by_all e [] = refl
spelled_by_all e (r ∷ rest) =
    ap (λ (rs : List Region). active_of e (spelled r) rs ∷ rs) (spelled_by_all e rest)
    ∙ ap (λ (q : Region). q ∷ actives_by e rest) (spelled_active e r (actives_by e rest))

spelled_from : (finest : ℕ) (filled : List Region) → filled_from finest (map spelled filled) ≡ map spelled (filled_from finest filled)
spelled_from zero [] = refl
spelled_from (suc finest) [] = refl
spelled_from zero (r ∷ rest) = refl
spelled_from (suc finest) (r ∷ rest) =
    ap (λ (rs : List Region). empty_region ∷ rs) (spelled_from finest rest)
    ∙ ap (λ (q : Region). q ∷ map spelled (filled_from finest rest)) (sym (spelled_empty empty_region empty_is_empty))

spelled_actives : (k finest : ℕ) (filled : List Region) → actives k finest (map spelled filled) ≡ actives k finest filled
unfolding actives
spelled_actives k finest filled =
    ap (actives_by (margin k)) (spelled_from finest filled) ∙ spelled_by_all (margin k) (filled_from finest filled)

near_zero : IsViewed (pos 0)
near_zero = record { low = omega (arith, ints); high = omega (arith, ints) }

nothing_shown : (k level : ℕ) → IsShown k level empty_region
nothing_shown k level = record { x = pos 0; y = pos 0; column = near_zero; row = near_zero; part = inl refl }

shown_spelled : (k level : ℕ) (r : Region) → (is_empty r ≡ true) ⊎ IsShown k level r → IsShown k level (spelled r)
shown_spelled k level r (inl none) = subst (IsShown k level) (sym (spelled_empty r none)) (nothing_shown k level)
shown_spelled k level r (inr shown) =
    elim (cases_Bool (is_empty r)) [
      | inl none ↦ subst (IsShown k level) (sym (spelled_empty r none)) (nothing_shown k level)
      | inr some ↦ subst (IsShown k level) (sym (spelled_other r some)) shown
    ]

all_spelled : (k : ℕ) (filled : List Region) → AreFilled k filled → AreShown k (map spelled filled)
all_spelled k filled h level inside =
    let listed : level < length filled = subst (λ (n : ℕ). level < n) (length-map filled spelled) inside in
    subst (IsShown k level) (sym (get_or-map spelled filled level empty_region empty_region listed)) (shown_spelled k level (get_or filled level empty_region) (h level listed))

shown_all : ActivesAreShown → (k finest : ℕ) (filled : List Region) → AreFilled k filled → AreShown k (actives k finest filled)
shown_all law k finest filled h =
    subst (AreShown k) (spelled_actives k finest filled) (law k finest (map spelled filled) (all_spelled k filled h))

-- ---- even corners
even_part : (k level : ℕ) (r : Region) → (x y : _) → IsPartOf (window k level x y) r → IsEvenOrEmpty r
even_part k level r x y (inl e) = inl (ap is_empty e ∙ empty_is_empty)
even_part k level r x y (inr i) = inr i.even

all_even : (regions : List Region) → ((level : ℕ) → level < length regions → IsEvenOrEmpty (get_or regions level empty_region)) → AllEvenOrEmpty regions
all_even [] h = tt
all_even (r ∷ rest) h = (h 0 (omega arith), all_even rest (λ level inside. h (suc level) (omega arith)))

-- ---- all of it
pub actives_are_drawn : WindowsAreNear → ActivesAreAsMany → ActivesAreShown → NestedActives → (k finest : ℕ) (filled : List Region) → IsSize k → IsLevelCount (length filled) → AreFilled k filled → AreDrawn k (actives k finest filled)
actives_are_drawn near as_many law nested k finest filled size many h =
    let shown : AreShown k (actives k finest filled) = shown_all law k finest filled h in
    record {
      many = subst IsLevelCount (sym (as_many k finest filled)) many;
      shown = shown;
      even = all_even (actives k finest filled) (λ level inside. even_part k level _ (shown level inside).x (shown level inside).y (shown level inside).part);
      near = all_shown_near near k (actives k finest filled) size shown;
      wide = actives_wide k finest filled;
      nested = nested k finest filled;
    }

-- ---- of twelve places
pub first_of_twelve : ActivesAreAsMany → (k finest : ℕ) (filled regions : List Region) → regions ≡ actives k finest filled ++ replicate (12 - length filled) empty_region → take (length filled) regions ≡ actives k finest filled
first_of_twelve as_many k finest filled regions e =
    ap (λ (rs : List Region). take (length filled) rs) e
    ∙ ap (λ (n : ℕ). take n (actives k finest filled ++ replicate (12 - length filled) empty_region)) (sym (as_many k finest filled))
    ∙ take-append_seam (actives k finest filled) (replicate (12 - length filled) empty_region)

pub rest_of_twelve : ActivesAreAsMany → (k finest : ℕ) (filled regions : List Region) → regions ≡ actives k finest filled ++ replicate (12 - length filled) empty_region → drop (length filled) regions ≡ replicate (12 - length filled) empty_region
rest_of_twelve as_many k finest filled regions e =
    ap (λ (rs : List Region). drop (length filled) rs) e
    ∙ ap (λ (n : ℕ). drop n (actives k finest filled ++ replicate (12 - length filled) empty_region)) (sym (as_many k finest filled))
    ∙ drop-append_seam (actives k finest filled) (replicate (12 - length filled) empty_region)
