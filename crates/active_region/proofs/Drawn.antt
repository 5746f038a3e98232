-- Active regions: of a level, of a list of levels, and of twelve places.
use Rattle.std.proofs.Common.{◌≡◌, ℕ, zero, suc, ◌+◌, ◌-◌, ◌^◌, ◌<◌, ◌≤◌, true, List, [], ◌∷◌, ◌++◌, length, take, drop, replicate, get_or, refl, ap, sym, ◌∙◌, subst, inl, inr, append_assoc, take-append-drop, arith}
use Rattle.std.specs.List.{All}
use Rattle.std.proofs.lemmas.List.{drop_more, length-set, length-take-le, length-drop, take-append-le, take-replicate, drop-replicate, drop-set, take-set}
use Rattle.std.proofs.Math.Seq.{take-append_seam, drop-length}
use Rattle.std.proofs.Math.ListN.{set}
use Rattle.std.proofs.lemmas.List.Elements.{All-nil, All-cons, All-head, All-tail}
use Rattle.clip_regions.specs.declared.region.Region.{Region}
use Rattle.clip_regions.specs.Regions.{is_empty, empty_region, meet, IsWithin}
use Rattle.plan_model.specs.Window.{margin}
use Rattle.plan_model.specs.Actives.{drawable, inner, active_of, actives_by, filled_from, actives}
use Rattle.active_region.specs.Active.{IsNearOrEmpty, IsWideOrEmpty}
use Rattle.active_region.proofs.Regions.{meet_none, meet_within, drawable_none, drawable_wide, drawable_within}
use Rattle.clip_regions.proofs.Cells.{empty_is_empty, empty_within}

-- a level of which nothing is filled shows nothing
pub active_of_none : (e : ℕ) (filled : Region) (rest : List Region) → is_empty filled ≡ true → active_of e filled rest ≡ empty_region
active_of_none e filled [] none = drawable_none filled none
active_of_none e filled (coarser ∷ rest) none =
    ap drawable (meet_none filled (inner e coarser) none) ∙ drawable_none empty_region empty_is_empty

-- an active region lies as near the mosaic's corner as its filled one
active_near : (e : ℕ) (filled : Region) (rest : List Region) → IsWithin (2 ^ 24) filled → IsWithin (2 ^ 24) (active_of e filled rest)
active_near e filled [] w = drawable_within (2 ^ 24) filled (omega arith) w
active_near e filled (coarser ∷ rest) w =
    drawable_within (2 ^ 24) (meet filled (inner e coarser)) (omega arith) (meet_within (2 ^ 24) filled (inner e coarser) (omega arith) w)

active_within : (e : ℕ) (filled : Region) (rest : List Region) → IsNearOrEmpty filled → IsWithin (2 ^ 24) (active_of e filled rest)
active_within e filled rest (inl none) =
    subst (IsWithin (2 ^ 24)) (sym (active_of_none e filled rest none)) (empty_within (2 ^ 24) (omega arith))
active_within e filled rest (inr near) = active_near e filled rest near

pub actives_within : (e : ℕ) (filled : List Region) → All IsNearOrEmpty filled → All (IsWithin (2 ^ 24)) (actives_by e filled)
actives_within e [] all = All-nil (IsWithin (2 ^ 24))
actives_within e (filled ∷ rest) all =
    All-cons (IsWithin (2 ^ 24)) (active_of e filled (actives_by e rest)) (actives_by e rest) (active_within e filled (actives_by e rest) (All-head IsNearOrEmpty filled rest all)) (actives_within e rest (All-tail IsNearOrEmpty filled rest all))

-- ---- sides of 2 or more
active_wide : (e : ℕ) (filled : Region) (rest : List Region) → IsWideOrEmpty (active_of e filled rest)
active_wide e filled [] = drawable_wide filled
active_wide e filled (coarser ∷ rest) = drawable_wide (meet filled (inner e coarser))

wide_by : (e : ℕ) (filled : List Region) → All IsWideOrEmpty (actives_by e filled)
wide_by e [] = All-nil IsWideOrEmpty
wide_by e (filled ∷ rest) =
    All-cons IsWideOrEmpty (active_of e filled (actives_by e rest)) (actives_by e rest) (active_wide e filled (actives_by e rest)) (wide_by e rest)

pub actives_wide : (k finest : ℕ) (filled : List Region) → All IsWideOrEmpty (actives k finest filled)
unfolding actives
actives_wide k finest filled = wide_by (margin k) (filled_from finest filled)

-- ---- levels that are left out
left_out : (e finest : ℕ) (filled : List Region) → finest ≤ length filled → actives_by e (filled_from finest filled) ≡ replicate finest empty_region ++ actives_by e (drop finest filled)
left_out e zero [] h = refl
left_out e zero (r ∷ rest) h = refl
left_out e (suc finest) [] h = absurd (omega arith)
left_out e (suc finest) (r ∷ rest) h =
    ap (λ (q : Region). q ∷ actives_by e (filled_from finest rest)) (active_of_none e empty_region (actives_by e (filled_from finest rest)) empty_is_empty)
    ∙ ap (λ (rs : List Region). empty_region ∷ rs) (left_out e finest rest (omega arith))

pub actives_of_used : (k finest : ℕ) (filled : List Region) → finest ≤ length filled → actives k finest filled ≡ replicate finest empty_region ++ actives_by (margin k) (drop finest filled)
unfolding actives
actives_of_used k finest filled h = left_out (margin k) finest filled h

-- ---- twelve places, of which those from a level on are made
pub many_by : (e : ℕ) (filled : List Region) → length (actives_by e filled) ≡ length filled
many_by e [] = refl
many_by e (filled ∷ rest) = ap suc (many_by e rest)

pub record IsMadeFrom (e level : ℕ) (filled regions : List Region) : Type 0 where
  pub twelve : length regions ≡ 12
  pub empty : take level regions ≡ replicate level empty_region
  pub made : drop level regions ≡ actives_by e (drop level filled) ++ replicate (12 - length filled) empty_region

pub none_made : (e : ℕ) (filled : List Region) → length filled ≤ 12 → IsMadeFrom e (length filled) filled (replicate 12 empty_region)
none_made e filled h =
    let none : drop (length filled) filled ≡ [] = drop-length filled in
    record {
      twelve = refl;
      empty = take-replicate (length filled) 12 empty_region h;
      made = drop-replicate (length filled) 12 empty_region ∙ ap (λ (rs : List Region). actives_by e rs ++ replicate (12 - length filled) empty_region) (sym none);
    }

-- the active regions of the levels above this one
pub made_above : (e level : ℕ) (filled regions : List Region) → level ≤ length filled → IsMadeFrom e level filled regions → take (length filled - level) (drop level regions) ≡ actives_by e (drop level filled)
made_above e level filled regions h made =
    let many : length (actives_by e (drop level filled)) ≡ length filled - level = many_by e (drop level filled) ∙ length-drop level filled in
    ap (λ (rs : List Region). take (length filled - level) rs) made.made
    ∙ ap (λ (n : ℕ). take n (actives_by e (drop level filled) ++ replicate (12 - length filled) empty_region)) (sym many)
    ∙ take-append_seam (actives_by e (drop level filled)) (replicate (12 - length filled) empty_region)

pub one_more : (e level : ℕ) (filled regions : List Region) (d : Region) → level < length filled → length filled ≤ 12 → IsMadeFrom e (level + 1) filled regions → IsMadeFrom e level filled (set regions level (active_of e (get_or filled level d) (actives_by e (drop (level + 1) filled))))
one_more e level filled regions d inside few before =
    let many : length regions ≡ 12 = before.twelve in
    let place : level < length regions = omega (arith, many) in
    let active : Region = active_of e (get_or filled level d) (actives_by e (drop (level + 1) filled)) in
    let fewer : take level (take (level + 1) regions) ≡ take level (replicate (level + 1) empty_region) = ap (λ (rs : List Region). take level rs) before.empty in
    let front : length (take (level + 1) regions) ≡ level + 1 = length-take-le (level + 1) regions (omega arith) in
    let same : take level regions ≡ take level (take (level + 1) regions) =
    ap (λ (rs : List Region). take level rs) (sym (take-append-drop (level + 1) regions)) ∙ take-append-le level (take (level + 1) regions) (drop (level + 1) regions) (omega (arith, front)) in
    record {
      twelve = length-set regions level active ∙ many;
      empty = take-set regions level active ∙ same ∙ fewer ∙ take-replicate level (level + 1) empty_region (omega arith);
      made = drop-set regions level active place ∙ ap (λ (rs : List Region). active ∷ rs) before.made
          ∙ ap (λ (rs : List Region). actives_by e rs ++ replicate (12 - length filled) empty_region) (sym (drop_more filled level d inside));
    }

pub all_made : (k level : ℕ) (filled regions : List Region) → level ≤ length filled → IsMadeFrom (margin k) level filled regions → regions ≡ actives k level filled ++ replicate (12 - length filled) empty_region
all_made k level filled regions h made =
    sym (take-append-drop level regions)
    ∙ ap (λ (rs : List Region). rs ++ drop level regions) made.empty
    ∙ ap (λ (rs : List Region). replicate level empty_region ++ rs) made.made
    ∙ sym (append_assoc (replicate level empty_region) (actives_by (margin k) (drop level filled)) (replicate (12 - length filled) empty_region))
    ∙ ap (λ (rs : List Region). rs ++ replicate (12 - length filled) empty_region) (sym (actives_of_used k level filled h))
