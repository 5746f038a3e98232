-- The copies of levels as a list.
use Rattle.std.proofs.Common.{◌≡◌, ℕ, zero, suc, ◌+◌, ◌*◌, ◌^◌, ◌<◌, ◌≤◌, true, ℤ, List, [], ◌∷◌, ◌++◌, length, map, get_or, Vec, Result, Ok, Err, IfOk, inl, inr, refl, ap, sym, ◌∙◌, subst, arith, length-append}
use Rattle.std.specs.Global.{Global}
use Rattle.std.specs.Int.{int_gap}
use Rattle.std.proofs.Math.Nat.{mul-le-mul, le_refl}
use Rattle.std.proofs.lemmas.Bool.{cases_lt}
use Rattle.std.proofs.lemmas.List.{map-append, get_or_append_left}
use Rattle.std.proofs.Math.Seq.{get_or-append_seam}
use Rattle.clip_regions.specs.declared.region.Region.{Region}
use Rattle.clip_regions.specs.Regions.{empty_region, area, columns, rows, contains, cells}
use Rattle.clip_regions.proofs.Cells.{lies, empty_is_empty}
use Rattle.clip_regions.proofs.Gaps.{way_within}
use Rattle.clip_regions.proofs.Sizes.{length_cells, no_area}
use Rattle.terrain_model.specs.Terrain.{level_height}
use Rattle.torus_grid.specs.Places.{place_among}
use Rattle.mesh_model.specs.Height.{active_at}
use Rattle.decode_workers.specs.Copies.{LevelCopy, CopiesView, no_copy, no_terrain, copy_in, heights_in, HaveRoom, IsRoom, AreCopies}

-- the product of at most 255 and at most 2^25, and a sum of it and as many, have 64 bits
pub few_cells : (a b : ℕ) → a ≤ 255 → b ≤ 2 ^ 25 → a * b ≤ 2 ^ 33
few_cells a b ha hb = omega (arith, mul-le-mul ha hb)

-- ---- one level more
abbrev fresh : List Region → ℕ → LevelCopy → Type 0
fresh actives level copy = (copy.heights ≡ []) × (area (active_at actives level) ≤ copy.room)

-- ---- the place of a cell among those of its region
pub place_below : (r : Region) (i j : ℤ) → contains r i j ≡ true → place_among r i j < length (cells r)
unfolding place_among area columns rows
place_below r i j there =
    let l = lies r i j there in
    let across : int_gap r.x0 i + 1 ≤ columns r = way_within r.x0 i r.x1 (columns r) l.west l.east (le_refl (columns r)) in
    let down' : int_gap r.y0 j + 1 ≤ rows r = way_within r.y0 j r.y1 (rows r) l.north l.south (le_refl (rows r)) in
    let scaled : columns r * (int_gap r.y0 j + 1) ≤ columns r * rows r = mul-le-mul (le_refl (columns r)) down' in
    subst (λ (n : ℕ). columns r * int_gap r.y0 j + int_gap r.x0 i < n) (length_cells r) (omega (arith, scaled, across))

pub one_more : (actives : List Region) (level : ℕ) (vs : List (Vec ℤ Global)) (v : Vec ℤ Global) → HaveRoom actives level (map copy_in vs) → (copy_in v).heights ≡ [] → area (active_at actives level) ≤ (copy_in v).room →
    HaveRoom actives (level + 1) (map copy_in (vs ++ v ∷ []))
one_more actives level vs v h none room =
    subst (HaveRoom actives (level + 1)) (sym (map-append copy_in vs (v ∷ [])))
    (record {
      many = (let m = h.many in omega (arith, length-append (map copy_in vs) (copy_in v ∷ []), m));
      empty = λ l low. (at l low).0;
      room = λ l low. (at l low).1;
    })
  where
    last : get_or (map copy_in vs ++ copy_in v ∷ []) level no_copy ≡ copy_in v
    last = ap (λ (n : ℕ). get_or (map copy_in vs ++ copy_in v ∷ []) n no_copy) (sym h.many) ∙ get_or-append_seam (map copy_in vs) (copy_in v) [] no_copy

    at : (l : ℕ) → l < level + 1 → fresh actives l (get_or (map copy_in vs ++ copy_in v ∷ []) l no_copy)
    at l low =
        elim (cases_lt l level) [
          | inl before ↦ subst (fresh actives l) (sym (get_or_append_left (map copy_in vs) (copy_in v ∷ []) no_copy l (let m = h.many in omega (arith, m)))) (h.empty l before, h.room l before)
          | inr past ↦ let here : l ≡ level = omega arith in
              subst (λ (n : ℕ). fresh actives n (get_or (map copy_in vs ++ copy_in v ∷ []) n no_copy)) (sym here) (subst (fresh actives level) (sym last) (none, room))
        ]

-- ---- nothing is copied of a frame that shows nothing
nil_of : {A : Type 0} (xs : List A) → length xs ≡ 0 → xs ≡ []
nil_of [] e = refl
nil_of (x ∷ xs) e = absurd (omega arith)

no_cells : cells empty_region ≡ []
no_cells = nil_of (cells empty_region) (sym (length_cells empty_region) ∙ no_area empty_region empty_is_empty)

first_only : (level : ℕ) → level < 1 → active_at (empty_region ∷ []) level ≡ empty_region
unfolding active_at
first_only zero low = refl
first_only (suc level) low = absurd (omega arith)

pub nothing_copied : (k : ℕ) (actives : List Region) (copies : CopiesView) → actives ≡ empty_region ∷ [] → IsRoom k actives copies → AreCopies copies
nothing_copied k actives copies e room =
    record {
      terrain = no_terrain;
      right = λ level low.
          let asked : level < length actives = subst (λ (rs : List Region). level < length rs) room.regions low in
          let none : active_at copies.actives level ≡ empty_region = ap (λ (rs : List Region). active_at rs level) (room.regions ∙ e) ∙ first_only level (subst (λ (rs : List Region). level < length rs) e asked) in
          room.levels.empty level asked
          ∙ sym (ap (λ (r : Region). heights_in no_terrain level r) none ∙ ap (map (λ (c : ℤ × ℤ). level_height no_terrain level c.0 c.1)) no_cells);
    }

-- ---- what is so of an Ok
pub where_ok : {A E : Type 0} (P Q : A → Type 0) (r : Result A E) → ((x : A) → P x → Q x) → IfOk r P → IfOk r Q
where_ok P Q (Ok x) f h = f x h
where_ok P Q (Err e) f h = h
