-- By the step 1 nothing is lost.
use Rattle.std.proofs.Common.{◌≡◌, Bool, true, ◌&&◌, cond, ltb, ℕ, ◌+◌, ◌*◌, ◌/◌, ◌%◌, ◌<◌, ◌≤◌, ℤ, pos, map, length, get_or, refl, ap, sym, ◌∙◌, subst, arith}
use Rattle.std.specs.List.{range_with_len}
use Rattle.std.proofs.lemmas.Bool.Decides.{nat_tests}
use Rattle.std.proofs.lemmas.Nat.{div-add-mod', div_below, mod_below}
use Rattle.std.proofs.lemmas.List.{same_lists, get_or_default}
use Rattle.std.proofs.lemmas.List.FromFn.{get_or-map-range_with_len, length-map-range_with_len}
use Rattle.terrain_model.specs.Terrain.{Terrain, IsTerrain, height_at}
use Rattle.terrain_model.specs.Laws.{FinestLevel}
use Rattle.store_model.specs.Format.{IsVersion}
use Rattle.store_model.specs.Store.{IsStore}
use Rattle.store_model.specs.Restored.{restored_height, restored_terrain, canonical_store, head_of}
use Rattle.store_model.specs.Laws.{RestoredByOne, CanonicalStore}

both : (a b : Bool) (x : ℤ) → a ≡ true → b ≡ true → cond (a && b) x (pos 0) ≡ x
both a b x e f = rw (e, f) refl

sample_at : (terrain : Terrain) (k : ℕ) → IsTerrain terrain → k < terrain.width * terrain.height → height_at terrain (pos (k % terrain.width)) (pos (k / terrain.width)) ≡ get_or terrain.table k (pos 0)
unfolding height_at
sample_at terrain k sound below =
    let w = terrain.width in
    let h = terrain.height in
    let wide : 0 < w = (let some = sound.some_columns in omega arith) in
    let column : k % w < w = mod_below k w wide in
    let row : k / w < h = div_below k w h wide (omega arith) in
    both (ltb (k % w) w) (ltb (k / w) h) (get_or terrain.table (k / w * w + k % w) (pos 0)) (grind (arith, nat_tests)) (grind (arith, nat_tests))
    ∙ ap (λ (n : ℕ). get_or terrain.table n (pos 0)) (div-add-mod' k w)

pub restored_by_one_is : FinestLevel → RestoredByOne → (terrain : Terrain) (levels : ℕ) → IsTerrain terrain → 1 ≤ levels → restored_terrain terrain levels 1 ≡ terrain
unfolding restored_terrain
restored_by_one_is finest same terrain levels sound some =
    let w = terrain.width in
    let h = terrain.height in
    let f = λ (n : ℕ). restored_height terrain levels 1 0 (pos (n % w)) (pos (n / w)) in
    let whole = sound.whole_table in
    let size : length (map f (range_with_len 0 (w * h))) ≡ w * h = length-map-range_with_len f 0 (w * h) in
    let tables : map f (range_with_len 0 (w * h)) ≡ terrain.table =
    same_lists (map f (range_with_len 0 (w * h))) terrain.table (size ∙ sym whole)
    (λ k d below.
    let few : k < w * h = omega arith in
    let in_table : k < length terrain.table = omega arith in
    get_or-map-range_with_len f 0 (w * h) k k d few (omega arith)
    ∙ same terrain levels 0 (pos (k % w)) (pos (k / w)) sound some
    ∙ finest terrain (pos (k % w)) (pos (k / w))
    ∙ sample_at terrain k sound few
    ∙ get_or_default terrain.table k (pos 0) d in_table) in
    (λ t. record { width = w; height = h; table = tables t })

pub store_by_one : FinestLevel → RestoredByOne → CanonicalStore → (version : ℕ) (terrain : Terrain) (levels : ℕ) → IsTerrain terrain → 1 ≤ levels → levels ≤ 12 → IsVersion version 1 → IsStore (head_of version terrain levels 1) terrain (canonical_store version terrain levels 1)
store_by_one finest same store version terrain levels sound some few s =
    subst (λ (R : Terrain). IsStore (head_of version terrain levels 1) R (canonical_store version terrain levels 1)) (restored_by_one_is finest same terrain levels sound some)
    (store version terrain levels 1 sound some few s)
