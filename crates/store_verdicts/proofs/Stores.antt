-- Any bytes are a store of some terrain, or have a first fault.
use Rattle.std.proofs.Common.{◌≡◌, ◌⊎◌, inl, inr, true, false, ltb, ℕ, zero, suc, ◌+◌, ◌-◌, ◌*◌, ◌/◌, ◌%◌, ◌<◌, ◌≤◌, ℤ, pos, negsuc, List, length, take, drop, map, get_or, FitsSigned, refl, ap, ap₂, sym, ◌∙◌, subst, ⊎_elim, arith, length-drop}
use Rattle.std.specs.Int.{w16}
use Rattle.std.specs.List.{range_with_len}
use Rattle.std.proofs.lemmas.Int.{ints}
use Rattle.std.proofs.lemmas.Nat.{mul-add-lt, mod-mul-add, div-mul-add}
use Rattle.std.proofs.lemmas.Bool.{cases_Bool, cases_lt}
use Rattle.std.proofs.lemmas.Bool.Decides.{nat_tests}
use Rattle.std.proofs.lemmas.List.{take-append-drop, length-take-le}
use Rattle.std.proofs.lemmas.List.FromFn.{get_or-map-range_with_len, length-map-range_with_len}
use Rattle.clip_regions.specs.Regions.{contains}
use Rattle.terrain_model.specs.Terrain.{Terrain, IsTerrain, height_at}
use Rattle.terrain_model.specs.Laws.{FinestLevel}
use Rattle.store_model.specs.declared.fault.StoreFault.TheVariants.{Excess}
use Rattle.store_model.specs.Sizes.{cells_on, level_region}
use Rattle.store_model.specs.Format.{Head, IsSoundHead}
use Rattle.store_model.specs.Store.{Levels, IsLevel, IsFront}
use Rattle.store_model.specs.Laws.{LevelOutside}
use Rattle.store_model.proofs.RestoredLevels.{both}
use Rattle.store_laws.specs.Laws.{FrontOfLike, StoreOfLevels}
use Rattle.store_reader.proofs.CellNumbers.{lies}
use Rattle.store_reader.proofs.HeaderBytes.{take_all}
use Rattle.store_verdicts.specs.Laws.{IsSomeStore, HasSomeStoreFault}
use Rattle.store_verdicts.proofs.Blocks.{AreBytes}
use Rattle.store_verdicts.proofs.Levels.{Reached, levels_verdict}
use Rattle.store_verdicts.proofs.Heads.{HeadRead, head_verdict}

-- ---- the terrain of the finest heights

terrain_of : Head → (ℤ → ℤ → ℤ) → Terrain
terrain_of head f = record {
  width = head.width;
  height = head.height;
  table = map (λ n. f (pos (n % head.width)) (pos (n / head.width))) (range_with_len 0 (head.width * head.height));
}

is_terrain : (head : Head) (f : ℤ → ℤ → ℤ) → IsSoundHead head → ((i j : ℤ) → FitsSigned w16 (f i j)) → IsTerrain (terrain_of head f)
unfolding terrain_of
is_terrain head f sound fits =
    let w = head.width in
    let h = head.height in
    let at = λ (n : ℕ). f (pos (n % w)) (pos (n / w)) in
    record {
      some_columns = sound.some_columns;
      some_rows = sound.some_rows;
      few_samples = sound.few_samples;
      whole_table = length-map-range_with_len at 0 (w * h);
      short_heights = λ k d inside.
          let n : length (map at (range_with_len 0 (w * h))) ≡ w * h = length-map-range_with_len at 0 (w * h) in
          subst (FitsSigned w16) (sym (get_or-map-range_with_len at 0 (w * h) k k d (omega arith) (omega arith))) (fits (pos (k % w)) (pos (k / w)));
    }

height_inside : (head : Head) (f : ℤ → ℤ → ℤ) (x y : ℕ) → x < head.width → y < head.height → height_at (terrain_of head f) (pos x) (pos y) ≡ f (pos x) (pos y)
unfolding height_at terrain_of
height_inside head f x y x_in y_in =
    let w = head.width in
    let h = head.height in
    let at = λ (n : ℕ). f (pos (n % w)) (pos (n / w)) in
    both (ltb x w) (ltb y h) (get_or (map at (range_with_len 0 (w * h))) (y * w + x) (pos 0)) (pos 0) (grind (arith, nat_tests)) (grind (arith, nat_tests))
    ∙ get_or-map-range_with_len at 0 (w * h) (y * w + x) (y * w + x) (pos 0) (mul-add-lt y w x h y_in x_in) (omega arith)
    ∙ ap₂ (λ (u v : ℕ). f (pos u) (pos v)) (mod-mul-add y w x x_in) (div-mul-add y w x x_in)

-- a cell of the finest level
record IsSample (head : Head) (i j : ℤ) : Type 0 where
  x : ℕ
  y : ℕ
  column : i ≡ pos x
  row : j ≡ pos y
  across : x < head.width
  down : y < head.height

is_sample : (head : Head) (i j : ℤ) → IsSoundHead head → contains (level_region head.width head.height 0) i j ≡ true → IsSample head i j
unfolding level_region cells_on
is_sample head (pos x) (pos y) sound e =
    let h = lies (level_region head.width head.height 0) (pos x) (pos y) e in
    let east = h.east in
    let south = h.south in
    let some = sound.some_columns in
    let some_rows = sound.some_rows in
    record { x = x; y = y; column = refl; row = refl; across = omega (arith, ints); down = omega (arith, ints) }
is_sample head (negsuc x) j sound e = (let h = (lies (level_region head.width head.height 0) (negsuc x) j e).west in absurd (omega (arith, ints)))
is_sample head (pos x) (negsuc y) sound e = (let h = (lies (level_region head.width head.height 0) (pos x) (negsuc y) e).north in absurd (omega (arith, ints)))

outside_terrain : FinestLevel → LevelOutside → (head : Head) (f : ℤ → ℤ → ℤ) (i j : ℤ) → IsTerrain (terrain_of head f) → contains (level_region head.width head.height 0) i j ≡ false → height_at (terrain_of head f) i j ≡ pos 0
unfolding terrain_of
outside_terrain finest out head f i j terrain e = sym (finest (terrain_of head f) i j) ∙ out (terrain_of head f) 0 i j terrain e

same_heights : FinestLevel → LevelOutside → (head : Head) (f : ℤ → ℤ → ℤ) → IsSoundHead head → IsTerrain (terrain_of head f) → ((i j : ℤ) → contains (level_region head.width head.height 0) i j ≡ false → f i j ≡ pos 0) → (i j : ℤ) → f i j ≡ height_at (terrain_of head f) i j
same_heights finest out head f sound terrain none i j =
    ⊎_elim
    (λ (e : contains (level_region head.width head.height 0) i j ≡ true).
    let c = is_sample head i j sound e in
    ap₂ f c.column c.row ∙ sym (height_inside head f c.x c.y c.across c.down) ∙ ap₂ (height_at (terrain_of head f)) (sym c.column) (sym c.row))
    (λ (e : contains (level_region head.width head.height 0) i j ≡ false).
    none i j e ∙ sym (outside_terrain finest out head f i j terrain e))
    (cases_Bool (contains (level_region head.width head.height 0) i j))

-- ---- the end of the bytes

record FinestRead (head : Head) (heights : Levels) : Type 0 where
  short : (i j : ℤ) → FitsSigned w16 (heights 0 i j)
  outside : (i j : ℤ) → contains (level_region head.width head.height 0) i j ≡ false → heights 0 i j ≡ pos 0

finest_of : (head : Head) (heights : Levels) (n : ℕ) (bytes : List ℕ) → n ≡ head.levels → 1 ≤ n → IsFront head heights n bytes → FinestRead head heights
finest_of head heights zero bytes all some front = absurd (omega arith)
finest_of head heights (suc n) bytes all some front =
    let last : head.levels - suc n ≡ 0 = omega arith in
    let level : IsLevel head heights 0 front.1 = subst (λ (m : ℕ). IsLevel head heights m front.1) last front.3 in
    record { short = level.short; outside = level.outside }

whole_store : FinestLevel → LevelOutside → StoreOfLevels → (head : Head) (bytes : List ℕ) → IsSoundHead head → (r : Reached head head.levels bytes) → length bytes ≤ r.at → IsSomeStore bytes
unfolding terrain_of
whole_store finest out stores head bytes sound r past =
    let f = r.heights 0 in
    let last = finest_of head r.heights head.levels (take r.at bytes) refl sound.some_levels r.front in
    let terrain = is_terrain head f sound last.short in
    record {
      head = head;
      terrain = terrain_of head f;
      store =
          stores head r.heights (terrain_of head f) bytes sound terrain refl refl (same_heights finest out head f sound terrain last.outside)
          (subst (λ (xs : List ℕ). IsFront head r.heights head.levels xs) (take_all bytes r.at past) r.front);
    }

excess : (head : Head) (bytes : List ℕ) → IsSoundHead head → (r : Reached head head.levels bytes) → r.at < length bytes → HasSomeStoreFault bytes
excess head bytes sound r more = record {
  fault = Excess r.at;
  first = record {
    head = head;
    sound = sound;
    heights = r.heights;
    before = take r.at bytes;
    rest = drop r.at bytes;
    front = r.front;
    spelled = sym (take-append-drop r.at bytes);
    some = λ e. (let size = ap length e in omega (arith, length-drop r.at bytes));
    place = sym (length-take-le r.at bytes (omega arith));
  };
}

pub any_store : FinestLevel → LevelOutside → FrontOfLike → StoreOfLevels → (bytes : List ℕ) → AreBytes bytes → IsSomeStore bytes ⊎ HasSomeStoreFault bytes
any_store finest out like stores bytes all =
    ⊎_elim
    (λ (h : HeadRead bytes).
    let first : Reached h.head 0 bytes = record { heights = λ m i j. pos 0; at = h.start; ends = h.inside; front = h.front } in
    ⊎_elim
    (λ (r : Reached h.head h.head.levels bytes).
    ⊎_elim
    (λ (more : r.at < length bytes). inr (excess h.head bytes h.sound r more))
    (λ (past : length bytes ≤ r.at). inl (whole_store finest out stores h.head bytes h.sound r past))
    (cases_lt r.at (length bytes)))
    (λ (f : HasSomeStoreFault bytes). inr f)
    (levels_verdict like h.head h.sound bytes all first h.head.levels (omega arith)))
    (λ (f : HasSomeStoreFault bytes). inr f)
    (head_verdict bytes all)
