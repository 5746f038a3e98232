-- Counts that are changed one tile after another.
use Rattle.std.proofs.Common.{◌≡◌, ℕ, ◌+◌, ◌*◌, ◌<◌, ◌≤◌, Bool, false, cond, List, [], ◌∷◌, ◌++◌, length, get_or, fold, flat_map, Option, Some, None, refl, ap, sym, ◌∙◌, inl, inr, arith, zero-add}
use Rattle.std.specs.List.{count_by}
use Rattle.std.proofs.lemmas.Bool.{cases_Bool}
use Rattle.std.proofs.lemmas.List.Sums.{sum_by-append}
use Rattle.std.proofs.lemmas.Nat.{mul-add-lt, mod-mul-add, div-mul-add}
use mathlib.Core.Path.{ap₂}
use Rattle.clip_regions.specs.declared.region.Region.{Region}
use Rattle.plan_model.specs.Blocks.{tiles_per_side}
use Rattle.plan_model.specs.Tiles.{meets_tile, lesser}
use Rattle.plan_model.specs.declared.tiles.TileId.{TileId}
use Rattle.tile_pins.specs.declared.pin.Pin.{Pin}
use Rattle.tile_pins.specs.Pinned.{frame_on, is_on, first_frame}
use Rattle.tile_pins.specs.Counts.{numbered, changed_by, AreCounted}

-- ---- one more tile at each turn
abbrev met : ℕ → Region → ℕ → Bool
met k region n = meets_tile k region (numbered (tiles_per_side k) n)

pub record ChangedSoFar (k : ℕ) (region : Region) (more : Bool) (n : ℕ) (old new : List ℕ) : Type 0 where
  pub many : length new ≡ length old
  pub done : (m : ℕ) → m < n → get_or new m 0 ≡ changed_by (met k region m) more (get_or old m 0)
  pub rest : (m : ℕ) → n ≤ m → get_or new m 0 ≡ get_or old m 0

abbrev tile : ℕ → ℕ → TileId
tile tx ty = record { tx = tx; ty = ty }

abbrev one : Bool → ℕ
one b = cond b 1 0

-- ---- frames on a tile
none_cons : (k : ℕ) (t : TileId) (pin : Option Pin) (pins : List (Option Pin)) → is_on k t pin ≡ false → flat_map (frame_on k t) pins ≡ [] → flat_map (frame_on k t) (pin ∷ pins) ≡ []
none_cons k t None pins e g = g
none_cons k t (Some pin) pins e g =
    ap₂ (λ (b : Bool) (ns : List ℕ). cond b (pin.frame ∷ []) [] ++ ns) e g

count_cons : (p : Option Pin → Bool) (x : Option Pin) (xs : List (Option Pin)) → count_by p (x ∷ xs) ≡ one (p x) + count_by p xs
count_cons p x xs =
    sum_by-append (λ (y : Option Pin). cond (p y) 1 0) (x ∷ []) xs ∙ ap (λ (n : ℕ). n + count_by p xs) (zero-add (one (p x)))

pub none_on : (k : ℕ) (t : TileId) (pins : List (Option Pin)) → count_by (is_on k t) pins ≡ 0 → flat_map (frame_on k t) pins ≡ []
none_on k t [] e = refl
none_on k t (pin ∷ pins) e =
    elim (cases_Bool (is_on k t pin)) [
      | inl h ↦ let here : one (is_on k t pin) ≡ 1 = ap one h in absurd (omega (arith, here, count_cons (is_on k t) pin pins))
      | inr h ↦ none_cons k t pin pins h (none_on k t pins (omega (arith, count_cons (is_on k t) pin pins)))
    ]

-- a tile of which the count is 0 has no frame
numbered_is : (side : ℕ) (t : TileId) → t.tx < side → numbered side (t.ty * side + t.tx) ≡ t
unfolding numbered
numbered_is side t h = ap₂ tile (mod-mul-add t.ty side t.tx h) (div-mul-add t.ty side t.tx h)

pub free_is : (k : ℕ) (pins : List (Option Pin)) (counts : List ℕ) → AreCounted k pins counts → (t : TileId) → t.tx < tiles_per_side k → t.ty < tiles_per_side k → get_or counts (t.ty * tiles_per_side k + t.tx) 0 ≡ 0 → first_frame (record { k = k; pins = pins }) t ≡ None
unfolding first_frame
free_is k pins counts counted t x y none =
    let below : t.ty * tiles_per_side k + t.tx < tiles_per_side k * tiles_per_side k = mul-add-lt t.ty (tiles_per_side k) t.tx (tiles_per_side k) y x in
    let inside : t.ty * tiles_per_side k + t.tx < length counts = omega (arith, counted.many, below) in
    let count : count_by (is_on k t) pins ≡ 0 = ap (λ (u : TileId). count_by (is_on k u) pins) (sym (numbered_is (tiles_per_side k) t x)) ∙ sym (counted.each (t.ty * tiles_per_side k + t.tx) inside) ∙ none in
    ap (fold lesser None) (none_on k t pins count)
