-- The heights of a tile, and of a level and the next coarser one.
use Rattle.std.proofs.Common.{◌≡◌, ℕ, ◌+◌, ◌*◌, ◌^◌, ◌<◌, ◌≤◌, ◌&&◌, Bool, true, cond, List, length, get_or, flat_map, refl, ap, sym, subst, ◌∙◌, ⊎_elim, zero-add, lit<, arith, ltb, All, pos, negsuc, ℤ, ◌*ℤ◌, slice_index}
use Rattle.std.specs.Prelude.{FitsSigned}
use Rattle.std.specs.Int.{w16}
use Rattle.std.specs.List.{range_with_len}
use Rattle.std.proofs.lemmas.Bool.Decides.{nat_tests}
use Rattle.std.proofs.lemmas.Int.{ints}
use Rattle.std.proofs.lemmas.List.FromFn.{get_or-map-range_with_len, length-map-range_with_len}
use Rattle.std.proofs.Math.IntN.{negsuc-*ℤ-pos, neg_ℤ}
use Rattle.std.proofs.Math.Nat.{mul-le-mul}
use Rattle.std.proofs.lemmas.Bool.{cases_lt}
use Rattle.std.proofs.lemmas.Grind.{common_steps}
use Rattle.std.proofs.lemmas.List.{get_or_past}
use Rattle.terrain_model.specs.Terrain.{Terrain, IsTerrain, height_at, level_height}
use Rattle.terrain_model.specs.Voids.{known_at, without_voids}
use Rattle.terrain_model.specs.Tile.{signed_pair, raw_sample, samples_from, tile_row, tile_terrain}
use Rattle.terrain_model.proofs.Rows.{rows_length, rows_at, rows_all}
use Rattle.terrain_model.proofs.Known.{filled_length, filled_at, filled_all}

-- a table read where both tests pass
inside : (a b : Bool) (height : ℤ) → a ≡ true → b ≡ true → cond (a && b) height (pos 0) ≡ height
inside a b height e f = rw (e, f) refl

-- a row has as many samples as the tile's side
row_length : (bytes : List ℕ) (side v : ℕ) → length (tile_row bytes side v) ≡ side
unfolding samples_from
row_length bytes side v = length-map-range_with_len (raw_sample bytes) (v * side) side

filled_row_length : (bytes : List ℕ) (side v : ℕ) → length (without_voids (tile_row bytes side v)) ≡ side
filled_row_length bytes side v = filled_length (tile_row bytes side v) ∙ row_length bytes side v

pub tile_height : (bytes : List ℕ) (side x y : ℕ) → x < side → y < side → height_at (tile_terrain bytes side) (pos x) (pos y) ≡ known_at (tile_row bytes side y) x
unfolding height_at tile_terrain
tile_height bytes side x y x_in y_in =
    let in_row : x < length (tile_row bytes side y) = subst (λ m. x < m) (sym (row_length bytes side y)) x_in in
    inside (ltb x side) (ltb y side) (get_or (flat_map (λ v. without_voids (tile_row bytes side v)) (range_with_len 0 side)) (y * side + x) (pos 0)) (grind (arith, nat_tests)) (grind (arith, nat_tests))
    ∙ rows_at (λ v. without_voids (tile_row bytes side v)) side 0 side y x (pos 0) (filled_row_length bytes side) y_in x_in
    ∙ ap (λ v. get_or (without_voids (tile_row bytes side v)) x (pos 0)) (zero-add y)
    ∙ filled_at (tile_row bytes side y) x (pos 0) in_row

-- two bytes make a number of 16 bits
pub signed_pair_fits : (high low : ℕ) → high < 256 → low < 256 → FitsSigned w16 (signed_pair high low)
unfolding signed_pair
signed_pair_fits high low h l = grind (arith, ints, nat_tests)

pub level_zero : (terrain : Terrain) (i j : ℤ) → level_height terrain 0 i j ≡ height_at terrain i j
unfolding level_height
level_zero terrain i j =
    let e : i *ℤ pos 1 ≡ i = grind (arith, ints) in
    let f : j *ℤ pos 1 ≡ j = grind (arith, ints) in
    rw (e, f) refl

doubled_by : (a : ℤ) (k : ℕ) → (pos 2 *ℤ a) *ℤ pos k ≡ a *ℤ pos (2 * k)
doubled_by (pos n) k = ap pos (omega arith)
doubled_by (negsuc n) k =
    let whole : (pos 2 *ℤ negsuc n) ≡ negsuc (2 * n + 1) = omega (arith, ints) in
    rw (whole, negsuc-*ℤ-pos (2 * n + 1) k, negsuc-*ℤ-pos n (2 * k)) (ap (λ m. neg_ℤ (pos m)) (omega arith))

doubled : (a : ℤ) (level : ℕ) → (pos 2 *ℤ a) *ℤ pos (2 ^ level) ≡ a *ℤ pos (2 ^ (level + 1))
doubled a level =
    let e : 2 * 2 ^ level ≡ 2 ^ (level + 1) = grind (arith, common_steps) in
    doubled_by a (2 ^ level) ∙ ap (λ n. a *ℤ pos n) e

byte_at : (bytes : List ℕ) (n : ℕ) → All (λ b. b < 256) bytes → slice_index bytes n < 256
byte_at bytes n small =
    ⊎_elim (λ (in_list : n < length bytes). small n 0 in_list) (λ (past : length bytes ≤ n). rw get_or_past (lit< tt)) (cases_lt n (length bytes))

pub raw_sample_fits : (bytes : List ℕ) (n : ℕ) → All (λ b. b < 256) bytes → FitsSigned w16 (raw_sample bytes n)
unfolding raw_sample
raw_sample_fits bytes n small =
    signed_pair_fits (slice_index bytes (2 * n)) (slice_index bytes (2 * n + 1)) (byte_at bytes (2 * n) small) (byte_at bytes (2 * n + 1) small)

row_fits : (bytes : List ℕ) (side v : ℕ) → All (λ b. b < 256) bytes → All (FitsSigned w16) (tile_row bytes side v)
unfolding samples_from
row_fits bytes side v small k d inside =
    let here : k < side = subst (λ m. k < m) (length-map-range_with_len (raw_sample bytes) (v * side) side) inside in
    subst (FitsSigned w16) (sym (get_or-map-range_with_len (raw_sample bytes) (v * side) side k (v * side + k) d here refl)) (raw_sample_fits bytes (v * side + k) small)

zero_fits : FitsSigned w16 (pos 0)
zero_fits = grind (arith, ints)

pub tile_is_terrain : (bytes : List ℕ) (side : ℕ) → All (λ b. b < 256) bytes → 1 ≤ side → side ≤ 3601 → IsTerrain (tile_terrain bytes side)
unfolding tile_terrain
tile_is_terrain bytes side small low high = record {
  some_columns = low;
  some_rows = low;
  few_samples = (let squares : side * side ≤ 3601 * 3601 = mul-le-mul high high in omega arith);
  whole_table = rows_length (λ v. without_voids (tile_row bytes side v)) side 0 side (filled_row_length bytes side);
  short_heights = rows_all (FitsSigned w16) (λ v. without_voids (tile_row bytes side v)) 0 side (λ v. filled_all (FitsSigned w16) (tile_row bytes side v) zero_fits (row_fits bytes side v small));
}

pub level_doubled : (terrain : Terrain) (level : ℕ) (a b : ℤ) → level_height terrain level (pos 2 *ℤ a) (pos 2 *ℤ b) ≡ level_height terrain (level + 1) a b
unfolding level_height
level_doubled terrain level a b = rw (doubled a level, doubled b level) refl
