-- The heights of a level outside the terrain.
use Rattle.std.proofs.Common.{◌≡◌, ◌⊎◌, inl, inr, Bool, true, false, ◌&&◌, cond, ltb, ℕ, suc, ◌+◌, ◌-◌, ◌*◌, ◌/◌, ◌^◌, ◌<◌, ◌≤◌, ℤ, pos, negsuc, neg_ℤ, ◌*ℤ◌, ◌≤ℤ◌, length, get_or, FitsSigned, refl, ap, sym, ◌∙◌, ⊎_elim, arith}
use Rattle.std.specs.Int.{w16}
use Rattle.std.proofs.lemmas.Int.{ints}
use Rattle.std.proofs.lemmas.Nat.{pow_pos}
use Rattle.std.proofs.lemmas.Bool.{cases_lt, false≢true}
use Rattle.std.proofs.lemmas.Bool.Decides.{nat_tests}
use Rattle.std.proofs.lemmas.List.{get_or_past}
use Rattle.std.proofs.Math.IntN.{negsuc-*ℤ-pos}
use Rattle.std.proofs.Math.Nat.{mul-le-mul}
use lib.Signed.{le_z}
use Rattle.clip_regions.specs.Regions.{contains}
use Rattle.terrain_model.specs.Terrain.{Terrain, IsTerrain, height_at, level_height}
use Rattle.store_model.specs.Sizes.{cells_on, level_region}

-- a height that no test lets through
none_of : (a b : Bool) (x : ℤ) → (a && b) ≡ false → cond (a && b) x (pos 0) ≡ pos 0
none_of a b x e = ap (λ (t : Bool). cond t x (pos 0)) e

right_false : (a b : Bool) → b ≡ false → (a && b) ≡ false
right_false true b e = e
right_false false b e = refl

left_false : (a b : Bool) → a ≡ false → (a && b) ≡ false
left_false a b e = ap (λ (t : Bool). t && b) e

pub past_column : (terrain : Terrain) (x y : ℤ) → ((n : ℕ) → x ≡ pos n → terrain.width ≤ n) → height_at terrain x y ≡ pos 0
unfolding height_at
past_column terrain (pos x) (pos y) past =
    let h = past x refl in
    none_of (ltb x terrain.width) (ltb y terrain.height) (get_or terrain.table (y * terrain.width + x) (pos 0)) (left_false (ltb x terrain.width) (ltb y terrain.height) (grind (arith, nat_tests)))
past_column terrain (pos x) (negsuc y) past = refl
past_column terrain (negsuc x) y past = refl

pub past_row : (terrain : Terrain) (x y : ℤ) → ((n : ℕ) → y ≡ pos n → terrain.height ≤ n) → height_at terrain x y ≡ pos 0
unfolding height_at
past_row terrain (pos x) (pos y) past =
    let h = past y refl in
    none_of (ltb x terrain.width) (ltb y terrain.height) (get_or terrain.table (y * terrain.width + x) (pos 0)) (right_false (ltb x terrain.width) (ltb y terrain.height) (grind (arith, nat_tests)))
past_row terrain (pos x) (negsuc y) past = refl
past_row terrain (negsuc x) y past = refl

-- a cell before the first or past the last of a side has no sample
pos_inj : (m n : ℕ) → pos m ≡ pos n → m ≡ n
pos_inj m n e = cc

past_sample : (side level m : ℕ) → 1 ≤ side → cells_on side level ≤ m → side ≤ m * 2 ^ level
unfolding cells_on
past_sample side level m some h =
    let unit = pow_pos level in
    let whole : (side - 1) < ((side - 1) / 2 ^ level + 1) * 2 ^ level = omega arith in
    let more : ((side - 1) / 2 ^ level + 1) * 2 ^ level ≤ m * 2 ^ level = mul-le-mul h (le_self (2 ^ level)) in
    omega arith
  where
    le_self : (n : ℕ) → n ≤ n
    le_self n = omega arith

out_of_side : (side level : ℕ) (i : ℤ) → 1 ≤ side → (le_z (pos 0) i && le_z i (pos (cells_on side level - 1))) ≡ false → (n : ℕ) → i *ℤ pos (2 ^ level) ≡ pos n → side ≤ n
out_of_side side level (pos m) some e n p =
    let n_is : m * 2 ^ level ≡ n = pos_inj (m * 2 ^ level) n p in
    ⊎_elim
    (λ (inside : m < cells_on side level).
    let first : le_z (pos 0) (pos m) ≡ true = grind (arith, ints) in
    let last : le_z (pos m) (pos (cells_on side level - 1)) ≡ true = (let l : pos m ≤ℤ pos (cells_on side level - 1) = omega (arith, ints) in grind (arith, ints)) in
    absurd (false≢true (sym e ∙ ap (λ (t : Bool). t && le_z (pos m) (pos (cells_on side level - 1))) first ∙ last)))
    (λ (past : cells_on side level ≤ m). let h = past_sample side level m some past in omega arith)
    (cases_lt m (cells_on side level))
out_of_side side level (negsuc m) some e n p =
    let unit = pow_pos level in
    let is : negsuc m *ℤ pos (2 ^ level) ≡ neg_ℤ (pos (suc m * 2 ^ level)) = negsuc-*ℤ-pos m (2 ^ level) in
    let some_size : 0 < suc m * 2 ^ level = omega arith in
    absurd (omega (arith, ints, is, p))

both_false : (a b : Bool) → (a && b) ≡ false → (a ≡ false) ⊎ (b ≡ false)
both_false true b e = inr e
both_false false b e = inl refl

pub level_outside : (terrain : Terrain) (level : ℕ) (i j : ℤ) → IsTerrain terrain → contains (level_region terrain.width terrain.height level) i j ≡ false → level_height terrain level i j ≡ pos 0
unfolding contains level_region level_height
level_outside terrain level i j sound e =
    ⊎_elim
    (λ (h : (le_z (pos 0) i && le_z i (pos (cells_on terrain.width level - 1))) ≡ false).
    past_column terrain (i *ℤ pos (2 ^ level)) (j *ℤ pos (2 ^ level)) (out_of_side terrain.width level i sound.some_columns h))
    (λ (h : (le_z (pos 0) j && le_z j (pos (cells_on terrain.height level - 1))) ≡ false).
    past_row terrain (i *ℤ pos (2 ^ level)) (j *ℤ pos (2 ^ level)) (out_of_side terrain.height level j sound.some_rows h))
    (both_false (le_z (pos 0) i && le_z i (pos (cells_on terrain.width level - 1))) (le_z (pos 0) j && le_z j (pos (cells_on terrain.height level - 1))) e)

-- every height of a terrain has 16 bits, also those outside
chosen_fits : (t : Bool) (x : ℤ) → FitsSigned w16 x → FitsSigned w16 (cond t x (pos 0))
chosen_fits true x h = h
chosen_fits false x h = omega (arith, ints)

pub height_fits : (terrain : Terrain) (x y : ℤ) → IsTerrain terrain → FitsSigned w16 (height_at terrain x y)
unfolding height_at
height_fits terrain (pos x) (pos y) sound =
    chosen_fits (ltb x terrain.width && ltb y terrain.height) (get_or terrain.table (y * terrain.width + x) (pos 0))
    (⊎_elim
    (λ (inside : y * terrain.width + x < length terrain.table). sound.short_heights (y * terrain.width + x) (pos 0) inside)
    (λ (past : length terrain.table ≤ y * terrain.width + x). rw (get_or_past terrain.table (y * terrain.width + x) (pos 0) past) (omega (arith, ints)))
    (cases_lt (y * terrain.width + x) (length terrain.table)))
height_fits terrain (pos x) (negsuc y) sound = omega (arith, ints)
height_fits terrain (negsuc x) y sound = omega (arith, ints)

pub level_fits : (terrain : Terrain) (level : ℕ) (i j : ℤ) → IsTerrain terrain → FitsSigned w16 (level_height terrain level i j)
unfolding level_height
level_fits terrain level i j sound = height_fits terrain (i *ℤ pos (2 ^ level)) (j *ℤ pos (2 ^ level)) sound
