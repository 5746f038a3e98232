-- A sample of a table, and the samples of a level.
use Rattle.std.proofs.Common.{◌≡◌, ℕ, ℤ, pos, negsuc, neg_ℤ, nat_abs, ◌+◌, ◌*◌, ◌^◌, ◌<◌, ◌≤ℤ◌, ◌*ℤ◌, ◌&&◌, Bool, true, false, cond, ltb, length, get_or, ap, ap₂, add_assoc, mul_comm, List, ◌≤◌, sym, ◌∙◌, refl, subst, arith}
use Rattle.std.specs.Int.{w16, w32}
use Rattle.std.proofs.lemmas.Bool.Decides.{nat_tests}
use Rattle.std.proofs.lemmas.Int.{ints, to_z-of_z}
use Rattle.std.proofs.lemmas.List.{get_or_default}
use Rattle.std.specs.List.{between}
use Rattle.std.proofs.lemmas.List.Edits.{get_or-between}
use Rattle.std.proofs.Math.Nat.{mul-le-mul_right}
use Rattle.std.proofs.lemmas.Nat.{mul-add-lt}
use lib.Signed.{lt_z}
use mir.Val.{SFits, to_z, of_z}
use Rattle.terrain_model.specs.Terrain.{Terrain, IsTerrain, height_at, level_height}
use Rattle.height_pyramid.specs.Reach.{IsInReach}

-- a number of 16 or 32 bits is the same when its bits are read again
pub same16 : (z : ℤ) → SFits w16 z → to_z w16 (of_z w16 z) ≡ z
same16 z fits = to_z-of_z w16 z fits

pub same32 : (z : ℤ) → SFits w32 z → to_z w32 (of_z w32 z) ≡ z
same32 z fits = to_z-of_z w32 z fits

inside : (a b : Bool) (height : ℤ) → a ≡ true → b ≡ true → height ≡ cond (a && b) height (pos 0)
inside a b height e f = rw (e, f) refl

-- a sample of the table, at a place inside
pub sample_inside : (terrain : Terrain) (x y height : ℤ) → IsTerrain terrain → lt_z x (pos 0) ≡ false → lt_z y (pos 0) ≡ false → nat_abs x < terrain.width → nat_abs y < terrain.height → height ≡ get_or terrain.table (nat_abs y * terrain.width + nat_abs x) height → height ≡ height_at terrain x y
unfolding height_at
sample_inside terrain (pos x) (pos y) height sound x_sign y_sign x_in y_in read =
    let place : y * terrain.width + x < terrain.width * terrain.height = mul-add-lt y terrain.width x terrain.height y_in x_in in
    let in_table : y * terrain.width + x < length terrain.table = omega (arith, sound.whole_table) in
    read
    ∙ get_or_default terrain.table (y * terrain.width + x) height (pos 0) in_table
    ∙ inside (ltb x terrain.width) (ltb y terrain.height) (get_or terrain.table (y * terrain.width + x) (pos 0)) (grind (arith, nat_tests)) (grind (arith, nat_tests))
sample_inside terrain (pos x) (negsuc y) height sound x_sign y_sign x_in y_in read = cc
sample_inside terrain (negsuc x) y height sound x_sign y_sign x_in y_in read = cc

bounded_fits : (z : ℤ) → neg_ℤ (pos (2 ^ 30)) ≤ℤ z → z ≤ℤ pos (2 ^ 30) → SFits w32 z
bounded_fits z low high = grind (arith, ints)

-- a cell in reach of a level has a place of 32 bits
pub reach_fits : (level : ℕ) (cell spacing : ℤ) → IsInReach level cell → spacing ≡ pos (2 ^ level) → SFits w32 (cell *ℤ spacing)
reach_fits level cell spacing reach e =
    let P : ℤ → Type 0 = λ s. SFits w32 (cell *ℤ s) in
    subst P (sym e) (bounded_fits (cell *ℤ pos (2 ^ level)) reach.low reach.high)

-- the sample at a cell's place is the height of the cell
pub level_by_sample : (terrain : Terrain) (level : ℕ) (i j spacing height : ℤ) → spacing ≡ pos (2 ^ level) → height ≡ height_at terrain (i *ℤ spacing) (j *ℤ spacing) → height ≡ level_height terrain level i j
unfolding level_height
level_by_sample terrain level i j spacing height e read =
    let P : ℤ → Type 0 = λ s. height ≡ height_at terrain (i *ℤ s) (j *ℤ s) in
    subst P e read

-- ---- the finest level
once : (x : ℕ) → pos x ≡ pos x *ℤ pos (2 ^ 0)
once x = omega (arith, ints)

-- the height of a cell that lies inside
pub level_at : (terrain : Terrain) (x y : ℕ) → x < terrain.width → y < terrain.height → get_or terrain.table (y * terrain.width + x) (pos 0) ≡ level_height terrain 0 (pos x) (pos y)
unfolding height_at level_height
level_at terrain x y x_in y_in =
    inside (ltb x terrain.width) (ltb y terrain.height) (get_or terrain.table (y * terrain.width + x) (pos 0)) (grind (arith, nat_tests)) (grind (arith, nat_tests))
    ∙ ap₂ (height_at terrain) (once x) (once y)

-- so many columns from one on, of a row inside, are in the table
pub part_in : (terrain : Terrain) (x y n : ℕ) → IsTerrain terrain → x + n ≤ terrain.width → y < terrain.height → y * terrain.width + x + n ≤ length terrain.table
part_in terrain x y n sound across down =
    let room : (y + 1) * terrain.width ≤ terrain.height * terrain.width = mul-le-mul_right terrain.width (omega arith) in
    let parts : (y + 1) * terrain.width ≡ y * terrain.width + terrain.width = grind arith in
    let turned : terrain.height * terrain.width ≡ terrain.width * terrain.height = mul_comm terrain.height terrain.width in
    omega (arith, room, parts, turned, sound.whole_table)

-- a row that was copied
pub copied : (terrain : Terrain) (x y n : ℕ) (out : List ℤ) → x + n ≤ terrain.width → y < terrain.height → out ≡ between (y * terrain.width + x) (y * terrain.width + x + n) terrain.table → (k : ℕ) → k < n → get_or out k (pos 0) ≡ level_height terrain 0 (pos (x + k)) (pos y)
copied terrain x y n out across down e k few =
    let start = y * terrain.width + x in
    ap (λ (xs : List ℤ). get_or xs k (pos 0)) e
    ∙ get_or-between terrain.table start (start + n) k (pos 0) (omega arith)
    ∙ ap (λ (i : ℕ). get_or terrain.table i (pos 0)) (add_assoc (y * terrain.width) x k)
    ∙ level_at terrain (x + k) y (omega arith) down
