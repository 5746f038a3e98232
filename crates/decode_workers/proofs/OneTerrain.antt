-- A terrain that copies are copies of, made of the copies alone.
use Rattle.std.proofs.Common.{◌≡◌, ℕ, zero, suc, ◌+◌, ◌*◌, ◌/◌, ◌%◌, ◌^◌, ◌<◌, ◌≤◌, ◌==◌, ◌&&◌, Bool, true, cond, nat_lt, ℤ, pos, negsuc, ◌*ℤ◌, ◌≤ℤ◌, List, length, map, get_or, refl, ap, ap₂, sym, ◌∙◌, inl, inr, arith}
use Rattle.std.specs.List.{range_with_len}
use Rattle.std.proofs.Math.Nat.{mod-add-div', mul-mod_left, mul-add-mod_self_right, mul-div_left, mul-le-mul, le_refl, mod-eq_of_lt}
use Rattle.std.proofs.lemmas.Int.{ints}
use Rattle.std.proofs.lemmas.Nat.{div-mul-add}
use Rattle.std.proofs.lemmas.Bool.{and_parts, and_from, cases_Bool, true≢false, eqb-true, eq-eqb}
use Rattle.std.proofs.lemmas.Bool.Decides.{nat_tests}
use Rattle.std.proofs.lemmas.List.FromFn.{get_or-map-range_with_len}
use Rattle.clip_regions.specs.Regions.{contains, cells}
use Rattle.clip_regions.proofs.Cells.{lying}
use Rattle.terrain_model.specs.Terrain.{Terrain, height_at, level_height}
use Rattle.plan_model.proofs.Quotients.{some_power}
use Rattle.mesh_model.specs.Height.{active_at}
use Rattle.mesh_model.proofs.Cells.{all_cells}
use Rattle.mesh_laws.proofs.Reaches.{near_of}
use Rattle.active_region.specs.Active.{AreActive}
use Rattle.torus_grid.specs.Places.{place_among}
use Rattle.torus_grid.specs.Laws.{CellsInRows}
use Rattle.decode_workers.specs.Copies.{CopiesView, copy_of, AreCopiesOf}
use Rattle.decode_workers.proofs.SameMesh.{map_same, height_there}

-- more samples than there are in reach on an axis
side : ℕ
side = 2 ^ 23 + 1

-- a level has a cell at the sample in column a and row b
has_sample : CopiesView → ℕ → ℕ → ℕ → Bool
has_sample copies level a b =
    ((a % 2 ^ level == 0) && (b % 2 ^ level == 0)) && contains (active_at copies.actives level) (pos (a / 2 ^ level)) (pos (b / 2 ^ level))

-- its height there
copied : CopiesView → ℕ → ℕ → ℕ → ℤ
copied copies level a b =
    get_or (copy_of copies level).heights (place_among (active_at copies.actives level) (pos (a / 2 ^ level)) (pos (b / 2 ^ level))) (pos 0)

-- the height at a sample by the first of n levels that has it
sample : CopiesView → ℕ → ℕ → ℕ → ℕ → ℤ
sample copies zero level a b = pos 0
sample copies (suc n) level a b = cond (has_sample copies level a b) (copied copies level a b) (sample copies n (level + 1) a b)

pub terrain_of : CopiesView → Terrain
terrain_of copies = record {
  width = side;
  height = side;
  table = map (λ n. sample copies (length copies.actives) 0 (n % side) (n / side)) (range_with_len 0 (side * side));
}

-- ---- one level
divided : (a p : ℕ) → (a % p == 0) ≡ true → a / p * p ≡ a
divided a p e =
    let none : a % p ≡ 0 = eqb-true (a % p) 0 e in
    let whole : a % p + a / p * p ≡ a = mod-add-div' a p in
    omega (arith, none, whole)

level_right : CellsInRows → (u : Terrain) (copies : CopiesView) → AreCopiesOf u copies → (level a b : ℕ) → level < length copies.actives → has_sample copies level a b ≡ true →
    copied copies level a b ≡ height_at u (pos a) (pos b)
unfolding has_sample copied level_height
level_right law u copies of level a b low has =
    let p = 2 ^ level in
    let r = active_at copies.actives level in
    let parts = and_parts ((a % p == 0) && (b % p == 0)) (contains r (pos (a / p)) (pos (b / p))) has in
    let whole = and_parts (a % p == 0) (b % p == 0) parts.0 in
    ap (λ (hs : List ℤ). get_or hs (place_among r (pos (a / p)) (pos (b / p))) (pos 0)) (of level low)
    ∙ height_there law u level r (pos (a / p)) (pos (b / p)) parts.1
    ∙ ap₂ (λ (x y : ℕ). height_at u (pos x) (pos y)) (divided a p whole.0) (divided b p whole.1)

-- ---- the first level that has a sample
first_right : CellsInRows → (u : Terrain) (copies : CopiesView) → AreCopiesOf u copies → (n level a b l : ℕ) → level + n ≡ length copies.actives → level ≤ l → l < length copies.actives → has_sample copies l a b ≡ true →
    sample copies n level a b ≡ height_at u (pos a) (pos b)
unfolding sample
first_right law u copies of zero level a b l many from low has = absurd (omega arith)
first_right law u copies of (suc n) level a b l many from low has =
    elim (cases_Bool (has_sample copies level a b)) [
      | inl here ↦ ap (λ (t : Bool). cond t (copied copies level a b) (sample copies n (level + 1) a b)) here
          ∙ level_right law u copies of level a b (omega arith) here
      | inr none ↦
          let other : l ≡ level → ⊥ = λ e. true≢false (sym has ∙ ap (λ (m : ℕ). has_sample copies m a b) e ∙ none) in
          ap (λ (t : Bool). cond t (copied copies level a b) (sample copies n (level + 1) a b)) none
          ∙ first_right law u copies of n (level + 1) a b l (omega arith) (after level l from other) low has
    ]
  where
    after : (m k : ℕ) → m ≤ k → (k ≡ m → ⊥) → m + 1 ≤ k
    after m k h differ = grind arith

-- ---- the table
table_at : (copies : CopiesView) (a b : ℕ) → a < side → b < side → height_at (terrain_of copies) (pos a) (pos b) ≡ sample copies (length copies.actives) 0 a b
unfolding height_at terrain_of
table_at copies a b across down =
    let inside : (nat_lt a side && nat_lt b side) ≡ true = grind (arith, nat_tests) in
    let f : ℕ → ℤ = λ n. sample copies (length copies.actives) 0 (n % side) (n / side) in
    ap (λ (t : Bool). cond t (get_or (map f (range_with_len 0 (side * side))) (b * side + a) (pos 0)) (pos 0)) inside
    ∙ get_or-map-range_with_len f 0 (side * side) (b * side + a) (b * side + a) (pos 0) (below a b across down) (omega arith)
    ∙ ap₂ (λ (x y : ℕ). sample copies (length copies.actives) 0 x y) (mul-add-mod_self_right b side a ∙ small a across) (div-mul-add b side a across)
  where
    below : (x y : ℕ) → x < side → y < side → y * side + x < side * side
    below x y hx hy = let more : y + 1 ≤ side = omega (arith, hy) in let rows : (y + 1) * side ≤ side * side = mul-le-mul more (le_refl side) in omega (arith, rows, hx)

    small : (x : ℕ) → x < side → x % side ≡ x
    small x h = mod-eq_of_lt h

-- ---- a sample in reach
at_sample : CellsInRows → (u : Terrain) (copies : CopiesView) (l : ℕ) (x y : ℤ) → AreCopiesOf u copies → l < length copies.actives →
    ((a : ℕ) → x ≡ pos a → a < side) → ((b : ℕ) → y ≡ pos b → b < side) → ((a b : ℕ) → x ≡ pos a → y ≡ pos b → has_sample copies l a b ≡ true) →
    height_at (terrain_of copies) x y ≡ height_at u x y
unfolding height_at
at_sample law u copies l (pos a) (pos b) of low across down has =
    table_at copies a b (across a refl) (down b refl)
    ∙ first_right law u copies of (length copies.actives) 0 a b l (omega arith) (omega arith) low (has a b refl refl)
at_sample law u copies l (pos a) (negsuc b) of low across down has = refl
at_sample law u copies l (negsuc a) y of low across down has = refl

-- a cell whose sample isn't before the first is no such cell itself, and its sample is divided
record IsAt (p : ℕ) (i : ℤ) (a : ℕ) : Type 0 where
  whole : (a % p == 0) ≡ true
  cell : i ≡ pos (a / p)

cell_at : (p a : ℕ) (i : ℤ) → 0 < p → i *ℤ pos p ≡ pos a → IsAt p i a
cell_at p a (pos m) some e =
    let is : m * p ≡ a = omega (arith, ints, e) in
    record {
      whole = eq-eqb (a % p) 0 (ap (λ (n : ℕ). n % p) (sym is) ∙ mul-mod_left m p);
      cell = ap pos (sym (ap (λ (n : ℕ). n / p) (sym is) ∙ mul-div_left m some));
    }
cell_at p a (negsuc m) some e = absurd (omega (arith, ints, e))

near_side : (z : ℤ) (a : ℕ) → z ≤ℤ pos (2 ^ 23) → z ≡ pos a → a < side
unfolding side
near_side z a high e = omega (arith, ints)

pub cell_right : CellsInRows → (u : Terrain) (copies : CopiesView) → AreActive copies.actives → AreCopiesOf u copies → (level : ℕ) (i j : ℤ) → level < length copies.actives → contains (active_at copies.actives level) i j ≡ true →
    level_height (terrain_of copies) level i j ≡ level_height u level i j
unfolding level_height has_sample
cell_right law u copies active of level i j low there =
    let p = 2 ^ level in
    let near = near_of copies.actives level i j active low there in
    at_sample law u copies level (i *ℤ pos p) (j *ℤ pos p) of low (λ a e. near_side (i *ℤ pos p) a near.0.high e) (λ b e. near_side (j *ℤ pos p) b near.1.high e)
    (λ a b ea eb.
    let column = cell_at p a i (some_power level) ea in
    let row = cell_at p b j (some_power level) eb in
    and_from ((a % p == 0) && (b % p == 0)) (contains (active_at copies.actives level) (pos (a / p)) (pos (b / p))) (and_from (a % p == 0) (b % p == 0) column.whole row.whole)
    ((λ t. contains (active_at copies.actives level) (sym column.cell t) (sym row.cell t)) ∙ there))

pub terrain_right : CellsInRows → (u : Terrain) (copies : CopiesView) → AreActive copies.actives → AreCopiesOf u copies → AreCopiesOf (terrain_of copies) copies
terrain_right law u copies active of = λ level low.
    let r = active_at copies.actives level in
    of level low
    ∙ map_same (λ (c : ℤ × ℤ). level_height u level c.0 c.1) (λ (c : ℤ × ℤ). level_height (terrain_of copies) level c.0 c.1) (cells r)
    (all_cells (λ c. level_height u level c.0 c.1 ≡ level_height (terrain_of copies) level c.0 c.1) r (λ i j l. sym (cell_right law u copies active of level i j low (lying r i j l))))
