-- The heights of a job's cells, written one after the other.
use Rattle.std.proofs.Common.{◌≡◌, ℕ, ◌+◌, ◌*◌, ◌/◌, ◌%◌, ◌<◌, ◌≤◌, ℤ, pos, ◌+ℤ◌, ◌-ℤ◌, ◌≤ℤ◌, List, [], ◌∷◌, zero, suc, map, take, replicate, length, get_or, set, get_or-set_same, get_or-set_other, length-set, refl, ap, sym, ◌∙◌, subst, inl, inr, arith}
use Rattle.std.specs.Int.{int_gap}
use Rattle.std.proofs.lemmas.Int.{ints}
use Rattle.std.proofs.lemmas.Bool.{cases_eq}
use Rattle.std.proofs.lemmas.Nat.{div-mul-add, mod-mul-add}
use Rattle.std.proofs.lemmas.List.{get_or-replicate, length-replicate}
use Rattle.std.proofs.Math.Nat.{mod-lt, div-lt_iff_lt-mul, mul_comm}
use Rattle.clip_regions.specs.declared.region.Region.{Region}
use mathlib.Core.Path.{ap₂}
use Rattle.clip_regions.specs.Regions.{columns, rows, area, cells}
use Rattle.terrain_model.specs.Terrain.{Terrain, level_height}
use Rattle.clip_regions.proofs.Sizes.{gap_is}
use Rattle.plan_model.specs.declared.events.JobNote.{JobNote}
use Rattle.plan_laws.specs.Hulls.{InsideIsHeld}
use Rattle.four_point.specs.declared.patch.Patch.{Patch}
use Rattle.terrain_store.specs.Shapes.{Land}
use Rattle.torus_grid.proofs.Written.{IsShort, short_from}
use Rattle.clip_book.specs.Jobs.{IsJob, heights_of}
use Rattle.clip_book.specs.Laws.{StandByPlaces, ReadByPlaces}
use Rattle.grid_fills.specs.Filling.{IsFilledTo, AreZero}

-- ---- the sides of a job's cells
pub short_of : InsideIsHeld → (land : Land) (note : JobNote) (patch : Patch) (r : Region) → IsJob land note patch → r ≡ note.piece.cells → IsShort r
short_of law land note patch r job e =
    subst IsShort (sym e) (short_from law note.piece.cells (record { bx = note.piece.bx; by = note.piece.by; held = job.block }) job.some)

pub side_is : (a b : ℤ) (n : ℕ) → n ≡ int_gap a (b +ℤ pos 1) → a ≤ℤ b → pos n ≡ b +ℤ pos 1 -ℤ a
side_is a b n e order = ap pos e ∙ gap_is a (b +ℤ pos 1) (omega (arith, ints))

-- ---- the heights so far
pub filled_none : (height : ℤ → ℤ → ℤ) (r : Region) (across : ℕ) (out : List ℤ) → length out ≡ 64 → IsFilledTo height r across 0 out
filled_none height r across out e = record { many = e; heights = λ m l. absurd (omega arith) }

filled_more : (height : ℤ → ℤ → ℤ) (r : Region) (across k : ℕ) (out : List ℤ) (v : ℤ) → IsFilledTo height r across k out → k < 64 → v ≡ height (r.x0 +ℤ pos (k % across)) (r.y0 +ℤ pos (k / across)) → IsFilledTo height r across (k + 1) (set out k v)
filled_more height r across k out v so_far below e = record {
  many = length-set out k v ∙ so_far.many;
  heights = λ m l.
      let inside : k < length out = subst (λ (s : ℕ). k < s) (sym so_far.many) below in
      elim (cases_eq m k) [
        | inl same ↦ ap (λ (s : ℕ). get_or (set out k v) s (pos 0)) same ∙ get_or-set_same out k v (pos 0) inside ∙ e ∙ ap (λ (s : ℕ). height (r.x0 +ℤ pos (s % across)) (r.y0 +ℤ pos (s / across))) (sym same)
        | inr other ↦ get_or-set_other out k m v (pos 0) other ∙ so_far.heights m (omega arith)
      ];
}

-- so many, said otherwise
pub filled_as : (height : ℤ → ℤ → ℤ) (r : Region) (across k m : ℕ) (out : List ℤ) → k ≡ m → IsFilledTo height r across k out → IsFilledTo height r across m out
filled_as height r across k m out e = subst (λ (n : ℕ). IsFilledTo height r across n out) e

-- one more cell of a row
pub row_more : (height : ℤ → ℤ → ℤ) (r : Region) (across row n : ℕ) (out : List ℤ) (v : ℤ) → n < across → row * across + n < 64 → v ≡ height (r.x0 +ℤ pos n) (r.y0 +ℤ pos row) → IsFilledTo height r across (row * across + n) out → IsFilledTo height r across (row * across + (n + 1)) (set out (row * across + n) v)
row_more height r across row n out v l below e so_far =
    let place : v ≡ height (r.x0 +ℤ pos ((row * across + n) % across)) (r.y0 +ℤ pos ((row * across + n) / across)) =
    e ∙ sym (ap₂ (λ (a b : ℕ). height (r.x0 +ℤ pos a) (r.y0 +ℤ pos b)) (mod-mul-add row across n l) (div-mul-add row across n l)) in
    filled_as height r across _ _ _ (omega arith) (filled_more height r across (row * across + n) out v so_far below place)

get_take : (xs : List ℤ) (n m : ℕ) → m < n → get_or (take n xs) m (pos 0) ≡ get_or xs m (pos 0)
get_take [] zero m l = refl
get_take [] (suc n) m l = refl
get_take (x ∷ xs) zero m l = absurd (omega arith)
get_take (x ∷ xs) (suc n) zero l = refl
get_take (x ∷ xs) (suc n) (suc m) l = get_take xs n m (omega arith)

length_take : (xs : List ℤ) (n : ℕ) → n ≤ length xs → length (take n xs) ≡ n
length_take xs zero l = refl
length_take [] (suc n) l = absurd (omega arith)
length_take (x ∷ xs) (suc n) l = ap suc (length_take xs n (omega arith))

pub filled_whole : (height : ℤ → ℤ → ℤ) (r : Region) (across n k : ℕ) (out : List ℤ) → IsFilledTo height r across k out → k ≡ n → n ≤ 64 → across ≡ columns r → StandByPlaces height r (take n out)
filled_whole height r across n k out so_far last few e m l =
    let there : n ≤ length out = subst (λ (s : ℕ). n ≤ s) (sym so_far.many) few in
    let less : m < n = subst (λ (s : ℕ). m < s) (length_take out n there) l in
    let below : m < k = subst (λ (s : ℕ). m < s) (sym last) less in
    get_take out n m less ∙ so_far.heights m below ∙ ap (λ (s : ℕ). height (r.x0 +ℤ pos (m % s)) (r.y0 +ℤ pos (m / s))) e

-- heights 0 stand for cells whose heights are 0
zero_at : (n m k : ℕ) → m < n → n ≤ k → get_or (take n (replicate k (pos 0))) m (pos 0) ≡ pos 0
zero_at n m k less few = get_take (replicate k (pos 0)) n m less ∙ get_or-replicate k m (pos 0) (pos 0) (omega arith)

pub zeros_stand : (height : ℤ → ℤ → ℤ) (r : Region) (across down : ℕ) → AreZero height r → across ≡ columns r → pos across ≡ r.x1 +ℤ pos 1 -ℤ r.x0 → pos down ≡ r.y1 +ℤ pos 1 -ℤ r.y0 → 0 < across → across * down ≤ 64 → StandByPlaces height r (take (across * down) (replicate 64 (pos 0)))
zeros_stand height r across down flat e east south some few m l =
    let there : across * down ≤ length (replicate 64 (pos 0)) = subst (λ (s : ℕ). across * down ≤ s) (sym (length-replicate 64 (pos 0))) few in
    let less : m < across * down = subst (λ (s : ℕ). m < s) (length_take (replicate 64 (pos 0)) (across * down) there) l in
    let column : m % across < across = mod-lt m some in
    let row : m / across < down = (div-lt_iff_lt-mul {k = across} {x = m} {y = down} some).1 (subst (λ (s : ℕ). m < s) (mul_comm across down) less) in
    zero_at (across * down) m 64 less few
    ∙ sym (flat (r.x0 +ℤ pos (m % across)) (r.y0 +ℤ pos (m / across)) (omega (arith, ints)) (omega (arith, ints, east, column)) (omega (arith, ints)) (omega (arith, ints, south, row)))
    ∙ ap (λ (s : ℕ). height (r.x0 +ℤ pos (m % s)) (r.y0 +ℤ pos (m / s))) e

pub heights_are : ReadByPlaces → (terrain grid : Terrain) (note : JobNote) (level : ℕ) (r : Region) (across down : ℕ) (out : List ℤ) → terrain ≡ grid → level ≡ note.level → r ≡ note.piece.cells → across ≡ columns r → down ≡ rows r → across * down ≤ 64 → length out ≡ 64 → StandByPlaces (level_height grid level) r (take (across * down) out) → take (across * down) out ≡ heights_of terrain note
unfolding area
heights_are law terrain grid note level r across down out t l e a d few many stand =
    let there : across * down ≤ length out = subst (λ (s : ℕ). across * down ≤ s) (sym many) few in
    let long : length (take (across * down) out) ≡ area r = length_take out (across * down) there ∙ ap₂ (λ (m n : ℕ). m * n) a d in
    law (level_height grid level) r (take (across * down) out) long stand
    ∙ ap (λ (g : Terrain). map (λ (c : ℤ × ℤ). level_height g level c.0 c.1) (cells r)) (sym t)
    ∙ ap (λ (n : ℕ). map (λ (c : ℤ × ℤ). level_height terrain n c.0 c.1) (cells r)) l
    ∙ ap (λ (q : Region). map (λ (c : ℤ × ℤ). level_height terrain note.level c.0 c.1) (cells q)) e
