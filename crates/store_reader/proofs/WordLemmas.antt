-- A word over a patch is a word over the level's heights.
use Rattle.std.proofs.Common.{◌≡◌, ◌⊎◌, inl, inr, Bool, true, cond, ℕ, ◌+◌, ◌*◌, ◌/◌, ◌%◌, ◌<◌, ◌≤◌, ℤ, pos, ◌+ℤ◌, ◌-ℤ◌, ◌*ℤ◌, ◌≤ℤ◌, ◌<ℤ◌, List, length, ap, ◌∙◌, subst, ⊎_elim, arith}
use Rattle.std.proofs.lemmas.Int.{ints}
use Rattle.std.proofs.Math.Nat.{mul-le-mul_left}
use mathlib.Core.Path.{ap₂}
use Rattle.clip_regions.specs.declared.region.Region.{Region}
use Rattle.clip_regions.specs.Regions.{contains, columns, area}
use Rattle.four_point.specs.Patches.{IsOfBlock}
use Rattle.four_point.specs.Prediction.{prediction}
use Rattle.four_point.specs.Steps.{value_of, brought, IsNear}
use Rattle.block_heights.specs.Pieces.{AreNearUpTo, within, coded_height, column_of, row_of}
use Rattle.block_heights.specs.Decoded.{IsPartOf, HasCodedHeights, HasCodedFault, HasWordFault}
use Rattle.block_heights.specs.declared.block.PieceFault.{PieceFault}
use Rattle.block_heights.specs.declared.block.PieceFault.TheVariants as piece
use Rattle.store_model.specs.Faults.{ComesBefore}
use Rattle.store_reader.specs.Decoding.{IsCodedOf, IsCodedFault}
use Rattle.store_reader.proofs.CellNumbers.{Numbered, numbered, lies, same_piece}

-- predictions over two tables are the same in a region
abbrev pub SameIn : (ℤ → ℤ → ℤ) → (ℤ → ℤ → ℤ) → Region → Type 0
SameIn coarser other r = (i j : ℤ) → contains r i j ≡ true → prediction coarser i j ≡ prediction other i j

pub same_in : (coarser other : ℤ → ℤ → ℤ) (bx by : ℤ) (r : Region) → IsPartOf bx by r → ((i j : ℤ) → IsOfBlock (pos 4 *ℤ bx -ℤ pos 1) i → IsOfBlock (pos 4 *ℤ by -ℤ pos 1) j → prediction coarser i j ≡ prediction other i j) → SameIn coarser other r
same_in coarser other bx by r part same i j inside =
    let h = lies r i j inside in
    let a = h.west in
    let b = h.east in
    let c = h.north in
    let d = h.south in
    let w = part.west in
    let e = part.east in
    let n = part.north in
    let s = part.south in
    same i j (record { low = omega (arith, ints); high = omega (arith, ints) }) (record { low = omega (arith, ints); high = omega (arith, ints) })

value_same : (coarser other : ℤ → ℤ → ℤ) (step : ℕ) (i j code : ℤ) → prediction coarser i j ≡ prediction other i j → value_of coarser step i j code ≡ value_of other step i j code
unfolding value_of
value_same coarser other step i j code e = ap (λ (p : ℤ). p +ℤ pos step *ℤ code) e

within_inside : (r : Region) (heights : ℤ → ℤ → ℤ) (i j : ℤ) → contains r i j ≡ true → within r heights i j ≡ heights i j
unfolding within
within_inside r heights i j e = ap (λ (t : Bool). cond t (heights i j) (pos 0)) e

-- ---- values that are near
near_in : (n : ℕ) (coarser other : ℤ → ℤ → ℤ) (step : ℕ) (code : ℤ → ℤ → ℤ) (r : Region) (i j : ℤ) → AreNearUpTo n coarser step code r r → SameIn coarser other r → contains r i j ≡ true → (c : Numbered r i j) → c.b * columns r + c.a < n → IsNear step (value_of other step i j (code i j))
near_in n coarser other step code r i j near same inside c h =
    let k = c.b * columns r + c.a in
    let here : contains r (column_of r k) (row_of r k) ≡ true = ap₂ (contains r) c.column c.row ∙ inside in
    subst (IsNear step)
    (ap₂ (λ (x y : ℤ). value_of coarser step x y (code x y)) c.column c.row ∙ value_same coarser other step i j (code i j) (same i j inside))
    (near k h here)

pub coded_of : (coarser other : ℤ → ℤ → ℤ) (step : ℕ) (r : Region) (bytes : List ℕ) (out : List ℤ) → length out ≡ area r → SameIn coarser other r → HasCodedHeights coarser step r r bytes out → IsCodedOf other step r bytes out
coded_of coarser other step r bytes out e same h heights p = record {
  code = h.code;
  coding = h.coding;
  near = λ i j inside. (let c = numbered r i j inside in let below = c.below in near_in (length out) coarser other step h.code r i j h.near same inside c (omega arith));
  restored = λ i j inside.
      same_piece (length out) heights (within r (coded_height coarser step h.code)) r out i j e p h.heights inside
      ∙ within_inside r (coded_height coarser step h.code) i j inside
      ∙ ap brought (value_same coarser other step i j (h.code i j) (same i j inside));
}

-- ---- the first value that isn't
number_before : (w k m : ℕ) → 0 < w → ((k / w < m / w) ⊎ ((k / w ≡ m / w) × (k % w < m % w))) → k < m
number_before w k m some u =
    ⊎_elim
    (λ (l : k / w < m / w).
    let room : w * (k / w + 1) ≤ w * (m / w) = mul-le-mul_left w (omega arith) in
    let parts : w * (k / w + 1) ≡ w * (k / w) + w = grind arith in
    omega arith)
    (λ (l : (k / w ≡ m / w) × (k % w < m % w)).
    let same : w * (k / w) ≡ w * (m / w) = ap (λ (n : ℕ). w * n) l.0 in
    let less = l.1 in
    omega arith)
    u

first_in : (coarser other : ℤ → ℤ → ℤ) (step : ℕ) (code : ℤ → ℤ → ℤ) (r : Region) (k : ℕ) (i j a b : ℤ) → SameIn coarser other r → AreNearUpTo k coarser step code r r → i ≡ column_of r k → j ≡ row_of r k → contains r a b ≡ true → ComesBefore a b i j → IsNear step (value_of other step a b (code a b))
first_in coarser other step code r k i j a b same near column row inside before =
    let c = numbered r a b inside in
    let w = columns r in
    let m = c.b * w + c.a in
    let across = c.across in
    let x : column_of r m ≡ a = c.column in
    let y : row_of r m ≡ b = c.row in
    let order : (m / w < k / w) ⊎ ((m / w ≡ k / w) × (m % w < k % w)) =
    ⊎_elim
    (λ (l : b <ℤ j). inl (omega (arith, ints)))
    (λ (l : (b ≡ j) × (a <ℤ i)). (let e = l.0 in let f = l.1 in inr (omega (arith, ints), omega (arith, ints))))
    before in
    near_in k coarser other step code r a b near same inside c (number_before w m k (omega arith) order)

coded_fault_at : (coarser other : ℤ → ℤ → ℤ) (step : ℕ) (r : Region) (bytes : List ℕ) (n : ℕ) (i j value : ℤ) → pos 0 ≤ℤ r.x0 → pos 0 ≤ℤ r.y0 → SameIn coarser other r → HasCodedFault coarser step r r bytes n (piece.OutOfRange i j value) → IsCodedFault other step r bytes (piece.OutOfRange i j value)
coded_fault_at coarser other step r bytes n i j value x y same h =
    let out = h.out.2 in
    let k = h.out.0 in
    let here = out.within_block in
    let moved = value_same coarser other step i j (h.code i j) (same i j here) in
    let c = out.column in
    let d = out.row in (
      record {
        code = h.code;
        coding = h.coding;
        out = record {
          inside = here;
          value_is = out.value_is ∙ moved;
          far = out.far;
          first = λ a b inside before. first_in coarser other step h.code r k i j a b same out.first c d inside before;
        };
      },
      omega (arith, ints),
      omega (arith, ints),
    )

pub coded_fault : (coarser other : ℤ → ℤ → ℤ) (step : ℕ) (r : Region) (bytes : List ℕ) (n : ℕ) (fault : PieceFault) → pos 0 ≤ℤ r.x0 → pos 0 ≤ℤ r.y0 → SameIn coarser other r → HasWordFault coarser step r r bytes n fault → IsCodedFault other step r bytes fault
coded_fault coarser other step r bytes n (piece.BadBlock fault) x y same h = h
coded_fault coarser other step r bytes n (piece.OutOfRange i j value) x y same h = coded_fault_at coarser other step r bytes n i j value x y same h
