-- Products and sums over a box: they are greatest at a corner.
use Rattle.std.proofs.Common.{◌≡◌, ℕ, suc, ◌+◌, ◌*◌, ◌≤◌, Bool, true, ◌&&◌, ℤ, pos, negsuc, ◌+ℤ◌, ◌*ℤ◌, ◌≤ℤ◌, ◌<ℤ◌, ◌⊎◌, inl, inr, ap, arith}
use Rattle.std.proofs.Math.Nat.{mul-le-mul_left}
use Rattle.std.proofs.lemmas.Int.{ints}
use Rattle.std.proofs.lemmas.Bool.{and_parts}
use borrow.Author.Differences.{up, down}
use Rattle.clip_regions.proofs.Cells.{tested_lt, lt_tested}
use Rattle.mesh_model.specs.declared.shapes.Bounds.{Bounds}
use Rattle.mesh_model.specs.declared.shapes.HalfSpace.{HalfSpace}
use Rattle.mesh_model.specs.declared.shapes.Vertex.{Vertex}
use Rattle.mesh_model.specs.Conditions.{IsInside}
use Rattle.mesh_model.specs.Seen.{corner_value, is_point_outside, is_box_outside}

scaled : (n : ℕ) (x y : ℤ) → x ≤ℤ y → (pos n *ℤ x) ≤ℤ (pos n *ℤ y)
scaled n x y h =
    let parts : up x + down y ≤ up y + down x = omega (arith, ints) in
    omega (arith, ints, mul-le-mul_left n parts)

turned : (n : ℕ) (x y : ℤ) → x ≤ℤ y → (negsuc n *ℤ y) ≤ℤ (negsuc n *ℤ x)
turned n x y h =
    let parts : up x + down y ≤ up y + down x = omega (arith, ints) in
    omega (arith, ints, mul-le-mul_left (suc n) parts)

-- a product of a sum, and a product of three in another order
pub spread : (a b c : ℤ) → a *ℤ (b +ℤ c) ≡ a *ℤ b +ℤ a *ℤ c
spread a b c =
    let parts : up (b +ℤ c) + down b + down c ≡ down (b +ℤ c) + up b + up c = omega (arith, ints) in
    omega (arith, ints, ap (λ n. up a * n) parts, ap (λ n. down a * n) parts)

pub moved : (n : ℕ) (a x : ℤ) → a *ℤ (pos n *ℤ x) ≡ pos n *ℤ (a *ℤ x)
moved n a x =
    let inner : up (pos n *ℤ x) + n * down x ≡ down (pos n *ℤ x) + n * up x = omega (arith, ints) in
    let product : up (a *ℤ x) + up a * down x + down a * up x ≡ down (a *ℤ x) + up a * up x + down a * down x = omega (arith, ints) in
    omega (arith, ints, ap (λ m. up a * m) inner, ap (λ m. down a * m) inner, ap (λ m. n * m) product)

-- a number between two others, times any, is at most one of the two times that
pub at_an_end : (a low x high : ℤ) → low ≤ℤ x → x ≤ℤ high → ((a *ℤ x) ≤ℤ (a *ℤ low)) ⊎ ((a *ℤ x) ≤ℤ (a *ℤ high))
at_an_end (pos n) low x high below above = inr (scaled n x high above)
at_an_end (negsuc n) low x high below above = inl (turned n low x below)

-- a number below zero, n times
pub below_zero : (n : ℕ) (t : ℤ) → t <ℤ pos 0 → (pos n *ℤ t +ℤ pos n) ≤ℤ pos 0
below_zero n t low =
    let times : (pos n *ℤ (t +ℤ pos 1)) ≤ℤ (pos n *ℤ pos 0) = scaled n (t +ℤ pos 1) (pos 0) (omega (arith, ints)) in
    omega (arith, ints, times, spread (pos n) t (pos 1))

-- 32 across + up + 32 along + d is negative
abbrev pub IsBelow : ℤ → ℤ → ℤ → ℤ → Type 0
IsBelow d p q r = (pos 32 *ℤ p +ℤ q +ℤ pos 32 *ℤ r +ℤ pos 32 *ℤ d) <ℤ pos 0

below : (d p q r p' q' r' : ℤ) → p ≤ℤ p' → q ≤ℤ q' → r ≤ℤ r' → IsBelow d p' q' r' → IsBelow d p q r
below d p q r p' q' r' hp hq hr h = omega (arith, ints)

pub outside_is : (space : HalfSpace) (x height z : ℤ) → is_point_outside space x height z ≡ true → IsBelow space.d (space.a *ℤ x) (space.b *ℤ height) (space.c *ℤ z)
unfolding is_point_outside corner_value
outside_is space x height z e = tested_lt (pos 32 *ℤ (space.a *ℤ x) +ℤ space.b *ℤ height +ℤ pos 32 *ℤ (space.c *ℤ z) +ℤ pos 32 *ℤ space.d) (pos 0) e

is_outside : (space : HalfSpace) (x height z : ℤ) → IsBelow space.d (space.a *ℤ x) (space.b *ℤ height) (space.c *ℤ z) → is_point_outside space x height z ≡ true
unfolding is_point_outside corner_value
is_outside space x height z h = lt_tested (pos 32 *ℤ (space.a *ℤ x) +ℤ space.b *ℤ height +ℤ pos 32 *ℤ (space.c *ℤ z) +ℤ pos 32 *ℤ space.d) (pos 0) h

-- a point stands outside where it is no higher than a corner that does
by_corner : (space : HalfSpace) (x height z x' height' z' : ℤ) → (space.a *ℤ x) ≤ℤ (space.a *ℤ x') → (space.b *ℤ height) ≤ℤ (space.b *ℤ height') → (space.c *ℤ z) ≤ℤ (space.c *ℤ z') →
    is_point_outside space x' height' z' ≡ true → is_point_outside space x height z ≡ true
by_corner space x height z x' height' z' across up along corner =
    is_outside space x height z
    (below space.d (space.a *ℤ x) (space.b *ℤ height) (space.c *ℤ z) (space.a *ℤ x') (space.b *ℤ height') (space.c *ℤ z') across up along (outside_is space x' height' z' corner))

same : (t : ℤ) → t ≤ℤ t
same t = omega (arith, ints)

-- where the ends of an edge lie outside, so does each point of the edge, and likewise of a side and of a box
on_edge : (space : HalfSpace) (x0 x x1 height z : ℤ) → x0 ≤ℤ x → x ≤ℤ x1 → (is_point_outside space x0 height z && is_point_outside space x1 height z) ≡ true → is_point_outside space x height z ≡ true
on_edge space x0 x x1 height z low high e =
    let ends = and_parts (is_point_outside space x0 height z) (is_point_outside space x1 height z) e in
    elim (at_an_end space.a x0 x x1 low high) [
      | inl west ↦ by_corner space x height z x0 height z west (same (space.b *ℤ height)) (same (space.c *ℤ z)) ends.0
      | inr east ↦ by_corner space x height z x1 height z east (same (space.b *ℤ height)) (same (space.c *ℤ z)) ends.1
    ]

on_side : (space : HalfSpace) (x low height high z : ℤ) → low ≤ℤ height → height ≤ℤ high → is_point_outside space x low z ≡ true → is_point_outside space x high z ≡ true → is_point_outside space x height z ≡ true
on_side space x low height high z below above at_low at_high =
    elim (at_an_end space.b low height high below above) [
      | inl down' ↦ by_corner space x height z x low z (same (space.a *ℤ x)) down' (same (space.c *ℤ z)) at_low
      | inr up ↦ by_corner space x height z x high z (same (space.a *ℤ x)) up (same (space.c *ℤ z)) at_high
    ]

in_box : (space : HalfSpace) (x height z0 z z1 : ℤ) → z0 ≤ℤ z → z ≤ℤ z1 → is_point_outside space x height z0 ≡ true → is_point_outside space x height z1 ≡ true → is_point_outside space x height z ≡ true
in_box space x height z0 z z1 below above at_low at_high =
    elim (at_an_end space.c z0 z z1 below above) [
      | inl north ↦ by_corner space x height z x height z0 (same (space.a *ℤ x)) (same (space.b *ℤ height)) north at_low
      | inr south ↦ by_corner space x height z x height z1 (same (space.a *ℤ x)) (same (space.b *ℤ height)) south at_high
    ]

-- all of a box lies outside where its corners do
pub box_outside : (space : HalfSpace) (box : Bounds) (vertex : Vertex) → is_box_outside space box ≡ true → IsInside box vertex → is_point_outside space vertex.x vertex.height vertex.z ≡ true
unfolding is_box_outside
box_outside space box vertex e inside =
    let sides = and_parts (edge box.low box.z0 && edge box.high box.z0) (edge box.low box.z1 && edge box.high box.z1) e in
    let north = and_parts (edge box.low box.z0) (edge box.high box.z0) sides.0 in
    let south = and_parts (edge box.low box.z1) (edge box.high box.z1) sides.1 in
    in_box space vertex.x vertex.height box.z0 vertex.z box.z1 inside.z_low inside.z_high
    (on_side space vertex.x box.low vertex.height box.high box.z0 inside.height_low inside.height_high (on box.low box.z0 north.0) (on box.high box.z0 north.1))
    (on_side space vertex.x box.low vertex.height box.high box.z1 inside.height_low inside.height_high (on box.low box.z1 south.0) (on box.high box.z1 south.1))
  where
    edge : ℤ → ℤ → Bool
    edge height z = is_point_outside space box.x0 height z && is_point_outside space box.x1 height z

    on : (height z : ℤ) → edge height z ≡ true → is_point_outside space vertex.x height z ≡ true
    on height z t = on_edge space box.x0 vertex.x box.x1 height z inside.x_low inside.x_high t
