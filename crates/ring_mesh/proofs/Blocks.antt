-- The blocks round the hole of a ring lie in its region, and the parts of a ring case by case.
use Rattle.std.proofs.Common.{◌≡◌, ℕ, ◌+◌, ◌^◌, ◌<◌, true, false, List, [], ◌∷◌, ◌++◌, ◌≤ℤ◌, length, sym, subst, ◌∙◌, inl, inr, arith}
use Rattle.std.proofs.lemmas.Int.{ints}
use Rattle.std.proofs.lemmas.Bool.{true≢false}
use Rattle.clip_regions.specs.declared.region.Region.{Region}
use Rattle.clip_regions.specs.Regions.{is_empty, IsWithin}
use Rattle.mesh_model.specs.declared.shapes.PartKind.TheVariants.{Whole}
use Rattle.mesh_model.specs.Parts.{PartTriangles, squares_in}
use Rattle.mesh_laws.specs.declared.ring.Ring.{Ring}
use Rattle.mesh_laws.specs.Rings.{ring_parts}
use Rattle.mesh_laws.specs.Conditions.{IsCut, IsRing}
use Rattle.ring_mesh.specs.Squares.{HasSquares}
use Rattle.ring_mesh.specs.Added.{HasBlock, triangles_of, north_block, west_block, east_block, south_block, block_part, parts_around}
use Rattle.ring_mesh.proofs.Added.{few_front, few_back}
use Rattle.clip_regions.proofs.Cells.{empty_is_empty}

pub block_squares : (r block : Region) → HasBlock r block → HasSquares r (squares_in block)
unfolding squares_in
block_squares r block h =
    let p = h.placed in
    let a = p.x0_low in
    let b = p.x0_high in
    let c = p.y0_low in
    let d = p.y0_high in
    let e = p.x1_low in
    let f = p.x1_high in
    let g = p.y1_low in
    let i = p.y1_high in
    let w = h.west in
    let e' = h.east in
    let n = h.north in
    let s = h.south in
    record {
      near = h.near;
      placed = record {
        x0_low = omega (arith, ints, a);
        x0_high = omega (arith, ints, b);
        y0_low = omega (arith, ints, c);
        y0_high = omega (arith, ints, d);
        x1_low = omega (arith, ints, e);
        x1_high = omega (arith, ints, f);
        y1_low = omega (arith, ints, g);
        y1_high = omega (arith, ints, i);
      };
      west = w;
      east = omega (arith, ints, e');
      north = n;
      south = omega (arith, ints, s);
    }

-- corners between those of a region near the mosaic's corner
pub between : (r block : Region) → IsWithin (2 ^ 24) r → r.x0 ≤ℤ block.x0 → block.x0 ≤ℤ r.x1 → r.x0 ≤ℤ block.x1 → block.x1 ≤ℤ r.x1 → r.y0 ≤ℤ block.y0 → block.y0 ≤ℤ r.y1 → r.y0 ≤ℤ block.y1 → block.y1 ≤ℤ r.y1 → HasBlock r block
between r block near a b c d e f g h =
    let xl = near.x0_low in
    let xh = near.x1_high in
    let yl = near.y0_low in
    let yh = near.y1_high in
    record {
      near = near;
      placed = record {
        x0_low = omega (arith, ints, xl, a);
        x0_high = omega (arith, ints, xh, b);
        y0_low = omega (arith, ints, yl, e);
        y0_high = omega (arith, ints, yh, f);
        x1_low = omega (arith, ints, xl, c);
        x1_high = omega (arith, ints, xh, d);
        y1_low = omega (arith, ints, yl, g);
        y1_high = omega (arith, ints, yh, h);
      };
      west = a;
      east = d;
      north = e;
      south = h;
    }

pub blocks : (active gap : Region) → IsWithin (2 ^ 24) active → IsCut active gap →
    HasBlock active (north_block active gap) × HasBlock active (west_block active gap) × HasBlock active (east_block active gap) × HasBlock active (south_block active gap)
blocks active gap near cut =
    let w = cut.west in
    let a = cut.across in
    let e = cut.east in
    let n = cut.north in
    let l = cut.along in
    let s = cut.south in
    let across : active.x0 ≤ℤ active.x1 = omega (arith, ints, w, a, e) in
    let along : active.y0 ≤ℤ active.y1 = omega (arith, ints, n, l, s) in (
      between active (north_block active gap) near (omega (arith, ints)) across across (omega (arith, ints)) (omega (arith, ints)) along n (omega (arith, ints, l, s)),
      between active (west_block active gap) near (omega (arith, ints)) across w (omega (arith, ints, a, e)) n (omega (arith, ints, l, s)) (omega (arith, ints, n, l)) s,
      between active (east_block active gap) near (omega (arith, ints, w, a)) e across (omega (arith, ints)) n (omega (arith, ints, l, s)) (omega (arith, ints, n, l)) s,
      between active (south_block active gap) near (omega (arith, ints)) across across (omega (arith, ints)) (omega (arith, ints, n, l)) s along (omega (arith, ints)),
    )

pub whole_block : (active : Region) → IsWithin (2 ^ 24) active → HasBlock active active
whole_block active near = record { near = near; placed = near; west = omega (arith, ints); east = omega (arith, ints); north = omega (arith, ints); south = omega (arith, ints) }

-- a hole that isn't empty lies in the region
pub cut_of : (ring : Ring) → IsRing ring → is_empty ring.hole ≡ false → IsCut ring.active ring.hole
cut_of ring is some =
    elim is.cut [
      | inl none ↦ absurd (true≢false (sym empty_is_empty ∙ subst (λ (r : Region). is_empty r ≡ false) none some))
      | inr cut ↦ cut
    ]

pub parts_none : (level : ℕ) (finer ring : Ring) → is_empty ring.active ≡ true → ring_parts level finer ring ≡ []
unfolding ring_parts
parts_none level finer ring none = rw none (λ t. [])

pub parts_whole : (level : ℕ) (finer ring : Ring) → is_empty ring.active ≡ false → is_empty ring.hole ≡ true → ring_parts level finer ring ≡ block_part finer ring level Whole ring.active ∷ []
unfolding ring_parts
parts_whole level finer ring some none = rw (some, none) (λ t. block_part finer ring level Whole ring.active ∷ [])

pub parts_round : (level : ℕ) (finer ring : Ring) → is_empty ring.active ≡ false → is_empty ring.hole ≡ false → ring_parts level finer ring ≡ parts_around level finer ring
unfolding ring_parts
parts_round level finer ring some open' = rw (some, open') (λ t. parts_around level finer ring)

pub few_head : (a : PartTriangles) (rest : List PartTriangles) (t : List (List ℕ)) (m : ℕ) → length t + length (triangles_of (a ∷ rest)) < m → length t + length (triangles_of (a ∷ [])) < m
few_head a rest t m few = few_front (a ∷ []) rest (length t) m few

pub few_next : (a : PartTriangles) (rest : List PartTriangles) (t t1 : List (List ℕ)) (m : ℕ) → t1 ≡ t ++ triangles_of (a ∷ []) → length t + length (triangles_of (a ∷ rest)) < m → length t1 + length (triangles_of rest) < m
few_next a rest t t1 m added few = few_back (a ∷ []) rest t t1 m added few
