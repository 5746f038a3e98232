-- Parts that are left: all of them at first, fewer after some are added, none at last.
use Rattle.std.proofs.Common.{◌≡◌, ℕ, suc, ◌+◌, ◌-◌, ◌<◌, ◌≤◌, ◌^◌, List, [], ◌∷◌, ◌++◌, length, get_or, map, drop, refl, true, false, ap, sym, subst, ◌∙◌, append-nil, length-append, arith}
use Rattle.std.proofs.Math.Seq.{drop-append_seam, drop-cons}
use Rattle.std.proofs.lemmas.List.{drop_all}
use Rattle.clip_regions.specs.declared.region.Region.{Region}
use Rattle.clip_regions.specs.Regions.{is_empty, empty_region}
use Rattle.mesh_model.specs.declared.shapes.Vertex.{Vertex}
use Rattle.mesh_model.specs.declared.shapes.Part.{Part}
use Rattle.mesh_model.specs.declared.shapes.PartKind.{PartKind}
use Rattle.mesh_model.specs.Height.{active_at}
use Rattle.mesh_model.specs.Parts.{PartTriangles, stitches_along, stitch_part}
use Rattle.mesh_model.specs.Mesh.{part_at, parts_from}
use Rattle.mesh_laws.specs.declared.ring.Ring.{Ring}
use Rattle.mesh_laws.specs.Rings.{no_ring, next_ring}
use Rattle.mesh_laws.specs.Stitches.{ring_stitches, ring_stitches_from, all_ring_stitches}
use Rattle.ring_mesh.specs.Added.{Adds, triangles_of}
use Rattle.ring_mesh.specs.Laws.{AddedRest, FewFirst, FewRest}
use Rattle.stitches.specs.declared.sides.Side.TheVariants.{North}
use Rattle.stitches.specs.Adding.{IsLeft}
use Rattle.stitches.specs.Sides.{side_part, sides}

pub start : (vertices : List Vertex) (all : List PartTriangles) (t : List (List ℕ)) (p : List Part) → length t + length (triangles_of all) < 2 ^ 31 → IsLeft vertices all all t p t p
start vertices all t p few = record { adds = record { triangles_are = refl; parts_are = refl }; few = few }

pub step : (vertices : List Vertex) (all ps qs left : List PartTriangles) (t t1 t2 : List (List ℕ)) (p p1 p2 : List Part) → AddedRest → FewRest →
    left ≡ ps ++ qs → IsLeft vertices all left t p t1 p1 → Adds vertices ps t1 p1 t2 p2 → IsLeft vertices all qs t p t2 p2
step vertices all ps qs left t t1 t2 p p1 p2 rest few split so_far added =
    let now : IsLeft vertices all (ps ++ qs) t p t1 p1 = subst (λ (x : List PartTriangles). IsLeft vertices all x t p t1 p1) split so_far in
    record {
      adds = rest vertices ps qs t1 t2 (t ++ triangles_of all) p1 p2 (p ++ parts_from vertices (length t) all) now.adds added;
      few = few vertices ps qs t1 t2 p1 p2 (2 ^ 31) added now.few;
    }

pub finish : (vertices : List Vertex) (all left : List PartTriangles) (t t1 : List (List ℕ)) (p p1 : List Part) → left ≡ [] → IsLeft vertices all left t p t1 p1 → Adds vertices all t p t1 p1
unfolding triangles_of
finish vertices all left t t1 p p1 none so_far =
    let now : IsLeft vertices all [] t p t1 p1 = subst (λ (x : List PartTriangles). IsLeft vertices all x t p t1 p1) none so_far in
    record {
      triangles_are = sym (now.adds.triangles_are ∙ append-nil t1);
      parts_are = sym (now.adds.parts_are ∙ append-nil p1);
    }

-- the part of the triangles that were added
pub added_part : (vertices : List Vertex) (level : ℕ) (kind kind' : PartKind) (walk : List ℕ) (t t1 now : List (List ℕ)) (p p1 : List Part) (first : ℕ) →
    t1 ≡ t ++ stitches_along walk → now ≡ t1 → first ≡ length t → kind' ≡ kind →
    p1 ≡ p ++ part_at vertices first (record { level = level; kind = kind'; triangles = drop first now }) ∷ [] → Adds vertices (stitch_part level kind walk ∷ []) t p t1 p1
unfolding triangles_of stitch_part
added_part vertices level kind kind' walk t t1 now p p1 first added same at named listed =
    let tail : drop first now ≡ stitches_along walk = (λ i. drop (at i) ((same ∙ added) i)) ∙ drop-append_seam t (stitches_along walk) in
    record {
      triangles_are = added ∙ ap (λ x. t ++ x) (sym (append-nil (stitches_along walk)));
      parts_are = listed ∙ (λ i. p ++ part_at vertices (at i) (record { level = level; kind = named i; triangles = tail i }) ∷ []);
    }

pub none_added : (vertices : List Vertex) (t : List (List ℕ)) (p : List Part) → Adds vertices [] t p t p
unfolding triangles_of
none_added vertices t p = record { triangles_are = sym (append-nil t); parts_are = sym (append-nil p) }

pub no_stitches : (level : ℕ) (ring : Ring) → is_empty ring.active ≡ true → ring_stitches level ring ≡ []
unfolding ring_stitches
no_stitches level ring none = rw none refl

pub few_walk : (level : ℕ) (kind : PartKind) (walk : List ℕ) (t t1 now : List (List ℕ)) → t1 ≡ t ++ stitches_along walk → now ≡ t1 →
    length t + length (triangles_of (stitch_part level kind walk ∷ [])) < 2 ^ 31 → length now < 2 ^ 31
unfolding triangles_of stitch_part
few_walk level kind walk t t1 now added same few =
    let whole = ap length (same ∙ added) in
    let parts = length-append t (stitches_along walk) in
    let own = ap length (append-nil (stitches_along walk)) in
    omega (arith, few, whole, parts, own)

-- what is added next has few triangles
pub first_few : (vertices : List Vertex) (all ps qs left : List PartTriangles) (t t1 : List (List ℕ)) (p p1 : List Part) → FewFirst → left ≡ ps ++ qs → IsLeft vertices all left t p t1 p1 →
    length t1 + length (triangles_of ps) < 2 ^ 31
first_few vertices all ps qs left t t1 p p1 few split so_far =
    few ps qs (length t1) (2 ^ 31) (subst (λ (x : List PartTriangles). length t1 + length (triangles_of x) < 2 ^ 31) split so_far.few)

-- ---- sides
pub sides_are : (level : ℕ) (ring : Ring) → is_empty ring.active ≡ false → map (side_part level ring) sides ≡ ring_stitches level ring
unfolding ring_stitches
sides_are level ring some = rw some refl

pub next_side : (level : ℕ) (ring : Ring) (i : ℕ) → i < 4 → map (side_part level ring) (drop i sides) ≡ (side_part level ring (get_or sides i North) ∷ []) ++ map (side_part level ring) (drop (i + 1) sides)
next_side level ring i low =
    let next : suc i ≡ i + 1 = omega arith in
    ap (map (side_part level ring)) (drop-cons sides i North low ∙ (λ n. get_or sides i North ∷ drop (next n) sides))

pub no_side : (level : ℕ) (ring : Ring) (i : ℕ) → 4 ≤ i → map (side_part level ring) (drop i sides) ≡ []
no_side level ring i high = ap (map (side_part level ring)) (drop_all i sides high)

-- ---- levels
pub all_levels : (actives : List Region) → 0 < length actives → all_ring_stitches actives ≡ ring_stitches_from 0 (next_ring no_ring (active_at actives 0)) (drop 1 actives)
unfolding active_at
all_levels [] some = absurd (omega arith)
all_levels (active ∷ coarser) some = refl

pub next_level : (actives : List Region) (ring : Ring) (level : ℕ) → level < length actives →
    ring_stitches_from (level - 1) ring (drop level actives) ≡ ring_stitches (level - 1) ring ++ ring_stitches_from (level - 1 + 1) (next_ring ring (active_at actives level)) (drop (level + 1) actives)
unfolding active_at
next_level actives ring level low =
    let next : suc level ≡ level + 1 = omega arith in
    ap (ring_stitches_from (level - 1) ring) (drop-cons actives level empty_region low ∙ (λ n. get_or actives level empty_region ∷ drop (next n) actives))

pub no_level : (actives : List Region) (ring : Ring) (level : ℕ) → length actives ≤ level → ring_stitches_from (level - 1) ring (drop level actives) ≡ []
no_level actives ring level high = ap (ring_stitches_from (level - 1) ring) (drop_all level actives high)
