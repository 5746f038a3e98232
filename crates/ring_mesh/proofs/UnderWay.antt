-- Ring after ring: the first, one more, and the last.
use Rattle.std.proofs.Common.{◌≡◌, ℕ, zero, suc, ◌+◌, ◌<◌, ◌≤◌, le_refl, List, [], ◌∷◌, ◌++◌, length, get_or, drop, refl, ap, sym, subst, ◌∙◌, append-nil, length-append, arith}
use Rattle.std.proofs.Math.Seq.{drop-cons}
use Rattle.std.proofs.lemmas.List.{drop_all}
use Rattle.clip_regions.specs.declared.region.Region.{Region}
use Rattle.clip_regions.specs.Regions.{empty_region}
use Rattle.mesh_model.specs.declared.shapes.Vertex.{Vertex}
use Rattle.mesh_model.specs.declared.shapes.Part.{Part}
use Rattle.mesh_model.specs.Height.{active_at}
use Rattle.mesh_model.specs.Parts.{PartTriangles}
use Rattle.mesh_model.specs.Mesh.{mesh_of_parts, parts_from}
use Rattle.mesh_laws.specs.declared.ring.Ring.{Ring}
use Rattle.mesh_laws.specs.Rings.{no_ring, next_ring, ring_parts, ring_parts_from}
use Rattle.mesh_laws.specs.Conditions.{IsBefore}
use Rattle.ring_mesh.specs.Added.{Adds, AreFaces, IsUnderWay, parts_left, ring_before, triangles_of}
use Rattle.ring_mesh.proofs.Added.{adds_rest, few_front, triangles_append}

pub start : (vertices : List Vertex) (actives : List Region) (from : ℕ) (finer : Ring) → IsBefore actives from finer → finer ≡ ring_before actives from → IsUnderWay vertices actives from from finer [] []
unfolding triangles_of
start vertices actives from finer before place = record {
  before = before;
  place = place;
  left = record {
    triangles_are = ap (λ (r : Ring). triangles_of (ring_parts_from from r (drop from actives))) (sym place);
    parts_are = ap (λ (r : Ring). parts_from vertices 0 (ring_parts_from from r (drop from actives))) (sym place);
  };
}

-- the ring before the next level
pub next_place : (actives : List Region) (level : ℕ) (finer : Ring) → finer ≡ ring_before actives level → next_ring finer (active_at actives level) ≡ ring_before actives (level + 1)
next_place actives level finer place =
    let next : suc level ≡ level + 1 = omega arith in
    ap (λ (r : Ring). next_ring r (active_at actives level)) place ∙ ap (ring_before actives) next

-- the parts of this level's ring, and then the others
split : (actives : List Region) (level : ℕ) (finer : Ring) → level < length actives →
    ring_parts_from level finer (drop level actives) ≡ ring_parts level finer (next_ring finer (active_at actives level)) ++ ring_parts_from (level + 1) (next_ring finer (active_at actives level)) (drop (level + 1) actives)
unfolding active_at
split actives level finer low =
    let next : suc level ≡ level + 1 = omega arith in
    let cons : drop level actives ≡ get_or actives level empty_region ∷ drop (level + 1) actives = drop-cons actives level empty_region low ∙ (λ t. get_or actives level empty_region ∷ drop (next t) actives) in
    ap (ring_parts_from level finer) cons

pub step : (vertices : List Vertex) (actives : List Region) (from level : ℕ) (finer : Ring) (t t1 : List (List ℕ)) (p p1 : List Part) → level < length actives →
    IsUnderWay vertices actives from level finer t p → Adds vertices (ring_parts level finer (next_ring finer (active_at actives level))) t p t1 p1 →
    IsBefore actives (level + 1) (next_ring finer (active_at actives level)) → IsUnderWay vertices actives from (level + 1) (next_ring finer (active_at actives level)) t1 p1
step vertices actives from level finer t t1 p p1 low way added before =
    let all = triangles_of (parts_left actives from) in
    let whole = parts_from vertices 0 (parts_left actives from) in
    let ring = next_ring finer (active_at actives level) in
    record {
      before = before;
      place = next_place actives level finer way.place;
      left = adds_rest vertices (ring_parts level finer ring) (ring_parts_from (level + 1) ring (drop (level + 1) actives)) t t1 all p p1 whole
          (subst (λ (ps : List PartTriangles). Adds vertices ps t p all whole) (split actives level finer low) way.left) added;
    }

-- the levels from one on have no more triangles than all of them
pub less_left : (actives : List Region) (level : ℕ) → level ≤ length actives → length (triangles_of (parts_left actives level)) ≤ length (triangles_of (parts_left actives 0))
less_left actives zero low = le_refl (length (triangles_of (parts_left actives 0)))
less_left actives (suc level) low =
    let finer = ring_before actives level in
    let ring = next_ring finer (active_at actives level) in
    let ps = ring_parts level finer ring in
    let qs = ring_parts_from (level + 1) ring (drop (level + 1) actives) in
    let before = less_left actives level (omega (arith, low)) in
    let more = ap (λ x. length (triangles_of x)) (split actives level finer (omega (arith, low))) in
    let parts = ap length (triangles_append ps qs) in
    let lens = length-append (triangles_of ps) (triangles_of qs) in
    let next : level + 1 ≡ suc level = omega arith in
    let same : length (triangles_of qs) ≡ length (triangles_of (parts_left actives (suc level))) = ap (λ (n : ℕ). length (triangles_of (ring_parts_from n ring (drop n actives)))) next in
    omega (arith, before, more, parts, lens, same)

pub few : (vertices : List Vertex) (actives : List Region) (from level : ℕ) (finer : Ring) (t : List (List ℕ)) (p : List Part) (m : ℕ) → level < length actives → from ≤ length actives → IsUnderWay vertices actives from level finer t p →
    length (triangles_of (parts_left actives 0)) < m → length t + length (triangles_of (ring_parts level finer (next_ring finer (active_at actives level)))) < m
few vertices actives from level finer t p m low inside way most =
    let ring = next_ring finer (active_at actives level) in
    let ps = ring_parts level finer ring in
    let qs = ring_parts_from (level + 1) ring (drop (level + 1) actives) in
    let less = less_left actives from inside in
    let all = ap length (way.left.triangles_are ∙ ap (λ x. t ++ triangles_of x) (split actives level finer low)) in
    let lens = length-append t (triangles_of (ps ++ qs)) in
    few_front ps qs (length t) m (omega (arith, most, less, all, lens))

-- those of the levels before this one are made
pub made : (vertices : List Vertex) (actives : List Region) (from level : ℕ) (finer : Ring) (t : List (List ℕ)) (p : List Part) → IsUnderWay vertices actives from level finer t p → AreFaces vertices actives from level t p
made vertices actives from level finer t p way =
    subst (λ (r : Ring). Adds vertices (ring_parts_from level r (drop level actives)) t p (triangles_of (parts_left actives from)) (parts_from vertices 0 (parts_left actives from))) way.place way.left

-- nothing is left after the coarsest level
nothing_left : (actives : List Region) (n : ℕ) → length actives ≤ n → parts_left actives n ≡ []
nothing_left actives n high = ap (ring_parts_from n (ring_before actives n)) (drop_all n actives high)

pub done_triangles : (vertices : List Vertex) (actives : List Region) (n : ℕ) (t : List (List ℕ)) (p : List Part) → length actives ≤ n → AreFaces vertices actives 0 n t p →
    t ≡ (mesh_of_parts vertices (ring_parts_from 0 no_ring actives)).triangles
unfolding triangles_of mesh_of_parts
done_triangles vertices actives n t p high faces =
    sym (faces.triangles_are ∙ ap (λ x. t ++ triangles_of x) (nothing_left actives n high) ∙ append-nil t)

pub done_parts : (vertices : List Vertex) (actives : List Region) (n : ℕ) (t : List (List ℕ)) (p : List Part) → length actives ≤ n → AreFaces vertices actives 0 n t p →
    p ≡ (mesh_of_parts vertices (ring_parts_from 0 no_ring actives)).parts
unfolding mesh_of_parts
done_parts vertices actives n t p high faces =
    sym (faces.parts_are ∙ ap (λ (ps : List PartTriangles). p ++ parts_from vertices (length t) ps) (nothing_left actives n high) ∙ append-nil p)
