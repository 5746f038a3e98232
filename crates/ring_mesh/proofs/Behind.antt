-- The faces of two groups of levels, one behind the other.
use Rattle.std.proofs.Common.{◌≡◌, ℕ, ◌+◌, ◌<◌, ◌≤◌, List, [], ◌∷◌, ◌++◌, map, length, refl, ap, sym, subst, ◌∙◌, append_assoc, length-append, take, arith}
use Rattle.std.specs.List.{All}
use Rattle.std.proofs.lemmas.List.{map-append}
use Rattle.std.proofs.lemmas.List.Elements.{All-nil, All-cons, All-take}
use Rattle.std.proofs.Math.Seq.{take-append_seam}
use Rattle.clip_regions.specs.declared.region.Region.{Region}
use Rattle.mesh_model.specs.declared.shapes.Vertex.{Vertex}
use Rattle.mesh_model.specs.declared.shapes.Part.{Part}
use Rattle.mesh_model.specs.Parts.{PartTriangles}
use Rattle.mesh_model.specs.Mesh.{part_at, parts_from}
use Rattle.ring_mesh.specs.Added.{AreFaces, moved_on, parts_left, triangles_of}
use Rattle.ring_mesh.proofs.UnderWay.{less_left}

-- parts whose triangles are counted from so many more
pub moved_parts : (vertices : List Vertex) (first more : ℕ) (ps : List PartTriangles) → map (moved_on more) (parts_from vertices first ps) ≡ parts_from vertices (first + more) ps
unfolding moved_on part_at
moved_parts vertices first more [] = refl
moved_parts vertices first more (p ∷ ps) =
    let same : first + length p.triangles + more ≡ first + more + length p.triangles = omega arith in
    ap (λ rest. part_at vertices (first + more) p ∷ rest) (moved_parts vertices (first + length p.triangles) more ps ∙ ap (λ (n : ℕ). parts_from vertices n ps) same)

-- where there are few triangles, the places of the parts are small
pub few_places : (vertices : List Vertex) (first more m : ℕ) (ps : List PartTriangles) → first + length (triangles_of ps) + more < m → All (λ (part : Part). part.first + more < m) (parts_from vertices first ps)
unfolding triangles_of part_at
few_places vertices first more m [] few = All-nil (λ (part : Part). part.first + more < m)
few_places vertices first more m (p ∷ ps) few =
    let lens = length-append p.triangles (triangles_of ps) in
    All-cons (λ (part : Part). part.first + more < m) (part_at vertices first p) (parts_from vertices (first + length p.triangles) ps) (omega (arith, few)) (few_places vertices (first + length p.triangles) more m ps (omega (arith, few, lens)))

all_front : (P : Part → Type 0) (xs ys : List Part) → All P (xs ++ ys) → All P xs
all_front P xs ys all = subst (All P) (take-append_seam xs ys) (All-take P (length xs) (xs ++ ys) all)

-- the first group has few triangles
pub few_before : (vertices : List Vertex) (actives : List Region) (from middle : ℕ) (t : List (List ℕ)) (p : List Part) (m : ℕ) → from ≤ length actives →
    AreFaces vertices actives from middle t p → length (triangles_of (parts_left actives 0)) < m → length t < m
few_before vertices actives from middle t p m low faces few =
    let less = less_left actives from low in
    let all = ap length faces.triangles_are in
    let lens = length-append t (triangles_of (parts_left actives middle)) in
    omega (arith, few, less, all, lens)

-- and so have the places of the second group's parts, behind so many more
pub few_behind : (vertices : List Vertex) (actives : List Region) (middle to more m : ℕ) (t : List (List ℕ)) (p : List Part) → middle ≤ length actives →
    AreFaces vertices actives middle to t p → length (triangles_of (parts_left actives 0)) + more < m → All (λ (part : Part). part.first + more < m) p
few_behind vertices actives middle to more m t p low faces few =
    let less = less_left actives middle low in
    all_front (λ (part : Part). part.first + more < m) p (parts_from vertices (length t) (parts_left actives to))
    (subst (All (λ (part : Part). part.first + more < m)) faces.parts_are (few_places vertices 0 more m (parts_left actives middle) (omega (arith, few, less))))

pub joined : (vertices : List Vertex) (actives : List Region) (from middle to : ℕ) (t1 t2 : List (List ℕ)) (p1 p2 : List Part) → AreFaces vertices actives from middle t1 p1 → AreFaces vertices actives middle to t2 p2 →
    AreFaces vertices actives from to (t1 ++ t2) (p1 ++ map (moved_on (length t1)) p2)
joined vertices actives from middle to t1 t2 p1 p2 front back =
    let rest = parts_left actives to in
    let move = map (moved_on (length t1)) in
    let none : 0 + length t1 ≡ length t1 = omega arith in
    let len : length t2 + length t1 ≡ length (t1 ++ t2) = omega (arith, length-append t1 t2) in
    let moved : parts_from vertices (length t1) (parts_left actives middle) ≡ move p2 ++ parts_from vertices (length (t1 ++ t2)) rest =
    ap (λ (n : ℕ). parts_from vertices n (parts_left actives middle)) (sym none)
    ∙ sym (moved_parts vertices 0 (length t1) (parts_left actives middle)) ∙ ap move back.parts_are
    ∙ map-append (moved_on (length t1)) p2 (parts_from vertices (length t2) rest)
    ∙ ap (λ xs. move p2 ++ xs) (moved_parts vertices (length t2) (length t1) rest ∙ ap (λ (n : ℕ). parts_from vertices n rest) len) in
    record {
      triangles_are = front.triangles_are ∙ ap (λ xs. t1 ++ xs) back.triangles_are ∙ sym (append_assoc t1 t2 (triangles_of rest));
      parts_are = front.parts_are ∙ ap (λ xs. p1 ++ xs) moved ∙ sym (append_assoc p1 (move p2) (parts_from vertices (length (t1 ++ t2)) rest));
    }
