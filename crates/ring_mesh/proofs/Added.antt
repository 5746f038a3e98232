-- Parts that are added one after another.
use Rattle.std.proofs.Common.{◌≡◌, ℕ, ◌+◌, ◌<◌, List, [], ◌∷◌, ◌++◌, length, ap, sym, ◌∙◌, append_assoc, append-nil, length-append, arith}
use Rattle.std.specs.List.{flat_map}
use Rattle.std.proofs.lemmas.List.Concat.{flat_map-append}
use Rattle.mesh_model.specs.declared.shapes.Vertex.{Vertex}
use Rattle.mesh_model.specs.declared.shapes.Part.{Part}
use Rattle.mesh_model.specs.Parts.{PartTriangles}
use Rattle.mesh_model.specs.Mesh.{part_at, parts_from}
use Rattle.ring_mesh.specs.Added.{Adds, triangles_of}

pub triangles_append : (ps qs : List PartTriangles) → triangles_of (ps ++ qs) ≡ triangles_of ps ++ triangles_of qs
unfolding triangles_of
triangles_append ps qs = flat_map-append (λ (part : PartTriangles). part.triangles) ps qs

parts_append : (vertices : List Vertex) (first next : ℕ) (ps qs : List PartTriangles) → first + length (triangles_of ps) ≡ next → parts_from vertices first (ps ++ qs) ≡ parts_from vertices first ps ++ parts_from vertices next qs
unfolding triangles_of
parts_append vertices first next [] qs e = let same : first ≡ next = omega (arith, e) in λ t. parts_from vertices (same t) qs
parts_append vertices first next (p ∷ ps) qs e =
    let more = length-append p.triangles (flat_map (λ part. part.triangles) ps) in
    ap (λ rest. part_at vertices first p ∷ rest) (parts_append vertices (first + length p.triangles) next ps qs (omega (arith, e, more)))

pub adds_none : (vertices : List Vertex) (t : List (List ℕ)) (p : List Part) → Adds vertices [] t p t p
unfolding triangles_of
adds_none vertices t p = record { triangles_are = sym (append-nil t); parts_are = sym (append-nil p) }

pub adds_more : (vertices : List Vertex) (ps qs : List PartTriangles) (t t1 t2 : List (List ℕ)) (p p1 p2 : List Part) → Adds vertices ps t p t1 p1 → Adds vertices qs t1 p1 t2 p2 → Adds vertices (ps ++ qs) t p t2 p2
adds_more vertices ps qs t t1 t2 p p1 p2 a b =
    let len : length t + length (triangles_of ps) ≡ length t1 = sym (length-append t (triangles_of ps)) ∙ ap length (sym a.triangles_are) in
    record {
      triangles_are = b.triangles_are ∙ ap (λ x. x ++ triangles_of qs) a.triangles_are ∙ append_assoc t (triangles_of ps) (triangles_of qs) ∙ ap (λ x. t ++ x) (sym (triangles_append ps qs));
      parts_are = b.parts_are ∙ ap (λ x. x ++ parts_from vertices (length t1) qs) a.parts_are ∙ append_assoc p (parts_from vertices (length t) ps) (parts_from vertices (length t1) qs) ∙ ap (λ x. p ++ x) (sym (parts_append vertices (length t) (length t1) ps qs len));
    }

-- what is left to add after the first of it
pub adds_rest : (vertices : List Vertex) (ps qs : List PartTriangles) (t t1 t2 : List (List ℕ)) (p p1 p2 : List Part) → Adds vertices (ps ++ qs) t p t2 p2 → Adds vertices ps t p t1 p1 → Adds vertices qs t1 p1 t2 p2
adds_rest vertices ps qs t t1 t2 p p1 p2 all a =
    let len : length t + length (triangles_of ps) ≡ length t1 = sym (length-append t (triangles_of ps)) ∙ ap length (sym a.triangles_are) in
    record {
      triangles_are = all.triangles_are ∙ ap (λ x. t ++ x) (triangles_append ps qs) ∙ sym (append_assoc t (triangles_of ps) (triangles_of qs)) ∙ ap (λ x. x ++ triangles_of qs) (sym a.triangles_are);
      parts_are = all.parts_are ∙ ap (λ x. p ++ x) (parts_append vertices (length t) (length t1) ps qs len) ∙ sym (append_assoc p (parts_from vertices (length t) ps) (parts_from vertices (length t1) qs)) ∙ ap (λ x. x ++ parts_from vertices (length t1) qs) (sym a.parts_are);
    }

-- one part
pub adds_one : (vertices : List Vertex) (part : PartTriangles) (t t1 : List (List ℕ)) (p p1 : List Part) (q : PartTriangles) → t1 ≡ t ++ part.triangles → q ≡ part → p1 ≡ p ++ part_at vertices (length t) q ∷ [] → Adds vertices (part ∷ []) t p t1 p1
unfolding triangles_of
adds_one vertices part t t1 p p1 q et eq ep = record {
  triangles_are = et ∙ ap (λ x. t ++ x) (sym (append-nil part.triangles));
  parts_are = ep ∙ ap (λ (x : PartTriangles). p ++ part_at vertices (length t) x ∷ []) eq;
}

-- a front of what is added has no more triangles than the whole
pub few_front : (ps qs : List PartTriangles) (n m : ℕ) → n + length (triangles_of (ps ++ qs)) < m → n + length (triangles_of ps) < m
few_front ps qs n m few =
    let parts = ap length (triangles_append ps qs) in
    let lens = length-append (triangles_of ps) (triangles_of qs) in
    omega (arith, few, parts, lens)

pub few_back : (ps qs : List PartTriangles) (t t1 : List (List ℕ)) (m : ℕ) → t1 ≡ t ++ triangles_of ps → length t + length (triangles_of (ps ++ qs)) < m → length t1 + length (triangles_of qs) < m
few_back ps qs t t1 m added few =
    let parts = ap length (triangles_append ps qs) in
    let lens = length-append (triangles_of ps) (triangles_of qs) in
    let front = ap length added in
    let len = length-append t (triangles_of ps) in
    omega (arith, few, parts, lens, front, len)

pub few_one : (part : PartTriangles) (n m : ℕ) → n + length (triangles_of (part ∷ [])) < m → n + length part.triangles < m
unfolding triangles_of
few_one part n m few =
    let same = ap length (append-nil part.triangles) in
    omega (arith, few, same)
