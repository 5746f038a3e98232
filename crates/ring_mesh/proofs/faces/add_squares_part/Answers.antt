-- The triangles that are added are those from the first place on.
use Rattle.std.proofs.Common.{◌≡◌, ℕ, List, [], ◌∷◌, ◌++◌, length, drop, ap, ◌∙◌, rules}
use Rattle.std.proofs.Math.Seq.{drop-append_seam}
use Rattle.std.proofs.lemmas.Result.{on_ok_weaker}
use Rattle.mesh_model.specs.Parts.{PartTriangles}
use Rattle.mesh_model.specs.Mesh.{part_at}
use Rattle.mesh_laws.specs.Rings.{ring_part, ring_triangles}
use Rattle.ring_mesh.proofs.Added.{adds_one}
use Rattle.ring_mesh.proofs.faces.add_squares_part.Goals as goal

tail_is : (first : ℕ) (old new now added : List (List ℕ)) → first ≡ length old → now ≡ new → new ≡ old ++ added → drop first now ≡ added
tail_is first old new now added ef en ea = (λ t. drop (ef t) ((en ∙ ea) t)) ∙ drop-append_seam old added

pub returns : goal.returns
unfolding ring_part
returns c =
    let old = c.args.faces.now.triangles.items in
    let part : PartTriangles = ring_part c.args.finer.now c.args.ring.now c.args.level c.args.kind c.args.squares.now in
    let named : List (List ℕ) → PartTriangles = λ triangles. record { level = c.args.level; kind = c.args.kind; triangles = triangles } in
    let len : c.len-first.result ≡ length old = search rules in
    let tail = tail_is c.len-first.result old c.add_squares.new.triangles.items c.as_slice.result.now (ring_triangles c.args.finer.now c.args.ring.now c.args.squares.now) len c.as_slice.ensures.value c.in_ok-add_squares.ensures in
    let q : PartTriangles = named (drop c.len-first.result c.as_slice.result.now) in
    on_ok_weaker c.add_part.result
    (λ added. adds_one c.args.vertices.now part old c.add_squares.new.triangles.items c.args.faces.now.parts.items c.add_part.new.parts.items q c.in_ok-add_squares.ensures (ap named tail)
    (added ∙ ap (λ (n : ℕ). c.args.faces.now.parts.items ++ part_at c.args.vertices.now n q ∷ []) len))
    c.add_part.ensures
