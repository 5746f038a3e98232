use Rattle.std.proofs.Common.{◌≡◌, ◌+◌, ◌++◌, [], List, ℕ, drop, get_or, sym, ap, ◌∙◌, subst, append_assoc, append-nil}
use Rattle.mesh_check.specs.Keys.{edge_keys, triangle_keys}
use Rattle.mesh_check.proofs.EdgeCounts.{edges_more, no_more_edges}
use Rattle.mesh_check.proofs.edges.edges_of.Goals as goal

pub loop-triangle-preserved : goal.loop-triangle-preserved
loop-triangle-preserved c =
    let triangles = c.args.triangles.now in
    let i = c.loop-triangle.triangle-index in
    let keys = c.loop-triangle.keys.items in
    let triangle = get_or triangles i [] in
    let more = edge_keys (drop (i + 1) triangles) in
    let next : edge_keys (drop i triangles) ≡ triangle_keys triangle ++ more = edges_more triangles i [] c.loop-triangle-test.true in
    let all : edge_keys triangles ≡ (keys ++ triangle_keys triangle) ++ more =
    c.loop-triangle.invariant ∙ ap (λ (more : List ℕ). keys ++ more) next ∙ sym (append_assoc keys (triangle_keys triangle) more) in
    let grown : c.add_edges.new.keys.items ≡ keys ++ triangle_keys triangle = c.in_ok-add_edges.ensures.ok in
    let P : List ℕ → Type 0 = λ keys. edge_keys triangles ≡ keys ++ more in
    subst P (sym grown) all

pub returns : goal.returns
returns c =
    let none = no_more_edges c.args.triangles.now c.loop-triangle.triangle-index c.loop-triangle-test.false in
    record { keys = sym (c.loop-triangle.invariant ∙ ap (λ (more : List ℕ). c.loop-triangle.keys.items ++ more) none ∙ append-nil c.loop-triangle.keys.items) }
