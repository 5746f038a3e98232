-- One group behind the other.
use Rattle.std.proofs.Common.{◌≡◌, ℕ, ◌+◌, ◌<◌, ◌≤◌, ◌++◌, ◌^◌, List, map, length, sym, subst, ap, ◌∙◌, vec_len, rules, arith}
use Rattle.std.specs.List.{All}
use Rattle.mesh_model.specs.declared.shapes.Part.{Part}
use Rattle.ring_mesh.specs.Added.{AreFaces, moved_on}
use Rattle.ring_mesh.proofs.Behind.{few_before, few_behind, joined}
use Rattle.ring_mesh.proofs.groups.append_faces.Goals as goal

pub overflow_cast-len : goal.overflow_cast-len
overflow_cast-len c =
    let few = few_before c.args.vertices.now c.args.actives.now c.args.from c.args.middle c.args.faces.now.triangles.items c.args.faces.now.parts.items (2 ^ 31) (omega (arith, c.requires.order, c.requires.levels)) c.requires.front c.requires.few in
    let len : vec_len c.args.faces.now.triangles ≡ length c.args.faces.now.triangles.items = search rules in
    omega (arith, few, len, c.len.ensures)

pub append_parts-requires : goal.append_parts-requires
append_parts-requires c =
    let few = few_before c.args.vertices.now c.args.actives.now c.args.from c.args.middle c.args.faces.now.triangles.items c.args.faces.now.parts.items (2 ^ 31) (omega (arith, c.requires.order, c.requires.levels)) c.requires.front c.requires.few in
    let len : vec_len c.args.faces.now.triangles ≡ length c.args.faces.now.triangles.items = search rules in
    subst (All (λ (part : Part). part.first + c.len.result < 2 ^ 32)) (sym c.as_slice.ensures.value)
    (few_behind c.args.vertices.now c.args.actives.now c.args.middle c.args.to c.len.result (2 ^ 32) c.args.behind.triangles.items c.args.behind.parts.items c.requires.levels c.requires.back (omega (arith, few, len, c.len.ensures, c.requires.few)))

pub returns : goal.returns
returns c =
    let v = c.args.vertices.now in
    let as' = c.args.actives.now in
    let t1 = c.args.faces.now.triangles.items in
    let p1 = c.args.faces.now.parts.items in
    let t2 = c.args.behind.triangles.items in
    let p2 = c.args.behind.parts.items in
    let len : vec_len c.args.faces.now.triangles ≡ length t1 = search rules in
    let ep : c.append_parts.new.parts.items ≡ p1 ++ map (moved_on (length t1)) p2 =
    c.in_ok-append_parts.ensures ∙ ap (λ (n : ℕ). p1 ++ map (moved_on n) c.as_slice.result.now) (c.len.ensures ∙ len) ∙ ap (λ (xs : List Part). p1 ++ map (moved_on (length t1)) xs) c.as_slice.ensures.value in
    subst (λ (t : List (List ℕ)). AreFaces v as' c.args.from c.args.to t c.append_parts.new.parts.items) (sym c.in_ok-append.ensures.items)
    (subst (λ (p : List Part). AreFaces v as' c.args.from c.args.to (t1 ++ t2) p) (sym ep) (joined v as' c.args.from c.args.middle c.args.to t1 t2 p1 p2 c.requires.front c.requires.back))
