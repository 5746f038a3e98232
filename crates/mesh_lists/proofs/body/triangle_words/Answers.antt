use Rattle.std.proofs.Common.{sym, ◌∙◌}
use Rattle.mesh_lists.proofs.Faces.{face_of}
use Rattle.mesh_lists.proofs.body.triangle_words.Goals as goal

pub returns-then-are_apart-clause-face : goal.returns-then-are_apart-clause-face
returns-then-are_apart-clause-face c =
    let a = c.in_ok-a-2 in
    let b = c.in_ok-b-2 in
    let d = c.in_ok-c-2 in
    face_of c.args.count a.a b.b d.c a.ensures.low b.ensures.low d.ensures.low a.ensures.high b.ensures.high d.ensures.high (sym c.are_apart.ensures ∙ c.if-are_apart.true)
