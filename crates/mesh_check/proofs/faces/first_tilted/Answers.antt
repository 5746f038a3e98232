use Rattle.std.proofs.Common.{[], sym, ◌∙◌, arith, length, ◌<◌}
use Rattle.std.proofs.lemmas.List.Sums.{position_or_len_is}
use Rattle.mesh_check.specs.Verdict.{is_tilted_face}
use Rattle.mesh_check.proofs.faces.first_tilted.Goals as goal

pub returns-then-is_tilted_face : goal.returns-then-is_tilted_face
returns-then-is_tilted_face c =
    record {
      value = sym (position_or_len_is (is_tilted_face c.args.vertices.now) c.args.triangles.now c.loop-face.face [] (omega arith) c.loop-face.invariant
          (λ _. sym c.is_tilted_face.ensures.value ∙ c.if-is_tilted_face.true));
    }

pub returns : goal.returns
returns c =
    let triangles = c.args.triangles.now in
    record { value = sym (position_or_len_is (is_tilted_face c.args.vertices.now) triangles (length triangles) [] (omega arith) (λ k h. c.loop-face.invariant k (omega arith)) (λ (h : length triangles < length triangles). absurd (omega arith))) }
