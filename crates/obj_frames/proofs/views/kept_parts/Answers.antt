-- Each turn adds a part whose flag is set.
use Rattle.std.proofs.Common.{◌+◌, ◌<◌, [], ◌∷◌, length, get_or, take, ap, sym, ◌∙◌, length-append, pos, arith}
use Rattle.mesh_model.specs.declared.shapes.PartKind.TheVariants.{Whole}
use Rattle.mesh_model.specs.declared.shapes.Part.{Part}
use Rattle.mesh_model.specs.Conditions.{triangles_of_part}
use Rattle.mesh_model.specs.Seen.{flagged_parts, triangles_of_parts}
use Rattle.obj_frames.proofs.Renumbered.{kept_more, kept_same, triangles_more, part_ends}
use Rattle.obj_frames.proofs.views.kept_parts.Goals as goal
use Rattle.obj_frames.proofs.views.kept_parts.Goals.{then-keep-place+in_ok-extend_from_slice, else-keep-place}

no_part : Part
no_part = record { level = 0; kind = Whole; first = 0; count = 0; bounds = record { x0 = pos 0; x1 = pos 0; z0 = pos 0; z1 = pos 0; low = pos 0; high = pos 0 } }

pub triangles_of_part-requires : goal.triangles_of_part-requires
unfolding no_part
triangles_of_part-requires c =
    let here = c.parts-parts.ensures.value in
    let inside : c.loop-place.place < length c.args.mesh.now.parts = omega (arith, ap length here) in
    let ends = part_ends 0 (length c.args.mesh.now.triangles) c.args.mesh.now.parts c.triangles-triangles.ensures.mesh.cover c.loop-place.place no_part inside in
    omega (arith, ends, ap length c.triangles-triangles.ensures.value, ap (λ ps. (get_or ps c.loop-place.place no_part).first) here, ap (λ ps. (get_or ps c.loop-place.place no_part).count) here)

pub loop-place-preserved : goal.loop-place-preserved
unfolding no_part
loop-place-preserved c =
    let here = c.parts-parts.ensures.value in
    let inside : c.loop-place.place < length c.args.mesh.now.parts = omega (arith, ap length here) in
    let flags = c.args.keep.now in
    let parts = c.args.mesh.now.parts in
    let i = c.loop-place.place in
    let old = flagged_parts (take i flags) (take i parts) in
    let low : i < length flags = omega (arith, c.requires.flags) in
    elim c.if-keep-place.branch [
      | then-keep-place+in_ok-extend_from_slice w ↦
          let more = kept_more flags parts i no_part low c.requires.flags w.if-keep-place.true in
          let count = ap (λ k. k.parts) w.kept-is in
          record {
            few = omega (arith, count);
            parts = omega (arith, count, c.loop-place.invariant.parts, ap length more, length-append old (get_or parts i no_part ∷ []));
            triangles = ap (λ k. k.triangles.items) w.kept-is ∙ triangles_more c.args.mesh.now.triangles old (flagged_parts (take (i + 1) flags) (take (i + 1) parts)) (get_or parts i no_part)
                c.loop-place.kept.triangles.items w.triangles_of_part.result.now w.extend_from_slice.new.self.items c.loop-place.invariant.triangles
                (w.triangles_of_part.ensures ∙ (λ t. triangles_of_part (c.triangles-triangles.ensures.value t) (get_or (here t) i no_part)))
                (w.in_ok-extend_from_slice.ensures {u = tt}).items more;
          }
      | else-keep-place w ↦
          let same = kept_same flags parts i no_part low c.requires.flags w.if-keep-place.false in
          let count = ap (λ k. k.parts) w.kept-is in
          record {
            few = omega (arith, count);
            parts = omega (arith, count, c.loop-place.invariant.parts, ap length same);
            triangles = ap (λ k. k.triangles.items) w.kept-is ∙ c.loop-place.invariant.triangles ∙ ap (triangles_of_parts c.args.mesh.now.triangles) (sym same);
          }
    ]
