-- A place that the triangles have is counted, and another is not.
use Rattle.std.proofs.Common.{◌≡◌, true, false, sym, ◌∙◌, arith}
use Rattle.mesh_model.specs.Seen.{is_named}
use Rattle.mesh_model.proofs.NewPlaces.{no_place, place_more, place_same}
use Rattle.mesh_plain_texts.proofs.seen.new_place.Goals as goal
use Rattle.mesh_plain_texts.proofs.seen.new_place.Goals.{then-is_named, else-is_named}

pub loop-earlier-init : goal.loop-earlier-init
loop-earlier-init c = record { counted = no_place c.args.triangles.now; few = omega arith }

pub loop-earlier-preserved : goal.loop-earlier-preserved
loop-earlier-preserved c =
    elim c.if-is_named.branch [
      | then-is_named w ↦
          let here : is_named c.args.triangles.now c.loop-earlier.earlier ≡ true = sym c.is_named.ensures ∙ w.if-is_named.true in
          record { counted = omega (arith, w.named-is, place_more c.args.triangles.now c.loop-earlier.earlier here); few = omega arith }
      | else-is_named w ↦
          let elsewhere : is_named c.args.triangles.now c.loop-earlier.earlier ≡ false = sym c.is_named.ensures ∙ w.if-is_named.false in
          record { counted = omega (arith, w.named-is, place_same c.args.triangles.now c.loop-earlier.earlier elsewhere); few = omega arith }
    ]
