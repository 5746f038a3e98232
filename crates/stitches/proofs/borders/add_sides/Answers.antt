-- Side after side.
use Rattle.std.proofs.Common.{◌+◌, ◌≤◌, List, [], ◌∷◌, get_or, map, drop, sym, subst, arith}
use Rattle.mesh_model.specs.Parts.{PartTriangles}
use Rattle.mesh_laws.specs.Stitches.{ring_stitches}
use Rattle.stitches.specs.declared.sides.Side.TheVariants.{North}
use Rattle.stitches.specs.Adding.{IsLeft}
use Rattle.stitches.specs.Sides.{side_part, sides}
use Rattle.stitches.proofs.Added.{start, step, finish, first_few, sides_are, next_side, no_side}
use Rattle.stitches.proofs.borders.add_sides.Goals as goal

pub loop-side-init : goal.loop-side-init
loop-side-init c =
    let all = ring_stitches c.args.level c.args.ring.now in
    let t = c.args.faces.now.triangles.items in
    let p = c.args.faces.now.parts.items in
    subst (λ (left : List PartTriangles). IsLeft c.args.vertices.now all left t p t p) (sym (sides_are c.args.level c.args.ring.now c.requires.border.some))
    (start c.args.vertices.now all t p c.requires.few)

pub add_side-requires-clause-few : goal.add_side-requires-clause-few
add_side-requires-clause-few c =
    let part = side_part c.args.level c.args.ring.now in
    let i = c.loop-side.side-index in
    first_few c.args.vertices.now (ring_stitches c.args.level c.args.ring.now) (part (get_or sides i North) ∷ []) (map part (drop (i + 1) sides)) (map part (drop i sides))
    c.args.faces.now.triangles.items c.loop-side.faces.triangles.items c.args.faces.now.parts.items c.loop-side.faces.parts.items c.parts_add_up.ensures.few_first (next_side c.args.level c.args.ring.now i c.loop-side-test.true) c.loop-side.invariant

pub loop-side-preserved : goal.loop-side-preserved
loop-side-preserved c =
    let part = side_part c.args.level c.args.ring.now in
    let i = c.loop-side.side-index in
    step c.args.vertices.now (ring_stitches c.args.level c.args.ring.now) (part (get_or sides i North) ∷ []) (map part (drop (i + 1) sides)) (map part (drop i sides))
    c.args.faces.now.triangles.items c.loop-side.faces.triangles.items c.add_side.new.faces.triangles.items c.args.faces.now.parts.items c.loop-side.faces.parts.items c.add_side.new.faces.parts.items
    c.parts_add_up.ensures.rest c.parts_add_up.ensures.few_rest (next_side c.args.level c.args.ring.now i c.loop-side-test.true) c.loop-side.invariant c.in_ok-add_side.ensures

pub returns : goal.returns
returns c =
    let i = c.loop-side.side-index in
    let high : 4 ≤ i = omega arith in
    finish c.args.vertices.now (ring_stitches c.args.level c.args.ring.now) (map (side_part c.args.level c.args.ring.now) (drop i sides))
    c.args.faces.now.triangles.items c.loop-side.faces.triangles.items c.args.faces.now.parts.items c.loop-side.faces.parts.items (no_side c.args.level c.args.ring.now i high) c.loop-side.invariant
