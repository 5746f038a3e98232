-- The triangles that are added are those from the first place on.
use Rattle.std.proofs.Common.{◌≡◌, length, rules}
use Rattle.std.proofs.lemmas.Result.{on_ok_weaker}
use Rattle.stitches.specs.Sides.{kind_of, walk_along}
use Rattle.stitches.proofs.Added.{added_part, few_walk}
use Rattle.stitches.proofs.borders.add_side.Goals as goal

pub add_part-requires-clause-few : goal.add_part-requires-clause-few
add_part-requires-clause-few c =
    few_walk c.args.level (kind_of c.args.side) (walk_along c.args.ring.now c.args.side) c.args.faces.now.triangles.items c.add_walk.new.triangles.items c.as_slice.result.now c.in_ok-add_walk.ensures c.as_slice.ensures.value c.requires.few

pub returns : goal.returns
returns c =
    let ring = c.args.ring.now in
    let side = c.args.side in
    let old = c.args.faces.now.triangles.items in
    let at : c.len-first.result ≡ length old = search rules in
    on_ok_weaker c.add_part.result
    (λ listed. added_part c.args.vertices.now c.args.level (kind_of side) c.kind_of.result (walk_along ring side) old c.add_walk.new.triangles.items c.as_slice.result.now c.args.faces.now.parts.items c.add_part.new.parts.items c.len-first.result
    c.in_ok-add_walk.ensures c.as_slice.ensures.value at c.kind_of.ensures listed)
    c.add_part.ensures
