-- One stitch more, and all of them.
use Rattle.std.proofs.Common.{◌≡◌, ◌++◌, ap, ◌∙◌, map, arith}
use Rattle.std.specs.List.{range_with_len}
use Rattle.stitches.specs.Sides.{stitch_after}
use Rattle.stitches.proofs.Walks.{one_more}
use Rattle.stitches.proofs.Ways.{walk_stitches}
use Rattle.stitches.proofs.sides.add_walk.Goals as goal

pub loop-s-preserved : goal.loop-s-preserved
loop-s-preserved c =
    one_more (stitch_after c.args.ring.now c.args.side) c.args.triangles.now.items c.loop-s.triangles.items c.push.new.self.items c.loop-s.s c.stitch.result c.loop-s.invariant c.in_ok-push.ensures.items c.stitch.ensures

pub returns : goal.returns
returns c =
    let ring = c.args.ring.now in
    let all : c.loop-s.s ≡ c.stitches_of-s-end.result = omega arith in
    c.loop-s.invariant
    ∙ ap (λ n. c.args.triangles.now.items ++ map (stitch_after ring c.args.side) (range_with_len 0 n)) all
    ∙ ap (λ list. c.args.triangles.now.items ++ list) (walk_stitches ring c.args.side c.stitches_of-s-end.result c.requires.border.some c.stitches_of-s-end.ensures.value)
