-- A vertex that stands elsewhere is passed over.
use Rattle.std.proofs.Common.{ap, ◌+◌, arith, sym}
use Rattle.mesh_plain_heights.proofs.Passing.{passed}
use Rattle.mesh_plain_heights.proofs.places.place_of.Goals as goal

pub loop-vertex-preserved : goal.loop-vertex-preserved
loop-vertex-preserved c =
    let step = passed c.args.vertices.now c.loop-vertex.vertex-index c.args.at.now.x c.args.at.now.z _ c.loop-vertex-test.true (sym c.if-is_at.ensures) in
    record {
      counted = ap (λ n. n + 1) c.loop-vertex.invariant.counted;
      found = omega (arith, step, c.loop-vertex.invariant.found);
    }
