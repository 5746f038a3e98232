-- The cells lie in the regions.
use Rattle.std.proofs.Common.{refl, rules, arith}
use Rattle.clip_regions.specs.Regions.{contains}
use Rattle.mesh_model.specs.Height.{active_at}
use Rattle.mesh_plain_heights.proofs.tests.blends_heights.Goals as goal

pub vertex_height-requires-clause-cell : goal.vertex_height-requires-clause-cell
unfolding active_at contains
vertex_height-requires-clause-cell g c =
    record {
      listed = omega arith;
      near = search rules;
      inside = refl;
      column = search rules;
      row = search rules;
    }

pub vertex_height-requires-2-clause-cell : goal.vertex_height-requires-2-clause-cell
unfolding active_at contains
vertex_height-requires-2-clause-cell g c =
    record {
      listed = omega arith;
      near = search rules;
      inside = refl;
      column = search rules;
      row = search rules;
    }

pub vertex_height-requires-3-clause-cell : goal.vertex_height-requires-3-clause-cell
unfolding active_at contains
vertex_height-requires-3-clause-cell g c =
    record {
      listed = omega arith;
      near = search rules;
      inside = refl;
      column = search rules;
      row = search rules;
    }
