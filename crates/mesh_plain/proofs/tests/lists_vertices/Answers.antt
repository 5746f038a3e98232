-- The regions are drawn.
use Rattle.std.proofs.Common.{refl, rules}
use Rattle.clip_regions.specs.FloorDivision.{floor_rem}
use Rattle.mesh_plain.proofs.tests.lists_vertices.Goals as goal

pub mesh_vertices-requires-clause-drawn : goal.mesh_vertices-requires-clause-drawn
unfolding floor_rem
mesh_vertices-requires-clause-drawn g c = (
  record {
    active = record { within = search rules; even = λ _. record { x0 = refl; y0 = refl; x1 = refl; y1 = refl } };
    west = search rules;
    north = search rules;
    east = search rules;
    south = search rules;
  },
  (
    record {
      active = record { within = search rules; even = λ _. record { x0 = refl; y0 = refl; x1 = refl; y1 = refl } };
      west = search rules;
      north = search rules;
      east = search rules;
      south = search rules;
    },
    tt,
  ),
)
