-- The cells of the region, less those of the hole.
use Rattle.std.proofs.Common.{arith}
use Rattle.clip_regions.specs.Regions.{area}
use Rattle.mesh_laws.specs.Rings.{ring_size}
use Rattle.ring_mesh.proofs.places.ring_size.Goals as goal

pub returns-clause-value : goal.returns-clause-value
unfolding ring_size area
returns-clause-value c = omega (arith, c.area.ensures.value, c.area-2.ensures.value, c.saturating_sub.ensures)
