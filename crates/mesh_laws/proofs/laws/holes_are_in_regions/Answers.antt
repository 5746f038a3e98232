-- The hole is the finer region with each corner halved, and these are even.
use Rattle.std.proofs.Common.{pos, ◌*ℤ◌}
use Rattle.mesh_model.specs.Vertices.{hole}
use Rattle.mesh_laws.proofs.Sizes.{contained, hole_small}
use Rattle.mesh_laws.proofs.laws.holes_are_in_regions.Goals as goal
use Rattle.clip_regions.proofs.Cells.{Lies, lies}
use Rattle.mesh_model.proofs.Rectangles.{from_hole}

pub returns-clause-finer : goal.returns-clause-finer
returns-clause-finer c = λ finer i j shape there.
    let l : Lies finer (pos 2 *ℤ i) (pos 2 *ℤ j) = from_hole finer i j shape (lies (hole finer) i j there) in
    record { west = l.west; east = l.east; north = l.north; south = l.south }

pub returns-clause-contained : goal.returns-clause-contained
returns-clause-contained c = λ r i j cell. contained r i j cell

pub returns-clause-small : goal.returns-clause-small
returns-clause-small c = λ active gap small has. hole_small active gap small has
