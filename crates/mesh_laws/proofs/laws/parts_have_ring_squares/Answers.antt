-- The four blocks round a hole, and the hole, are a product of two axes.
use Rattle.mesh_laws.proofs.Covered.{part_squares_are, squares_once}
use Rattle.mesh_laws.proofs.laws.parts_have_ring_squares.Goals as goal

pub returns-clause-squares : goal.returns-clause-squares
returns-clause-squares c = λ vertices level finer active. part_squares_are vertices level finer active

pub returns-clause-once : goal.returns-clause-once
returns-clause-once c = λ finer active i j has. squares_once finer active i j has
