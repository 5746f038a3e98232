-- The scales, one by one.
use Rattle.std.proofs.Common.{refl, arith}
use Rattle.mesh_plain_heights.proofs.heights.coarser_scale.Goals as goal
use Rattle.mesh_model.proofs.Weights.{coarser_scale_is}

pub returns-in-4-clause-value : goal.returns-in-4-clause-value
returns-in-4-clause-value c = coarser_scale_is c.args.k 4 16 (omega arith) refl

pub returns-in-5-clause-value : goal.returns-in-5-clause-value
returns-in-5-clause-value c = coarser_scale_is c.args.k 5 8 (omega arith) refl

pub returns-in-6-clause-value : goal.returns-in-6-clause-value
returns-in-6-clause-value c = coarser_scale_is c.args.k 6 4 (omega arith) refl

pub returns-in-7-clause-value : goal.returns-in-7-clause-value
returns-in-7-clause-value c = coarser_scale_is c.args.k 7 2 (omega arith) refl

pub returns-in_default-clause-value : goal.returns-in_default-clause-value
returns-in_default-clause-value c = coarser_scale_is c.args.k 8 1 (omega arith) refl
