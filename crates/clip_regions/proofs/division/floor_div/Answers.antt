-- The result is the definition's quotient, and what the clauses say of it is true of every such quotient.
use mir.Syntax.{w32}
use mir.Val.{of_z, to_z}
use Rattle.clip_regions.proofs.Quotients.{quotient_is, quotient}
use Rattle.clip_regions.proofs.division.floor_div.Goals as goal

pub returns-clause-value : goal.returns-clause-value
returns-clause-value c =
    quotient_is c.args.a c.args.b c.div_euclid.result c.ranges.a c.ranges.b (record { sfits = c.div_euclid.type_inv }) c.requires c.div_euclid.ensures

pub returns-clause-below : goal.returns-clause-below
returns-clause-below c = (quotient c.args.a c.args.b (to_z w32 (of_z w32 c.div_euclid.result)) c.requires (returns-clause-value c)).below

pub returns-clause-above : goal.returns-clause-above
returns-clause-above c = (quotient c.args.a c.args.b (to_z w32 (of_z w32 c.div_euclid.result)) c.requires (returns-clause-value c)).above

pub returns-clause-at_zero_or_more : goal.returns-clause-at_zero_or_more
returns-clause-at_zero_or_more c =
    (quotient c.args.a c.args.b (to_z w32 (of_z w32 c.div_euclid.result)) c.requires (returns-clause-value c)).at_zero_or_more

pub returns-clause-below_zero : goal.returns-clause-below_zero
returns-clause-below_zero c =
    (quotient c.args.a c.args.b (to_z w32 (of_z w32 c.div_euclid.result)) c.requires (returns-clause-value c)).below_zero
