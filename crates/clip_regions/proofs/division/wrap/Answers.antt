-- The result is the definition's remainder.
use mir.Syntax.{w32}
use mir.Val.{of_z, to_z}
use Rattle.clip_regions.proofs.Quotients.{remainder_is, rest}
use Rattle.clip_regions.proofs.division.wrap.Goals as goal

pub returns-clause-value : goal.returns-clause-value
returns-clause-value c =
    remainder_is c.args.a c.args.b c.rem_euclid.result c.ranges.a c.ranges.b (record { sfits = c.rem_euclid.type_inv }) c.requires c.rem_euclid.ensures.value

pub returns-clause-rest : goal.returns-clause-rest
returns-clause-rest c = rest c.args.a c.args.b (to_z w32 (of_z w32 c.rem_euclid.result)) c.requires (returns-clause-value c)
