use Rattle.std.proofs.Common.{Option, IfSome, ◌≤◌, length, sym, subst}
use Rattle.clip_regions.specs.declared.region.Region.{Region}
use Rattle.plan_model.specs.Claims.{strip_pieces}
use Rattle.strip_planner.specs.Planned.{IsPlanned}
use Rattle.book_plan.proofs.Rooms.{strip_planned, strip_few}
use Rattle.book_plan.proofs.moves.fill_in.Goals as goal

pub refill-requires-clause-planned : goal.refill-requires-clause-planned
refill-requires-clause-planned c =
    subst (λ (s : Option Region). IfSome s IsPlanned) (sym c.strip_where-strip.ensures) (strip_planned c.args.used c.args.filled c.args.window c.requires.window c.requires.filled)

pub refill-requires-clause-few : goal.refill-requires-clause-few
refill-requires-clause-few c =
    subst (λ (s : Option Region). length (strip_pieces s) ≤ 1089) (sym c.strip_where-strip.ensures) (strip_few c.args.used c.args.filled c.args.window c.requires.window c.requires.filled)
