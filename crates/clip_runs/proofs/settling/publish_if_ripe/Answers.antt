use Rattle.std.proofs.Common.{refl}
use Rattle.plan_model.specs.declared.events.Event.TheVariants.{Publish}
use Rattle.clip_desk.proofs.Stays.{event_stays}
use Rattle.clip_runs.proofs.settling.publish_if_ripe.Goals as goal

pub returns-then-is_ripe-clause-stays : goal.returns-then-is_ripe-clause-stays
returns-then-is_ripe-clause-stays g c =
    event_stays c.steps_go_on.ensures 0 (Publish c.args.level) _ c.args.desk.now c.take.new.self refl refl c.take.ensures.takes
