use Rattle.std.specs.Prelude.{List}
use Rattle.std.specs.List.{All}
use Rattle.std.proofs.Common.{subst, sym}
use Rattle.plan_model.specs.declared.events.FlyLine.{FlyLine}
use Rattle.plan_plain.specs.SoundRuns.{IsFlown}
use Rattle.run_trials.proofs.Flown.{all_plainly_flown}
use Rattle.run_trials.proofs.mosaics.events_text.Goals as goal

pub fly_events-requires-clause-flown : goal.fly_events-requires-clause-flown
fly_events-requires-clause-flown c =
    subst (λ (lines : List FlyLine). All IsFlown lines) (sym c.as_slice.ensures.value)
    (all_plainly_flown c.args.script.now.lines.items c.requires.in_range.lines)
