use Rattle.plan_plain_steps.proofs.Stepped.{sound_after, k_after, levels_after}
use Rattle.plan_plain_steps.proofs.state.PlainState.step.Goals as goal

pub returns-clause-sound : goal.returns-clause-sound
returns-clause-sound c =
    sound_after c.take.result c.steps_keep_soundness.ensures c.sound_bounds_widen.ensures c.args.self.now c.take.new.self c.args.p c.args.event c.requires.taken c.take.ensures.state c.take.ensures.unchanged

pub returns-clause-k : goal.returns-clause-k
returns-clause-k c =
    k_after c.take.result c.sizes_are_kept.ensures c.args.self.now c.take.new.self c.args.p c.args.event c.take.ensures.state c.take.ensures.unchanged

pub returns-clause-levels : goal.returns-clause-levels
returns-clause-levels c =
    levels_after c.take.result c.sizes_are_kept.ensures c.args.self.now c.take.new.self c.args.p c.args.event c.take.ensures.state c.take.ensures.unchanged
