use Rattle.clip_script.proofs.play.step_named.Goals as goal

pub returns-then-eq-3-clause-range : goal.returns-then-eq-3-clause-range
returns-then-eq-3-clause-range c = c.moved.ensures.range c.args.levels
