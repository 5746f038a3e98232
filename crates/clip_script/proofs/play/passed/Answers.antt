use Rattle.clip_script.proofs.play.passed.Goals as goal

pub returns-clause-range : goal.returns-clause-range
returns-clause-range c = λ levels. record { pass = c.in_ok-pass.ensures.range; event = c.requires.plain levels }
