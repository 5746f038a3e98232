use Rattle.clip_script.proofs.Written.{event_lines}
use Rattle.clip_script.proofs.laws.written_steps_are_lines.Goals as goal

pub returns-clause-lines : goal.returns-clause-lines
returns-clause-lines c = event_lines
