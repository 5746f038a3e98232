use Rattle.clip_script.proofs.Written.{event_read}
use Rattle.clip_script.proofs.laws.written_steps_are_read.Goals as goal

pub returns : goal.returns
returns c = event_read c.natural_texts_are_read.ensures c.whole_texts_are_read.ensures
