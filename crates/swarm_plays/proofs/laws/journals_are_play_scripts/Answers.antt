use Rattle.swarm_plays.proofs.Texts.{journals}
use Rattle.swarm_plays.proofs.laws.journals_are_play_scripts.Goals as goal

pub returns : goal.returns
returns c =
    journals c.steps_go_on.ensures c.natural_texts_are_read.ensures c.written_steps_are_lines.ensures.lines c.written_steps_are_read.ensures
    c.written_steps_are_lines.ensures.spoken
