use Rattle.swarm_plays.proofs.Puts.{plays_put}
use Rattle.swarm_plays.proofs.laws.plays_put_what_histories_close.Goals as goal

pub returns : goal.returns
returns c = plays_put c.steps_go_on.ensures
