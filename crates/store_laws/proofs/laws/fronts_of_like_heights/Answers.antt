use Rattle.store_laws.proofs.Likeness.{front_like}
use Rattle.store_laws.proofs.laws.fronts_of_like_heights.Goals as goal

pub returns : goal.returns
returns c = front_like
