use Rattle.four_point.proofs.LawLemmas as lemmas
use Rattle.four_point.proofs.laws.residual_size.Goals as goal

pub returns : goal.returns
returns c = lemmas.residual_size
