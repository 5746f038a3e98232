use Rattle.four_point.proofs.LawLemmas as lemmas
use Rattle.four_point.proofs.laws.even_residual.Goals as goal

pub returns : goal.returns
returns c = lemmas.even_residual
