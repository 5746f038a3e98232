use Rattle.plan_laws.proofs.CountLaws.{windows_have_few_pieces}
use Rattle.plan_laws.proofs.blocks.windows_have_few_pieces.Goals as goal

pub returns : goal.returns
returns c = windows_have_few_pieces
