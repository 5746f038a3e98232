use Rattle.std.proofs.Common.{refl, ◌∙◌, arith}
use Rattle.store_reader.proofs.EntryLemmas.{entry_at}
use Rattle.store_reader.proofs.blocks.content_at.Goals as goal

pub returns-clause-entry : goal.returns-clause-entry
returns-clause-entry c = let a = c.from-length.ensures in let b = c.read_u16.ensures in
    entry_at c.args.bytes.now _ c.args.at c.from-length.result (λ i. (c.type_inv.bytes i).fits) c.requires (omega arith) (omega arith) (a ∙ b) refl
