use Rattle.std.proofs.Common.{ℕ, List, sym, subst}
use Rattle.store_model.specs.Store.{IsStore}
use Rattle.store_reader.specs.Headers.{head_of}
use Rattle.terrain_store.proofs.store.keep.Goals as goal

pub new-requires-clause-blocks : goal.new-requires-clause-blocks
new-requires-clause-blocks c =
    let head = head_of c.args.header in
    c.blocks_of_stores.ensures.there head c.args.grid.now c.as_slice.result.now (subst (λ (xs : List ℕ). IsStore head c.args.grid.now xs) (sym c.as_slice.ensures.value) c.requires)
