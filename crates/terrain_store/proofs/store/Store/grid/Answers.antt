use Rattle.std.proofs.Common.{List, ℕ, ap, ◌∙◌, sym, subst}
use Rattle.store_model.specs.Store.{IsStore}
use Rattle.terrain_store.specs.Stores.{Stored}
use Rattle.store_reader.specs.Headers.{head_of}
use Rattle.terrain_store.proofs.store.Store.grid.Goals as goal

pub returns-in-Ok : goal.returns-in-Ok
returns-in-Ok c =
    (c.in-Ok.ensures.same (head_of c.self.inside.header) c.self.inside.terrain.value (subst (λ (xs : List ℕ). IsStore (head_of c.self.inside.header) c.self.inside.terrain.value xs) (sym c.as_slice.ensures.value) c.self.invariant.stands)).1
    ∙ ap (λ (s : Stored). s.terrain) c.self.view_is
