use Rattle.std.proofs.Common.{ℕ, List, ap, ◌∙◌, sym, subst, refl, inr}
use Rattle.store_model.specs.Format.{Head}
use Rattle.store_model.specs.Store.{IsStore}
use Rattle.store_model.specs.Restored.{restored_terrain, head_of}
use Rattle.terrain_store.proofs.packing.pack_by.Goals as goal

pub returns-in-Ok : goal.returns-in-Ok
returns-in-Ok c =
    let terrain = c.args.grid.now in
    let head : Head = head_of 2 terrain c.args.levels c.args.step in
    let restored = restored_terrain terrain c.args.levels c.args.step in
    let is = c.in_ok-bytes.ensures in
    let canonical = c.canonical_stores.ensures 2 terrain c.args.levels c.args.step c.width-width.ensures.terrain c.requires.some c.requires.few (inr (refl, c.requires.step)) in
    c.in-Ok.ensures.same head restored (subst (λ (xs : List ℕ). IsStore head restored xs) (sym is) canonical)
    ∙ ap (λ (xs : List ℕ). record { head = head; terrain = restored; bytes = xs }) is
