use Rattle.std.proofs.Common.{ℕ, ℤ, List, ap, sym, ◌∙◌, subst}
use Rattle.std.specs.Int.{w32}
use mir.Val.{to_z, of_z}
use Rattle.std.proofs.lemmas.Int.{to_z-of_z}
use Rattle.store_model.specs.Format.{Head}
use Rattle.store_model.specs.Store.{IsStore}
use Rattle.store_reader.specs.Headers.{head_of}
use Rattle.store_index.specs.Places.{stored_block, HasNoBlock, IsPlaceOf}
use Rattle.terrain_store.specs.Stores.{Stored}
use Rattle.terrain_store.specs.Blocks.{HasBlock}
use Rattle.terrain_store.proofs.Blocks.{number_low, stored_is, kind_is, decodes}
use Rattle.terrain_store.proofs.store.Store.block.Goals as goal

pub returns-in_default-clause-kind : goal.returns-in_default-clause-kind
returns-in_default-clause-kind c =
    let head = head_of c.self.inside.header in
    let level = c.args.level in
    let column = to_z-of_z w32 c.args.bx c.ranges.bx in
    let row = to_z-of_z w32 c.args.by c.ranges.by in
    let bare : HasNoBlock head level c.args.bx c.args.by = subst (λ (b : ℤ). HasNoBlock head level c.args.bx b) row (subst (λ (b : ℤ). HasNoBlock head level b (to_z w32 (of_z w32 c.args.by))) column c.in_default.ensures.none) in
    (c.empty.ensures.cells, subst (λ (h : Head). HasNoBlock h level c.args.bx c.args.by) (ap (λ (s : Stored). s.head) c.self.view_is) bare)

pub content-content-requires-clause-blocks : goal.content-content-requires-clause-blocks
content-content-requires-clause-blocks c =
    let head = head_of c.self.inside.header in
    let terrain = c.self.inside.terrain.value in
    c.blocks_of_stores.ensures.there head terrain c.as_slice.result.now (subst (λ (xs : List ℕ). IsStore head terrain xs) (sym c.as_slice.ensures.value) c.self.invariant.stands)

pub content-content-requires-clause-number : goal.content-content-requires-clause-number
content-content-requires-clause-number c =
    number_low c.blocks_of_stores.ensures.below (head_of c.self.inside.header) c.args.level _ _ c.in-Some.place c.in-Some.ensures.found

pub returns-clause-kind : goal.returns-clause-kind
returns-clause-kind c =
    let head = head_of c.self.inside.header in
    let level = c.args.level in
    let place = c.in-Some.place in
    let store : Stored = record { head = head; terrain = c.self.inside.terrain.value; bytes = c.self.inside.bytes.items } in
    let column = to_z-of_z w32 c.args.bx c.ranges.bx in
    let row = to_z-of_z w32 c.args.by c.ranges.by in
    let found : IsPlaceOf head level c.args.bx c.args.by place = subst (λ (b : ℤ). IsPlaceOf head level c.args.bx b place) row (subst (λ (b : ℤ). IsPlaceOf head level b (to_z w32 (of_z w32 c.args.by)) place) column c.in-Some.ensures.found) in
    let content = c.content-content.ensures ∙ ap (λ (xs : List ℕ). stored_block head xs place.number) c.as_slice.ensures.value in
    let stored = stored_is c.blocks_of_stores.ensures.found store c.self.invariant.stands level c.args.bx c.args.by place c.content-content.result.now found content in
    subst (λ (s : Stored). HasBlock c.kind_of.result s level c.args.bx c.args.by place.cells) c.self.view_is
    (kind_is c.kind_of.result store level c.args.bx c.args.by place.cells c.content-content.result.now c.kind_of.ensures stored)

pub returns-clause-decodes : goal.returns-clause-decodes
returns-clause-decodes c = decodes c.kind_of.result c.args.self.now c.args.level c.args.bx c.args.by c.in-Some.place.cells (returns-clause-kind c)
