use Rattle.std.proofs.Common.{◌≡◌, ℕ, ◌<◌, ℤ, pos, length, map, get_or, w32, ap, sym, ◌∙◌, subst}
use Rattle.std.specs.Int.{w16}
use Rattle.std.proofs.lemmas.Int.{to_z-of_z}
use Rattle.clip_regions.specs.declared.region.Region.{Region}
use Rattle.mesh_model.specs.Height.{active_at}
use Rattle.mesh_laws.specs.Conditions.{IsCell, IsSmall}
use Rattle.torus_grid.specs.Places.{place_among}
use Rattle.decode_workers.specs.Copies.{CopiesView, LevelCopy, no_copy, copy_in, copy_of}
use Rattle.decode_workers.proofs.copies.LevelCopies.copied.Goals as goal
use mir.Val.{to_z, of_z}

region_is : (c : goal.After-at) → c.at.result ≡ active_at c.args.self.now.actives c.args.level
unfolding active_at
region_is c = c.at.ensures.value ∙ ap (λ (v : CopiesView). active_at v.actives c.args.level) c.self.view_is

pub place_of-place-requires-clause-region : goal.place_of-place-requires-clause-region
place_of-place-requires-clause-region c = subst IsSmall (sym (region_is c)) c.requires.small

pub place_of-place-requires-clause-cell : goal.place_of-place-requires-clause-cell
place_of-place-requires-clause-cell c =
    let r = active_at c.args.self.now.actives c.args.level in
    let i = to_z-of_z w32 c.args.i c.ranges.i in
    let j = to_z-of_z w32 c.args.j c.ranges.j in
    subst (λ (q : Region). IsCell q (to_z w32 (of_z w32 c.args.i)) (to_z w32 (of_z w32 c.args.j))) (sym (region_is c))
    (subst (λ (x : ℤ). IsCell r x (to_z w32 (of_z w32 c.args.j))) (sym i) (subst (λ (y : ℤ). IsCell r c.args.i y) (sym j) c.requires.cell))

pub height_at-requires-clause-place : goal.height_at-requires-clause-place
unfolding active_at
height_at-requires-clause-place c =
    let place : c.place_of-place.result ≡ place_among (active_at c.args.self.now.actives c.args.level) c.args.i c.args.j =
    c.place_of-place.ensures ∙ (λ t. place_among ((c.at.ensures.value ∙ ap (λ (v : CopiesView). active_at v.actives c.args.level) c.self.view_is) t) (to_z-of_z w32 c.args.i c.ranges.i t) (to_z-of_z w32 c.args.j c.ranges.j t)) in
    let copy : get_or (map copy_in c.deref.result.now) c.from.result no_copy ≡ copy_of c.args.self.now c.args.level =
    (λ t. get_or (map copy_in (c.deref.ensures.value t)) (c.from.ensures t) no_copy) ∙ ap (λ (v : CopiesView). copy_of v c.args.level) c.self.view_is in
    subst (λ (n : ℕ). n < length (get_or (map copy_in c.deref.result.now) c.from.result no_copy).heights) (sym place)
    (subst (λ (one : LevelCopy). place_among (active_at c.args.self.now.actives c.args.level) c.args.i c.args.j < length one.heights) (sym copy) c.requires.there)

pub returns : goal.returns
unfolding active_at
returns c =
    let place : c.place_of-place.result ≡ place_among (active_at c.args.self.now.actives c.args.level) c.args.i c.args.j =
    c.place_of-place.ensures ∙ (λ t. place_among ((c.at.ensures.value ∙ ap (λ (v : CopiesView). active_at v.actives c.args.level) c.self.view_is) t) (to_z-of_z w32 c.args.i c.ranges.i t) (to_z-of_z w32 c.args.j c.ranges.j t)) in
    let copy : get_or (map copy_in c.deref.result.now) c.from.result no_copy ≡ copy_of c.args.self.now c.args.level =
    (λ t. get_or (map copy_in (c.deref.ensures.value t)) (c.from.ensures t) no_copy) ∙ ap (λ (v : CopiesView). copy_of v c.args.level) c.self.view_is in
    to_z-of_z w16 c.height_at.result (record { sfits = c.height_at.type_inv }) ∙ c.height_at.ensures ∙ (λ t. get_or (copy t).heights (place t) (pos 0))
