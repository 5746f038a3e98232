use Rattle.std.proofs.Common.{rules, ◌≡◌, ◌<◌, ◌≤◌, ◌+◌, ◌*◌, ◌%◌, ◌/◌, ℕ, ℤ, List, pos, ◌+ℤ◌, length, sym, ap, subst, ◌∙◌, arith}
use mathlib.Core.Path.{ap₂}
use mir.Val.{SFits, to_z, of_z}
use Rattle.std.specs.Int.{w16, w32}
use Rattle.std.proofs.lemmas.Int.{to_z-of_z}
use Rattle.std.specs.Vec.{vec_len, vec_capacity}
use Rattle.clip_regions.specs.Regions.{columns, area}
use Rattle.terrain_model.specs.Terrain.{level_height}
use Rattle.clip_book.specs.Books.{Shows}
use Rattle.clip_gate.specs.Reading.{AreFirst}
use Rattle.clip_gate.proofs.ReadRows.{first_more, area_is, count_is}
use Rattle.clip_gate.proofs.reading.read_region.Goals as goal

pub height-requires : goal.height-requires
height-requires c =
    let cell = c.cell_at-cell.result in
    let fi : SFits w32 cell.i = search rules in
    let fj : SFits w32 cell.j = search rules in
    let shows : Shows c.args.book.now.plan.state c.args.pass c.args.level cell.i cell.j = c.requires.shown.cells cell.i cell.j c.cell_at-cell.ensures.inside in
    subst (λ (a : ℤ). Shows c.args.book.now.plan.state c.args.pass c.args.level a (to_z w32 (of_z w32 cell.j))) (sym (to_z-of_z w32 cell.i fi))
    (subst (λ (b : ℤ). Shows c.args.book.now.plan.state c.args.pass c.args.level cell.i b) (sym (to_z-of_z w32 cell.j fj)) shows)

pub push_reserved-requires : goal.push_reserved-requires
push_reserved-requires c =
    let first = c.loop-place.invariant.0.many in
    let wide : vec_capacity c.loop-place.out ≡ vec_capacity c.args.out.now = c.loop-place.invariant.1 ∙ c.clear.ensures.capacity in
    let room = c.requires.room in
    let all : c.from.result * c.from-2.result ≡ area c.args.region = area_is c.args.region c.from.result c.from-2.result (c.from.ensures ∙ c.columns-columns.ensures.value) (c.from-2.ensures ∙ c.rows-rows.ensures.value) in
    let near : c.loop-place.place < area c.args.region = subst (λ (n : ℕ). c.loop-place.place < n) all c.loop-place-test.true in
    let long : vec_len c.loop-place.out ≡ length c.loop-place.out.items = search rules in
    omega arith

pub loop-place-preserved : goal.loop-place-preserved
loop-place-preserved c =
    let r = c.args.region in
    let n : ℕ = c.loop-place.place in
    let cell = c.cell_at-cell.result in
    let wide : c.columns-columns.result ≡ columns r = c.columns-columns.ensures.value in
    let fi : SFits w32 cell.i = search rules in
    let fj : SFits w32 cell.j = search rules in
    let fh : SFits w16 c.height.result = search rules in
    let i : to_z w32 (of_z w32 cell.i) ≡ r.x0 +ℤ pos (n % columns r) = to_z-of_z w32 cell.i fi ∙ c.cell_at-cell.ensures.column ∙ ap (λ (k : ℕ). r.x0 +ℤ pos (n % k)) wide in
    let j : to_z w32 (of_z w32 cell.j) ≡ r.y0 +ℤ pos (n / columns r) = to_z-of_z w32 cell.j fj ∙ c.cell_at-cell.ensures.row ∙ ap (λ (k : ℕ). r.y0 +ℤ pos (n / k)) wide in
    let h : to_z w16 (of_z w16 c.height.result) ≡ level_height c.args.book.now.land.terrain c.args.level (r.x0 +ℤ pos (n % columns r)) (r.y0 +ℤ pos (n / columns r)) =
    to_z-of_z w16 c.height.result fh ∙ c.height.ensures ∙ ap₂ (λ (a b : ℤ). level_height c.args.book.now.land.terrain c.args.level a b) i j in (
      subst (λ (l : List ℤ). AreFirst c.args.book.now c.args.level r (n + 1) l) (sym c.push_reserved.ensures.items) (first_more c.args.book.now c.args.level r n c.loop-place.out.items (to_z w16 (of_z w16 c.height.result)) c.loop-place.invariant.0 h),
      c.push_reserved.ensures.capacity ∙ c.loop-place.invariant.1,
    )

pub returns : goal.returns
returns c =
    let first = c.loop-place.invariant.0.many in
    let all : c.from.result * c.from-2.result ≡ area c.args.region = area_is c.args.region c.from.result c.from-2.result (c.from.ensures ∙ c.columns-columns.ensures.value) (c.from-2.ensures ∙ c.rows-rows.ensures.value) in
    let most : c.loop-place.place ≤ c.from.result * c.from-2.result = c.loop-place.auto.place-end in
    let least : c.from.result * c.from-2.result ≤ c.loop-place.place = c.loop-place-test.false in
    let done : length c.loop-place.out.items ≡ area c.args.region = count_is (length c.loop-place.out.items) c.loop-place.place (c.from.result * c.from-2.result) (area c.args.region) first most least all in
    c.read_by_places_are_listed.ensures (level_height c.args.book.now.land.terrain c.args.level) c.args.region c.loop-place.out.items done c.loop-place.invariant.0.right
