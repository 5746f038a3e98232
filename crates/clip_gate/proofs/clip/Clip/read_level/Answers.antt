use Rattle.std.proofs.Common.{◌≡◌, ◌≤◌, ℤ, map, sym, ap, subst, ◌∙◌}
use Rattle.std.specs.Prelude.{Option, Some, option_map}
use Rattle.std.specs.Option.{IsSome}
use Rattle.std.specs.Vec.{vec_capacity}
use Rattle.clip_regions.specs.Regions.{area, cells}
use Rattle.terrain_model.specs.Terrain.{level_height}
use Rattle.terrain_store.specs.Shapes.{Land}
use Rattle.plan_model.specs.States.{OpenFrame, pass_at, frame_of}
use Rattle.book_plan.specs.Notes.{open_frame}
use Rattle.gate_rule.specs.declared.journal.Desk.{Desk}
use Rattle.clip_gate.specs.Passes.{PassView, ClipView, pass_of, shown_by}
use Rattle.clip_gate.specs.Calls.{HasWaited}
use Rattle.clip_gate.proofs.Promises.{waited, pass_waited}
use Rattle.clip_gate.proofs.ReadRows.{frame_now, some_note, region_of}
use Rattle.clip_gate.proofs.clip.Clip.read_level.Goals as goal

pub unwrap-frame-requires : goal.unwrap-frame-requires
unwrap-frame-requires g c =
    let now = frame_now c.pass.inside.seat.table_id c.pass.inside.seat.me c.enter-desk.new.seat.me c.enter-desk.result c.pass.inside.number c.args.pass.now c.pass.invariant.rests c.pass.invariant.own c.enter-desk.ensures.entered c.pass.view_is in
    some_note c.frame_of.result (subst (λ (o : Option OpenFrame). IsSome o) (sym (c.frame_of.ensures ∙ now)) c.requires.frame)

pub read_region-requires-clause-room : goal.read_region-requires-clause-room
read_region-requires-clause-room g c =
    let table = c.pass.inside.seat.table_id in
    let m = c.pass.inside.seat.me in
    let seat = c.enter-desk.new.seat.me in
    let desk : Desk = c.enter-desk.result in
    let e = c.enter-desk.ensures.entered in
    let own : c.pass.inside.number ≡ m.0.own = c.pass.invariant.own in
    let note = c.unwrap-frame.result in
    let now = frame_now table m seat desk c.pass.inside.number c.args.pass.now c.pass.invariant.rests own e c.pass.view_is in
    let told : option_map open_frame c.frame_of.result ≡ Some (open_frame note) = ap (option_map open_frame) c.unwrap-frame.ensures in
    let has : frame_of (pass_at desk.book.plan.state c.pass.inside.number) ≡ Some (open_frame note) = sym c.frame_of.ensures ∙ told in
    let region : c.at-region.result ≡ shown_by c.args.pass.now c.args.level = region_of c.args.pass.now c.args.level note c.at-region.result (sym now ∙ has) c.at-region.ensures.value in
    subst (λ r. area r ≤ vec_capacity c.args.out.now) (sym region) c.requires.room

pub returns-clause-heights : goal.returns-clause-heights
returns-clause-heights g c =
    let table = c.pass.inside.seat.table_id in
    let m = c.pass.inside.seat.me in
    let seat = c.enter-desk.new.seat.me in
    let desk : Desk = c.enter-desk.result in
    let e = c.enter-desk.ensures.entered in
    let own : c.pass.inside.number ≡ m.0.own = c.pass.invariant.own in
    let note = c.unwrap-frame.result in
    let now = frame_now table m seat desk c.pass.inside.number c.args.pass.now c.pass.invariant.rests own e c.pass.view_is in
    let told : option_map open_frame c.frame_of.result ≡ Some (open_frame note) = ap (option_map open_frame) c.unwrap-frame.ensures in
    let has : frame_of (pass_at desk.book.plan.state c.pass.inside.number) ≡ Some (open_frame note) = sym c.frame_of.ensures ∙ told in
    let region : c.at-region.result ≡ shown_by c.args.pass.now c.args.level = region_of c.args.pass.now c.args.level note c.at-region.result (sym now ∙ has) c.at-region.ensures.value in
    let land : desk.book.land ≡ c.args.self.now.land = e.stands.land ∙ ap (λ (q : PassView). q.clip.land) c.pass.view_is ∙ ap (λ (k : ClipView). k.land) c.requires.clip in
    c.read_region.ensures ∙ ap (λ (l : Land). map (λ (x : ℤ × ℤ). level_height l.terrain c.args.level x.0 x.1) (cells c.at-region.result)) land ∙ ap (λ r. map (λ (x : ℤ × ℤ). level_height c.args.self.now.land.terrain c.args.level x.0 x.1) (cells r)) region

pub invariant_of-pass : goal.invariant_of-pass
invariant_of-pass g c =
    pass_waited c.pass.inside.seat.table_id c.leave.new.seat.table_id c.pass.inside.seat.me c.enter-desk.new.seat.me c.leave.new.seat.me c.enter-desk.result c.pass.inside.number c.pass.inside.left c.pass.inside.part c.pass.invariant c.enter-desk.ensures.entered c.leave.ensures.left

pub returns-clause-waited : goal.returns-clause-waited
returns-clause-waited g c =
    let after = c.leave.new.seat in
    subst (λ (q : PassView). HasWaited q (pass_of after.table_id after.me.0)) c.pass.view_is
    (waited c.pass.inside.seat.table_id after.table_id c.pass.inside.seat.me c.enter-desk.new.seat.me after.me c.enter-desk.result (c.leave.ensures.table ∙ c.enter-desk.ensures.table) c.pass.invariant.rests c.enter-desk.ensures.entered c.leave.ensures.left)
