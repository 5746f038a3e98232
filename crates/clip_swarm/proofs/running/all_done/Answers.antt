use mir.Syntax.{named}
use denote.Exit.{no}
use denote.Param.{param}
use denote.Ref.{ShrRef}
use denote.Struct.Tuple.{TupleAt}
use denote.Param.Send.{sendable, arg_sync, param_sync, shr_sync}
use Rattle.std.proofs.Crossing.{crosses}
use Rattle.std.proofs.Common.{◌≡◌, ℕ, ◌<◌, [], ◌∷◌, length, codes, slice_index_or, sym, ◌∙◌, subst, arith}
use Rattle.std.specs.Prelude.{Result}
use Rattle.obj_frames.specs.declared.memory.NoMemory.{NoMemory}
use Rattle.clip_gate.specs.Passes.{PassView}
use Rattle.clip_gate.proofs.Crossings.{pass_send}
use Rattle.swarm_passes.specs.Playing.{left_from}
use Rattle.clip_swarm.specs.Playing.{asked_of, passes_of}
use Rattle.clip_swarm.specs.declared.crew.Outcome.{Outcome}
use Rattle.clip_swarm.proofs.Outcomes.{starts_at, CameOf, are_played, first_left}
use Rattle.clip_swarm.specs.contracts.crew.Ground as ground
use Rattle.clip_swarm.proofs.Crossings.{captures_sync, ground_sync}
use Rattle.clip_swarm.proofs.running.all_done.Goals as goal
use Rattle.clip_swarm.proofs.running.all_done.Lts as lts

pub map_vec-requires-after_bounds : goal.map_vec-requires-after_bounds
map_vec-requires-after_bounds g c κs within = λ i x low is.
    let s = starts_at c.args.clip.now (passes_of c.args.crew) i c.args.passes.items x c.requires.count c.requires.started low is in
    (c.requires.land, (c.requires.script, (s.started, s.high)))

pub returns : goal.returns
returns g c =
    let clip = c.args.clip.now in
    let orders = asked_of c.args.script.now c.args.crew in
    let passes = c.args.passes.items in
    let rs = c.in_ok-done.done.items in
    let many : length c.in_ok-done.done.items ≡ length c.args.passes.items = omega (arith, c.in_ok-done.ensures.len) in
    let came = λ (i : ℕ) (d : PassView) (e : Result Outcome NoMemory) (low : i < length c.args.passes.items).
    let one = (c.in_ok-done.ensures.each i e low).1 in
    subst (λ (p : PassView). CameOf orders clip p (slice_index_or rs i e)) (sym (one.job_is d)) (record { played = one.call.met.0; left = one.call.met.1 }) in
    record {
      count = many ∙ c.requires.count;
      played = are_played orders clip 0 passes rs many c.requires.started came;
      left = first_left orders clip (left_from (passes_of c.args.crew)) passes rs many c.requires.left came;
    }

-- these searches try more lemmas than the check's own do
pub map_vec-requires-send-J : goal.map_vec-requires-send-J
map_vec-requires-send-J g c κs within = search (sendable, crosses, pass_send) depth 30 fits 20000

pub map_vec-requires-send-X : goal.map_vec-requires-send-X
map_vec-requires-send-X g c κs within = search (sendable, crosses, pass_send) depth 30 fits 20000

-- what the activity captures: the handle, the ground, the filler and the post
pub map_vec-requires-sync-F : goal.map_vec-requires-sync-F
map_vec-requires-sync-F g c κs within =
    let name = codes "clip_swarm::running::fn::all_done::activity+Self" in
    let handle = ShrRef (named 7) κs.1.1.1.1.1.1.1.0 (param 0 g.row.R) in
    let shared = ground.the_row (record { mir = named 8; lft = κs.1.1.1.1.1.1.1.1.0 }) in
    let filler = ShrRef (named 9) κs.1.1.1.1.1.1.1.1.1.0 (param 1 g.row.F) in
    let post = ShrRef (named 10) κs.1.1.1.1.1.1.1.1.1.1.0 (param 2 g.row.P) in
    param_sync 4 (lts.arg-0-4 g.row.R g.row.F g.row.P g.R.laws g.F.laws g.P.laws g.R.Threads-dict g.R.Wait-dict g.F.Filler-dict g.P.Post-dict κs)
    (arg_sync _ no (TupleAt name (handle ∷ shared ∷ filler ∷ post ∷ []))
    (captures_sync name handle shared filler post (shr_sync _ _ _ c.type_bounds.sync-R) (ground_sync _) (shr_sync _ _ _ c.type_bounds.sync-F) (shr_sync _ _ _ c.type_bounds.sync-P)))
