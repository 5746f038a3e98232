use Rattle.std.proofs.Common.{[], ◌∷◌, ℤ, to_z, of_z, w32, SFits, rules, arith, subst}
use Rattle.std.proofs.lemmas.Int.{to_z-of_z}
use Rattle.plan_model.specs.declared.events.Event.TheVariants.{Move}
use Rattle.plan_model.specs.declared.events.Answer.TheVariants.{Moved}
use Rattle.clip_gate.specs.Calls.{HasMade}
use Rattle.swarm_laws.specs.Shares.{moves_share}
use Rattle.swarm_laws.proofs.Blocks.{move_less}
use Rattle.swarm_passes.proofs.Events.{move_goes, full_goes}
use Rattle.clip_swarm.proofs.working.make_move.Goals as goal

pub returns-in-Ok : goal.returns-in-Ok
returns-in-Ok g c =
    let place = c.args.place in
    let fx : SFits w32 c.args.place.0 = search rules in
    let fy : SFits w32 c.args.place.1 = search rules in
    let made = subst (λ (x : ℤ). HasMade (Move x c.args.place.1 c.args.place.2) Moved 1 c.args.pass.now c.move_to.new.pass) (to_z-of_z w32 c.args.place.0 fx)
    (subst (λ (y : ℤ). HasMade (Move (to_z w32 (of_z w32 c.args.place.0)) y c.args.place.2) Moved 1 c.args.pass.now c.move_to.new.pass) (to_z-of_z w32 c.args.place.1 fy) c.in-Ok.ensures.made) in
    record { goes = move_goes c.args.place c.args.pass.now c.move_to.new.pass c.number-number.ensures.sound.own c.requires.free made }

pub returns-in-Err : goal.returns-in-Err
returns-in-Err g c = record {
  goes = full_goes (moves_share (c.args.place ∷ [])) 1 c.args.pass.now c.move_to.new.pass c.number-number.ensures.sound.own c.requires.free (omega arith) (move_less c.args.place) c.in-Err.ensures.full;
}
