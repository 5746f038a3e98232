-- One more entry at each turn.
use Rattle.std.proofs.Common.{sym, ◌∙◌, pos}
use Rattle.plan_model.specs.States.{start_state}
use Rattle.plan_model.specs.declared.events.Event.TheVariants.{Move}
use Rattle.plan_model.specs.declared.events.Answer.TheVariants.{Moved}
use Rattle.plan_plain.proofs.Legal.{none_left, state_next}
use Rattle.plan_plain.proofs.histories.state_of_history.Goals as goal

pub loop-entry-init : goal.loop-entry-init
loop-entry-init c = record { value = c.in_ok-state.ensures.value ∙ sym (none_left (start_state c.args.k c.args.levels)); sound = c.in_ok-state.ensures.sound; levels = c.in_ok-state.ensures.count }

pub loop-entry-preserved : goal.loop-entry-preserved
loop-entry-preserved c = record {
  value = state_next (start_state c.args.k c.args.levels) c.loop-entry.state c.step.new.self c.args.entries.now c.loop-entry.entry-index (record { pass = 0; event = Move (pos 0) (pos 0) 0; answer = Moved }) c.loop-entry-test.true c.loop-entry.invariant.value c.in_ok-step.ensures.state;
  sound = c.step.ensures.sound c.loop-entry.entry-index c.loop-entry.invariant.sound;
  levels = c.in_ok-step.ensures.levels ∙ c.loop-entry.invariant.levels;
}
