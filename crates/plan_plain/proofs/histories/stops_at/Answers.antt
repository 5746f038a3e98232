-- One more entry at each turn: the history is legal up to it.
use Rattle.std.proofs.Common.{◌+◌, take, sym, ◌∙◌, pos}
use Rattle.std.proofs.lemmas.Bool.{true≢false}
use Rattle.plan_model.specs.States.{start_state}
use Rattle.plan_model.specs.Histories.{IsLegalFrom}
use Rattle.plan_model.specs.declared.events.Entry.{Entry}
use Rattle.plan_model.specs.declared.events.Event.TheVariants.{Move}
use Rattle.plan_model.specs.declared.events.Answer.TheVariants.{Moved}
use Rattle.plan_plain.proofs.Legal.{none_left, state_next, legal_next, illegal_next}
use Rattle.plan_plain.proofs.histories.stops_at.Goals as goal

abbrev no_entry : Entry
no_entry = record { pass = 0; event = Move (pos 0) (pos 0) 0; answer = Moved }

pub loop-i-init : goal.loop-i-init
loop-i-init c = record { value = c.in_ok-state.ensures.value ∙ sym (none_left (start_state c.args.k c.args.levels)); legal = tt; sound = c.in_ok-state.ensures.sound }

pub returns-then-not-branch-clause-stops : goal.returns-then-not-branch-clause-stops
returns-then-not-branch-clause-stops c = record {
  there = c.loop-i-test.true;
  before = c.loop-i.invariant.legal;
  here = λ (legal : IsLegalFrom (start_state c.args.k c.args.levels) (take (c.loop-i.i + 1) c.args.entries.now)). true≢false (sym (c.in_ok-follows.ensures.value.1 (illegal_next (start_state c.args.k c.args.levels) c.loop-i.state c.args.entries.now c.loop-i.i no_entry c.loop-i-test.true c.loop-i.invariant.value legal)) ∙ c.if-not-branch.true);
}

pub loop-i-preserved : goal.loop-i-preserved
loop-i-preserved c = record {
  value = state_next (start_state c.args.k c.args.levels) c.loop-i.state c.follows.new.state c.args.entries.now c.loop-i.i no_entry c.loop-i-test.true c.loop-i.invariant.value (c.in_ok-follows.ensures.state c.if-not-branch.false);
  legal = legal_next (start_state c.args.k c.args.levels) c.loop-i.state c.args.entries.now c.loop-i.i no_entry c.loop-i-test.true c.loop-i.invariant.value c.loop-i.invariant.legal (c.in_ok-follows.ensures.value.0 c.if-not-branch.false);
  sound = c.follows.ensures.sound c.loop-i.i c.loop-i.invariant.sound;
}
