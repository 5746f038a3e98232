-- What a pass knows of itself after entries of others, and after an event of its own.
use Rattle.std.proofs.Common.{◌≡◌, ℕ, Bool, true, List, [], ◌∷◌, ◌++◌, length, refl, ap, ◌∙◌, subst, append-nil}
use Rattle.plan_model.specs.States.{State, Pass, start_state, pass_at, frame_of}
use Rattle.plan_model.specs.Steps.{step}
use Rattle.plan_model.specs.Histories.{IsLegalHistory, state_of_history}
use Rattle.plan_model.specs.declared.events.Event.{Event}
use Rattle.plan_model.specs.declared.events.Answer.{Answer}
use Rattle.plan_model.specs.declared.events.Entry.{Entry}
use Rattle.plan_histories.proofs.LegalLaws.{legal_with_one_more, states_after_one_more}
use Rattle.gate_rule.specs.Flags.{flag}
use Rattle.gate_rule.specs.Rule.{GoesOn, state_in}
use Rattle.gate_rule.proofs.Seats.{part_since}
use Rattle.clip_gate.specs.Passes.{PassView, ClipView, ground_of_clip, part_of}
use Rattle.clip_gate.specs.Calls.{IsSamePass, HasMade, HasWaited}
use Rattle.swarm_laws.specs.Runs.{entries_of}
use Rattle.swarm_laws.specs.Closings.{Closing, closed_by, closings, closings_in, closings_of}
use Rattle.swarm_laws.proofs.Own.{no_own, own_here}
use Rattle.swarm_laws.proofs.Adding.{own_append}
use Rattle.swarm_laws.proofs.Frames.{closings_append, none_closed, of_append}
use Rattle.swarm_laws.proofs.Lengths.{many_passes}
use Rattle.swarm_passes.specs.Going.{own_of, closed_of}

-- ---- after entries of others
pub own_since : (flags : List Bool) (seen log : List Entry) (p : ℕ) → GoesOn flags seen log → flag flags p ≡ true → entries_of p log ≡ entries_of p seen
own_since flags seen log p on is =
    ap (entries_of p) on.is ∙ own_append p seen on.between ∙ ap (λ (xs : List Entry). entries_of p seen ++ xs) (no_own p on.between (on.others p is)) ∙ append-nil (entries_of p seen)

pub closed_since : (k levels : ℕ) (flags : List Bool) (seen log : List Entry) (p : ℕ) → GoesOn flags seen log → flag flags p ≡ true → closings_of p (closings_in k levels log) ≡ closings_of p (closings_in k levels seen)
closed_since k levels flags seen log p on is =
    let st : State = state_of_history k levels seen in
    ap (λ (xs : List Entry). closings_of p (closings_in k levels xs)) on.is
    ∙ ap (closings_of p) (closings_append (start_state k levels) seen on.between)
    ∙ of_append p (closings_in k levels seen) (closings (state_of_history k levels seen) on.between)
    ∙ ap (λ (xs : List Closing). closings_of p (closings_in k levels seen) ++ xs) (none_closed p (state_of_history k levels seen) on.between (on.others p is))
    ∙ append-nil (closings_of p (closings_in k levels seen))

-- ---- what a view is made of
pub own_by : (old new : PassView) → IsSamePass old new → own_of new ≡ entries_of old.number new.history
own_by old new s = ap (λ (n : ℕ). entries_of n new.history) s.number

pub closed_as : (old new : PassView) → IsSamePass old new → closed_of new ≡ closings_of old.number (closings_in old.clip.size old.clip.land.levels new.history)
closed_as old new s =
    ap (λ (c : ClipView). closings_of new.number (closings_in c.size c.land.levels new.history)) s.clip ∙ ap (λ (n : ℕ). closings_of n (closings_in old.clip.size old.clip.land.levels new.history)) s.number

pub part_as : (old new : PassView) → IsSamePass old new → part_of new ≡ pass_at (state_in (ground_of_clip old.clip) new.history) old.number
part_as old new s =
    ap (λ (c : ClipView). pass_at (state_in (ground_of_clip c) new.history) new.number) s.clip ∙ ap (λ (n : ℕ). pass_at (state_in (ground_of_clip old.clip) new.history) n) s.number

-- ---- after a wait
pub record Stays (old new : PassView) : Type 0 where
  pub own : own_of new ≡ own_of old
  pub closes : closed_of new ≡ closed_of old

pub waited_stays : (old new : PassView) → flag old.numbers old.number ≡ true → HasWaited old new → Stays old new
waited_stays old new mine w = record {
  own = own_by old new w.same ∙ own_since old.numbers old.history new.history old.number w.waited mine;
  closes = closed_as old new w.same ∙ closed_since old.clip.size old.clip.land.levels old.numbers old.history new.history old.number w.waited mine;
}

-- ---- after an event
-- the state that an event found, and what it made of it
pub record Makes (event : Event) (answer : Answer) (old new : PassView) : Type 0 where
  pub same : IsSamePass old new
  pub own : own_of new ≡ own_of old ++ record { pass = old.number; event = event; answer = answer } ∷ []
  pub closes : closed_of new ≡ closed_of old ++ closings_of old.number (closed_by event old.number (frame_of (part_of old)))
  pub state : State
  pub history : List Entry
  pub is : state ≡ state_in (ground_of_clip old.clip) history
  pub found : pass_at state old.number ≡ part_of old
  pub many : length state.passes ≡ 16
  pub answered : (step state old.number event).answer ≡ answer
  pub part : part_of new ≡ pass_at (step state old.number event).state old.number

one_closing_more : (k levels : ℕ) (log : List Entry) (e : Entry) (p : ℕ) → closings_of p (closings_in k levels (log ++ e ∷ [])) ≡ closings_of p (closings_in k levels log) ++ closings_of p (closed_by e.event e.pass (frame_of (pass_at (state_of_history k levels log) e.pass)))
one_closing_more k levels log e p =
    let here = closed_by e.event e.pass (frame_of (pass_at (state_of_history k levels log) e.pass)) in
    ap (closings_of p) (closings_append (start_state k levels) log (e ∷ []))
    ∙ of_append p (closings_in k levels log) (here ++ [])
    ∙ ap (λ (xs : List Closing). closings_of p (closings_in k levels log) ++ closings_of p xs) (append-nil here)

abbrev IsLegalList : PassView → List Entry → Type 0
IsLegalList pass log = IsLegalHistory pass.clip.size pass.clip.land.levels log

pub made_makes : (event : Event) (answer : Answer) (asked : ℕ) (old new : PassView) → flag old.numbers old.number ≡ true → HasMade event answer asked old new → Makes event answer old new
made_makes event answer asked old new mine m =
    let e : Entry = record { pass = old.number; event = event; answer = answer } in
    let k : ℕ = old.clip.size in
    let levels : ℕ = old.clip.land.levels in
    let st : State = state_of_history k levels m.before in
    let found : pass_at (state_of_history old.clip.size old.clip.land.levels m.before) old.number ≡ part_of old = part_since (ground_of_clip old.clip) old.numbers old.history m.before old.number m.waited mine in
    let legal = subst (λ (l : List Entry). IsLegalList old l) m.made m.legal in
    let next = (legal_with_one_more (start_state old.clip.size old.clip.land.levels) m.before e).0 legal in
    record {
      same = m.same;
      own = own_by old new m.same ∙ ap (entries_of old.number) m.made ∙ own_append old.number m.before (e ∷ []) ∙ ap (λ (xs : List Entry). xs ++ entries_of old.number (e ∷ [])) (own_since old.numbers old.history m.before old.number m.waited mine) ∙ ap (λ (xs : List Entry). own_of old ++ xs) (own_here e []);
      closes = closed_as old new m.same ∙ ap (λ (l : List Entry). closings_of old.number (closings_in old.clip.size old.clip.land.levels l)) m.made
          ∙ one_closing_more old.clip.size old.clip.land.levels m.before e old.number
          ∙ ap (λ (xs : List Closing). xs ++ closings_of old.number (closed_by event old.number (frame_of (pass_at (state_of_history old.clip.size old.clip.land.levels m.before) old.number)))) (closed_since old.clip.size old.clip.land.levels old.numbers old.history m.before old.number m.waited mine)
          ∙ ap (λ (w : Pass). closed_of old ++ closings_of old.number (closed_by event old.number (frame_of w))) found;
      state = state_of_history old.clip.size old.clip.land.levels m.before;
      history = m.before;
      is = refl;
      found = found;
      many = many_passes old.clip.size old.clip.land.levels m.before;
      answered = next.1.2;
      part = part_as old new m.same ∙ ap (λ (l : List Entry). pass_at (state_in (ground_of_clip old.clip) l) old.number) m.made ∙ ap (λ (s : State). pass_at s old.number) (states_after_one_more (start_state old.clip.size old.clip.land.levels) m.before e);
    }
