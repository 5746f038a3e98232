-- The frame that a beginning gives.
use Rattle.std.proofs.Common.{◌≡◌, ℕ, ◌<◌, List, ◌∷◌, [], ◌++◌, length, sym, ap, ◌∙◌, subst}
use Rattle.plan_model.specs.States.{State, Pass, start_state, pass_at, frame_of}
use Rattle.plan_model.specs.Steps.{step}
use Rattle.plan_model.specs.Histories.{IsLegalHistory, state_of_history}
use Rattle.plan_model.specs.declared.events.Event.TheVariants.{Begin}
use Rattle.plan_model.specs.declared.events.Answer.{Answer}
use Rattle.plan_model.specs.declared.events.Answer.TheVariants.{Frame}
use Rattle.plan_model.specs.declared.events.Entry.{Entry}
use Rattle.plan_model.specs.declared.events.Work.TheVariants.{Free}
use Rattle.plan_histories.proofs.LegalLaws.{legal_with_one_more, states_after_one_more}
use Rattle.gate_rule.specs.Rule.{Ground, state_in}
use Rattle.gate_rule.proofs.Moved.{sixteen_passes}
use Rattle.gate_rule.proofs.Seats.{part_since}
use Rattle.clip_gate.specs.Passes.{ClipView, ground_of_clip, part_of}
use Rattle.swarm_laws.specs.Turns.{IsAfterBegin}
use Rattle.swarm_laws.proofs.Turns.{begin_of_free}
use Rattle.clip_frames.specs.Beginnings.{FramesAreThoseOfTheirBeginning}

pub begun : FramesAreThoseOfTheirBeginning
begun number old new sound free m =
    let g : Ground = ground_of_clip old.clip in
    let e : Entry = record { pass = old.number; event = Begin; answer = Frame number } in
    let st : State = state_in g m.before in
    let low : old.number < length (state_in g m.before).passes = subst (λ (n : ℕ). old.number < n) (sym (sixteen_passes g m.before)) sound.low in
    let idle : pass_at (state_in g m.before) old.number ≡ Free = part_since g old.numbers old.history m.before old.number m.waited sound.own ∙ free in
    let legal : IsLegalHistory old.clip.size old.clip.land.levels (m.before ++ e ∷ []) = subst (λ (l : List Entry). IsLegalHistory old.clip.size old.clip.land.levels l) m.made m.legal in
    let answered : (step (state_of_history old.clip.size old.clip.land.levels m.before) old.number Begin).answer ≡ Frame number = ((legal_with_one_more (start_state old.clip.size old.clip.land.levels) m.before e).0 legal).1.2 in
    let after : IsAfterBegin (state_in g m.before) (pass_at (step (state_in g m.before) old.number Begin).state old.number) (Frame number) =
    subst (λ (a : Answer). IsAfterBegin (state_in g m.before) (pass_at (step (state_in g m.before) old.number Begin).state old.number) a) answered (begin_of_free (state_in g m.before) old.number low idle) in
    let part : part_of new ≡ pass_at (step (state_in g m.before) old.number Begin).state old.number =
    ap (λ (c : ClipView). pass_at (state_in (ground_of_clip c) new.history) new.number) m.same.clip
    ∙ ap (λ (n : ℕ). pass_at (state_in g new.history) n) m.same.number
    ∙ ap (λ (l : List Entry). pass_at (state_in g l) old.number) m.made
    ∙ ap (λ (s : State). pass_at s old.number) (states_after_one_more (start_state old.clip.size old.clip.land.levels) m.before e) in
    ap (λ (w : Pass). frame_of w) part ∙ after
