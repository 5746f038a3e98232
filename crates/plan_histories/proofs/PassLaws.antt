-- The laws of what passes have: an event sets at most the part of its own pass.
use Rattle.std.proofs.Common.{◌≡◌, ℕ, zero, suc, ◌==◌, List, [], ◌∷◌, ◌++◌, length, replicate, get_or, set, Option, Some, None, refl, ap, sym, ◌∙◌, subst, arith}
use Rattle.std.proofs.lemmas.Bool.{cond_both}
use Rattle.std.proofs.lemmas.List.{length-set, get_or-set_other}
use Rattle.std.proofs.lemmas.List.Elements.{All-head, All-tail, All-append}
use Rattle.clip_regions.specs.declared.region.Region.{Region}
use Rattle.plan_model.specs.Strips.{first_of}
use Rattle.plan_model.specs.States.{State, Pass, OpenFrame, pass_at, level_at, start_state, job_of, frame_of, has_work}
use Rattle.plan_model.specs.Claims.{Offer, offers, strip_at, unfinished_pieces}
use Rattle.plan_model.specs.Steps.{Step, LevelTile, move_step, claimed, claim_step, finished_job, given_back, finish_step, published, publish_step, held_under, actives_at, frame_begun, begin_step, ended, end_step, step}
use Rattle.plan_model.specs.Histories.{HasNoEntryOf}
use Rattle.plan_model.specs.declared.events.JobNote.{JobNote}
use Rattle.plan_model.specs.declared.events.Event.{Event}
use Rattle.plan_model.specs.declared.events.Event.TheVariants.{Move, Claim, Finish, Publish, Begin, End}
use Rattle.plan_model.specs.declared.events.Entry.{Entry}
use Rattle.plan_model.specs.declared.events.Work.TheVariants.{Free}
use Rattle.plan_histories.specs.Parts.{PassesAreKept, MovesLeaveParts, PublicationsLeaveParts, OthersKeepParts, EntriesOfOthersLeaveParts, NoEntryNoPart, NoEntryInTwo}
use Rattle.plan_histories.proofs.LegalLaws.{after_none, after_first}

pub moves_leave_parts : MovesLeaveParts
unfolding move_step
moves_leave_parts st p x y a = refl

-- the passes after a step are st's
abbrev Leaves : State → Step → Type 0
Leaves st next = next.state.passes ≡ st.passes

leaves_published : (st : State) (level : ℕ) (strip : Option Region) → Leaves st (published st level strip)
leaves_published st level None = refl
leaves_published st level (Some strip) =
    cond_both (length (unfinished_pieces st level) == 0) _ _ (Leaves st) (λ _. refl) (λ _. refl)

pub publications_leave_parts : PublicationsLeaveParts
unfolding publish_step
publications_leave_parts st p level = leaves_published st level (strip_at st level)

-- ---- what is true of a state's passes, and with anything in the place of pass p, is true after an event of p
module _ (P : List Pass → Type 0) (st : State) (p : ℕ) (same : P st.passes) (other : (new : Pass) → P (set st.passes p new)) where
  by_claimed : (offer : Option Offer) → P (claimed st p offer).state.passes
  by_claimed None = same
  by_claimed (Some offer) = other _

  by_claim : P (claim_step st p).state.passes
  unfolding claim_step
  by_claim =
      cond_both (has_work (pass_at st p)) _ _ (λ (next : Step). P next.state.passes) (λ _. same) (λ _. by_claimed (first_of (offers st)))

  by_given_back : (job : Option JobNote) → P (given_back st p job).state.passes
  unfolding finished_job
  by_given_back None = same
  by_given_back (Some job) =
      cond_both (job.plan == (level_at st job.level).plan) _ _ (λ (next : Step). P next.state.passes) (λ _. other Free) (λ _. other Free)

  by_begun : (held : Option LevelTile) → P (frame_begun st p held).state.passes
  by_begun None = other _
  by_begun (Some held) = same

  by_begin : P (begin_step st p).state.passes
  unfolding begin_step
  by_begin =
      cond_both (has_work (pass_at st p)) _ _ (λ (next : Step). P next.state.passes) (λ _. same) (λ _. by_begun (first_of (held_under st (actives_at st))))

  by_ended : (frame : Option OpenFrame) → P (ended st p frame).state.passes
  by_ended None = same
  by_ended (Some frame) = other Free

  pub by_step : (event : Event) → P (step st p event).state.passes
  unfolding finish_step end_step
  by_step (Move x y a) = subst P (sym (moves_leave_parts st p x y a)) same
  by_step Claim = by_claim
  by_step Finish = by_given_back (job_of (pass_at st p))
  by_step (Publish level) = subst P (sym (publications_leave_parts st p level)) same
  by_step Begin = by_begin
  by_step End = by_ended (frame_of (pass_at st p))

pub passes_are_kept : PassesAreKept
passes_are_kept st p event =
    by_step (λ (ps : List Pass). length ps ≡ length st.passes) st p refl (λ (new : Pass). length-set st.passes p new) event

pub others_keep_parts : OthersKeepParts
others_keep_parts st p q event apart =
    by_step (λ (ps : List Pass). get_or ps q Free ≡ get_or st.passes q Free) st p refl (λ (new : Pass). get_or-set_other st.passes p q new Free (λ (e : q ≡ p). apart (sym e))) event

pub entries_of_others_leave_parts : EntriesOfOthersLeaveParts
entries_of_others_leave_parts st [] p h = ap (λ (s : State). pass_at s p) (after_none st)
entries_of_others_leave_parts st (e ∷ rest) p h =
    ap (λ (s : State). pass_at s p) (after_first st e rest) ∙ entries_of_others_leave_parts (step st e.pass e.event).state rest p (All-tail (λ (entry : Entry). ¬ (entry.pass ≡ p)) e rest h) ∙ others_keep_parts st e.pass p e.event (All-head (λ (entry : Entry). ¬ (entry.pass ≡ p)) e rest h)

unfoldable pub no_work : Pass
no_work = Free

pub all_free : (n p : ℕ) → get_or (replicate n no_work) p no_work ≡ no_work
all_free zero p = refl
all_free (suc n) zero = refl
all_free (suc n) (suc p) = all_free n p

free_at_start : (k levels p : ℕ) → pass_at (start_state k levels) p ≡ Free
unfolding start_state no_work
free_at_start k levels p = all_free 16 p

pub no_entry_no_part : NoEntryNoPart
no_entry_no_part k levels entries p h = entries_of_others_leave_parts (start_state k levels) entries p h ∙ free_at_start k levels p

no_entry_first : (p : ℕ) (first second : List Entry) → HasNoEntryOf p (first ++ second) → HasNoEntryOf p first
no_entry_first p [] second h k d inside = absurd (omega arith)
no_entry_first p (e ∷ first) second h zero d inside = h zero d (omega arith)
no_entry_first p (e ∷ first) second h (suc k) d inside =
    no_entry_first p first second (All-tail (λ (entry : Entry). ¬ (entry.pass ≡ p)) e (first ++ second) h) k d (omega arith)

no_entry_second : (p : ℕ) (first second : List Entry) → HasNoEntryOf p (first ++ second) → HasNoEntryOf p second
no_entry_second p [] second h = h
no_entry_second p (e ∷ first) second h =
    no_entry_second p first second (All-tail (λ (entry : Entry). ¬ (entry.pass ≡ p)) e (first ++ second) h)

pub no_entry_in_two : NoEntryInTwo
no_entry_in_two p first second =
    (λ (h : HasNoEntryOf p (first ++ second)). (no_entry_first p first second h, no_entry_second p first second h), λ (h : HasNoEntryOf p first × HasNoEntryOf p second). All-append (λ (entry : Entry). ¬ (entry.pass ≡ p)) first second h.0 h.1)
