-- What is true of every book's plan stays true.
use Rattle.std.proofs.Common.{◌≡◌, ℕ, ◌+◌, ◌≤◌, ◌^◌, length, ap, sym, subst, arith}
use Rattle.std.proofs.lemmas.List.{length-map}
use Rattle.plan_model.specs.Limits.{IsLevelCount}
use Rattle.plan_model.specs.States.{State, level_at}
use Rattle.plan_model.specs.Steps.{step}
use Rattle.plan_model.specs.Sound.{IsReady, IsTaken}
use Rattle.plan_model.specs.declared.events.Event.{Event}
use Rattle.plan_sound.specs.Laws.{SoundSteps}
use Rattle.book_plan.specs.Slots.{level_of}
use Rattle.book_plan.specs.Desks.{Desk, state_of, HaveSlots, IsStanding}
use Rattle.book_plan.specs.Books.{adds, IsBook}
use Rattle.book_plan.proofs.Plans.{StaysAt, step_stays, step_counts, opens, still_ready}

pub standing_of : (d : Desk) (moves : ℕ) → IsBook d moves → IsStanding d
standing_of d moves h = record {
  size = h.sound.size;
  many = subst IsLevelCount (length-map d.levels level_of) h.sound.many;
  passes = h.sound.passes;
  viewer = h.sound.viewer;
  sound = h.sound;
  slots = h.slots;
}

pub still_book : SoundSteps → (d new : Desk) (moves p : ℕ) (event : Event) → IsBook d moves → IsTaken (length (state_of d).levels) event → state_of new ≡ (step (state_of d) p event).state → HaveSlots new → moves + adds event ≤ 2 ^ 40 → d.begun + opens event ≤ 2 ^ 40 → IsBook new (moves + adds event)
still_book law d new moves p event h taken e slots few frames =
    let stays : StaysAt (state_of d) (adds event) (step (state_of d) p event).state = step_stays (state_of d) p event in
    let counted : (step (state_of d) p event).state.begun ≤ d.begun + opens event = step_counts (state_of d) p event in
    let begun : new.begun ≡ (step (state_of d) p event).state.begun = ap (λ (s : State). s.begun) e in
    record {
      sound = subst IsReady (sym e) (still_ready law (state_of d) p event moves taken h.sound h.plans h.few_moves h.few_frames);
      slots = slots;
      plans = λ level.
          let raised : (level_at (step (state_of d) p event).state level).plan ≤ (level_at (state_of d) level).plan + adds event = stays.plans level in
          subst (λ (s : State). (level_at s level).plan ≤ moves + adds event) (sym e) (omega (arith, raised, h.plans level));
      few_moves = few;
      few_frames = omega (arith, counted, begun, frames);
    }

-- the same, with the number of moves that the program has
pub still_at : SoundSteps → (d new : Desk) (moves m p : ℕ) (event : Event) → IsBook d moves → IsTaken (length (state_of d).levels) event → state_of new ≡ (step (state_of d) p event).state → HaveSlots new → m ≡ moves + adds event → m ≤ 2 ^ 40 → d.begun + opens event ≤ 2 ^ 40 → IsBook new m
still_at law d new moves m p event h taken e slots same few frames =
    subst (IsBook new) (sym same) (still_book law d new moves p event h taken e slots (omega (arith, same, few)) frames)
