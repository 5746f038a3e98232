-- Each event keeps what holds, and so does a legal history.
use Rattle.std.proofs.Common.{ℕ, List, [], ◌∷◌}
use Rattle.plan_model.specs.States.{State, start_state}
use Rattle.plan_model.specs.Steps.{step}
use Rattle.plan_model.specs.Histories.{state_after}
use Rattle.plan_model.specs.declared.events.Event.{Event}
use Rattle.plan_model.specs.declared.events.Event.TheVariants.{Move, Claim, Finish, Publish, Begin, End}
use Rattle.plan_model.specs.declared.events.Entry.{Entry}
use Rattle.plan_holds.specs.Kept.{IsKept}
use Rattle.plan_holds.specs.Laws.{KeptAtTheStart, StepsKeep, HistoriesKeep}
use Rattle.plan_holds.proofs.Places.{Known}
use Rattle.plan_holds.proofs.Core.{Core, core_of, kept_of}
use Rattle.plan_holds.proofs.Passes.{claim_core, begin_core, end_core}
use Rattle.plan_holds.proofs.Levels.{finish_core, publish_core}
use Rattle.plan_holds.proofs.Moves.{move_core}

step_core : Known → (st : State) (p : ℕ) (event : Event) → Core st → Core (step st p event).state
step_core known st p (Move x y a) core = move_core known st x y a core
step_core known st p Claim core = claim_core known st p core
step_core known st p Finish core = finish_core known st p core
step_core known st p (Publish level) core = publish_core known st level core
step_core known st p Begin core = begin_core st p core
step_core known st p End core = end_core st p core

pub steps_keep : Known → StepsKeep
steps_keep known st p event kept = kept_of known (step st p event).state (step_core known st p event (core_of known st kept))

after_keeps : StepsKeep → (st : State) (entries : List Entry) → IsKept st → IsKept (state_after st entries)
unfolding state_after
after_keeps keep st [] kept = kept
after_keeps keep st (e ∷ rest) kept =
    after_keeps keep (step st e.pass e.event).state rest (keep st e.pass e.event kept)

pub histories_keep : StepsKeep → KeptAtTheStart → HistoriesKeep
histories_keep keep start k levels entries size = after_keeps keep (start_state k levels) entries (start k levels size)
