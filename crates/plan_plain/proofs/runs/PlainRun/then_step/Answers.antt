use Rattle.std.proofs.Common.{◌≡◌, ℕ, ◌+◌, length, subst, sym, rules}
use Rattle.plan_model.specs.Histories.{Run}
use Rattle.plan_model.specs.Sound.{IsSound}
use Rattle.plan_plain.specs.SoundRuns.{IsSoundRun}
use Rattle.plan_plain.proofs.runs.PlainRun.then_step.Goals as goal

pub returns-clause-sound : goal.returns-clause-sound
returns-clause-sound c =
    let before : IsSound (length c.self.inside.history.items) c.self.inside.state = subst (λ (run : Run). IsSoundRun run) (sym c.self.view_is) c.requires.sound in
    let longer : length c.push.new.self.items ≡ length c.self.inside.history.items + 1 = search rules in
    subst (λ (n : ℕ). IsSound n c.step.new.self) (sym longer) (c.step.ensures.sound (length c.self.inside.history.items) before)
