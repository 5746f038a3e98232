use Rattle.std.proofs.Common.{Option, ◌^◌, subst, sym, arith}
use Rattle.std.specs.Option.{IfSome}
use Rattle.std.proofs.lemmas.Result.{IfOk-weaker}
use Rattle.clip_regions.specs.declared.region.Region.{Region}
use Rattle.clip_regions.specs.Regions.{IsWithin}
use Rattle.plan_model.specs.States.{window_at, filled_at}
use Rattle.plan_model.specs.Sound.{IsInside, IsFilledPart}
use Rattle.plan_plain_pieces.specs.Placed.{IsShort}
use Rattle.plan_plain_steps.proofs.Placed.{part_near}
use Rattle.plan_plain_steps.proofs.Inside.{strip_within, strip_short, part_of}
use Rattle.plan_plain_steps.proofs.state.PlainState.first_strip.Goals as goal

pub current_strip-requires : goal.current_strip-requires
current_strip-requires c =
    let near : IsWithin (2 ^ 24) (window_at c.args.self.now c.args.level) = subst (IsWithin (2 ^ 24)) c.window_at-window.ensures.value c.window_at-window.ensures.within in
    subst (IsWithin (2 ^ 24)) (sym c.filled_at-filled.ensures.value) (part_near (2 ^ 24) (window_at c.args.self.now c.args.level) (filled_at c.args.self.now c.args.level) (omega arith) near (c.requires.sound.levels c.args.level c.requires.level).filled)

pub returns-clause-within : goal.returns-clause-within
returns-clause-within c =
    let part : IsFilledPart c.window_at-window.result c.filled_at-filled.result = part_of c.window_at-window.result (window_at c.args.self.now c.args.level) c.filled_at-filled.result (filled_at c.args.self.now c.args.level) c.window_at-window.ensures.value c.filled_at-filled.ensures.value (c.requires.sound.levels c.args.level c.requires.level).filled in
    IfOk-weaker c.current_strip.result (λ (strip : Option Region). IfSome strip (IsInside c.window_at-window.result)) (λ (strip : Option Region). IfSome strip (IsWithin (2 ^ 24))) (λ (strip : Option Region) i. strip_within c.window_at-window.result strip c.window_at-window.ensures.within i) (c.current_strip.ensures.inside part c.window_at-window.ensures.some)

pub returns-clause-short : goal.returns-clause-short
returns-clause-short c =
    let part : IsFilledPart c.window_at-window.result c.filled_at-filled.result = part_of c.window_at-window.result (window_at c.args.self.now c.args.level) c.filled_at-filled.result (filled_at c.args.self.now c.args.level) c.window_at-window.ensures.value c.filled_at-filled.ensures.value (c.requires.sound.levels c.args.level c.requires.level).filled in
    IfOk-weaker c.current_strip.result (λ (strip : Option Region). IfSome strip (IsInside c.window_at-window.result)) (λ (strip : Option Region). IfSome strip IsShort) (λ (strip : Option Region) i. strip_short c.window_at-window.result strip c.window_at-window.ensures.short i) (c.current_strip.ensures.inside part c.window_at-window.ensures.some)
