use Rattle.std.proofs.Common.{ap, ◌∙◌}
use Rattle.std.proofs.lemmas.List.{get_or_default}
use Rattle.plan_model.specs.States.{Level, empty_level}
use Rattle.plan_plain_steps.proofs.finished.filled_of.Goals as goal

pub returns : goal.returns
returns c = record {
  value = c.filled.ensures.value ∙ ap (λ (level : Level). level.filled) (c.index-levels-level.is ∙ get_or_default c.args.levels.now c.args.level c.index-levels-level.result empty_level c.requires);
}
