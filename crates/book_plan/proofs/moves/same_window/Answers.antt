use Rattle.std.proofs.Common.{◌≡◌, ◌∙◌, rules}
use mathlib.Core.Path.{ap₂}
use Rattle.plan_model.specs.Window.{window}
use Rattle.plan_model.specs.States.{same_region}
use Rattle.book_plan.proofs.moves.same_window.Goals as goal

pub returns : goal.returns
returns c =
    let before : c.window-before.result ≡ window c.args.k c.args.level c.args.from.x c.args.from.y = search rules in
    let after : c.window-after.result ≡ window c.args.k c.args.level c.args.to.x c.args.to.y = search rules in
    record { value = c.same_region.ensures.value ∙ ap₂ same_region before after }
