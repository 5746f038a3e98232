use Rattle.std.proofs.Common.{◌^◌, subst, sym, rules}
use Rattle.clip_regions.specs.declared.region.Region.{Region}
use Rattle.clip_regions.specs.Regions.{IsWithin}
use Rattle.plan_model.specs.Sound.{IsInside}
use Rattle.plan_plain_pieces.specs.Placed.{IsShort}
use Rattle.plan_plain_steps.proofs.Placed.{window_short}
use Rattle.plan_plain_steps.proofs.state.PlainState.window_at.Goals as goal

pub returns-clause-value : goal.returns-clause-value
returns-clause-value c = search rules

pub returns-clause-within : goal.returns-clause-within
returns-clause-within c =
    subst (IsWithin (2 ^ 24)) (sym (returns-clause-value c)) (c.windows_are_near.ensures c.args.self.now.k c.args.level c.args.self.now.x c.args.self.now.y c.requires.sound.size c.requires.sound.viewer.column c.requires.sound.viewer.row)

pub returns-clause-short : goal.returns-clause-short
returns-clause-short c =
    subst IsShort (sym (returns-clause-value c)) (window_short c.args.self.now.k c.args.level c.args.self.now.x c.args.self.now.y c.requires.sound.size.high)

pub returns-clause-some : goal.returns-clause-some
returns-clause-some c =
    subst (λ (r : Region). IsInside r r) (sym (returns-clause-value c)) (c.windows_have_cells.ensures c.args.self.now.k c.args.level c.args.self.now.x c.args.self.now.y)
