use Rattle.std.proofs.Common.{◌≡◌, ◌^◌, ◌++◌, ◌∙◌, drop, replicate, sym, arith}
use Rattle.std.proofs.lemmas.List.Elements.{All-same}
use Rattle.std.proofs.lemmas.Grind.{common_steps}
use Rattle.clip_regions.specs.Regions.{empty_region, IsWithin}
use Rattle.plan_model.specs.Actives.{filled_from}
use Rattle.plan_plain_pieces.proofs.Drawn.{filled_from_is, filled_from_within}
use Rattle.plan_plain_pieces.proofs.active_regions.filled_from.Goals as goal

pub returns-clause-value : goal.returns-clause-value
returns-clause-value c =
    let e : c.extend_from_slice.new.self.items ≡ replicate c.args.finest empty_region ++ drop c.args.finest c.args.filled.now = grind (arith, common_steps) in
    e ∙ sym (filled_from_is c.args.finest c.args.filled.now (omega arith))

pub returns-clause-within : goal.returns-clause-within
returns-clause-within c =
    All-same (IsWithin (2 ^ 24)) c.extend_from_slice.new.self.items (filled_from c.args.finest c.args.filled.now) (returns-clause-value c) (filled_from_within (2 ^ 24) c.args.finest c.args.filled.now (omega arith) c.requires.filled)
