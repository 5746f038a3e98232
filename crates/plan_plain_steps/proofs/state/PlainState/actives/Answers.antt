use Rattle.std.proofs.Common.{◌≡◌, ◌^◌, subst, sym, rules}
use Rattle.std.specs.List.{All}
use Rattle.std.proofs.lemmas.List.Elements.{All-get_or}
use Rattle.clip_regions.specs.Regions.{IsWithin}
use Rattle.plan_model.specs.States.{filled_regions}
use Rattle.plan_plain_steps.proofs.state.PlainState.actives.Goals as goal

pub actives-requires-clause-filled : goal.actives-requires-clause-filled
actives-requires-clause-filled c =
    let e : c.as_slice-2.result.now ≡ filled_regions c.args.self.now = search rules in
    let all : All (IsWithin (2 ^ 24)) c.as_slice-2.result.now = subst (All (IsWithin (2 ^ 24))) (sym e) (c.filled_regions_are_near.ensures (2 ^ 63) c.args.self.now c.requires) in
    λ k d h. All-get_or (IsWithin (2 ^ 24)) c.as_slice-2.result.now k d h all
