use Rattle.std.proofs.Common.{◌^◌, length, get_or, rules}
use Rattle.std.specs.List.{All}
use Rattle.std.specs.Option.{IfSome}
use Rattle.std.proofs.lemmas.List.Elements.{All-same}
use Rattle.clip_regions.specs.Regions.{IsWithin}
use Rattle.plan_model.specs.States.{OpenFrame, Pass, frame_of}
use Rattle.plan_plain_steps.proofs.Placed.{frame_near}
use Rattle.plan_plain_steps.proofs.state.PlainState.pinner.Goals as goal

abbrev is_near : Pass → Type 0
is_near pass = IfSome (frame_of pass) (λ frame. All (IsWithin (2 ^ 24)) frame.actives)

pub pinner_of-requires-clause-frames : goal.pinner_of-requires-clause-frames
pinner_of-requires-clause-frames c =
    All-same is_near c.as_slice.result.now c.args.self.now.passes (search rules) (λ i d inside. frame_near c.args.self.now.k (length c.args.self.now.levels) (get_or c.args.self.now.passes i d) (λ (frame : OpenFrame) h. c.actives_are_near.ensures c.args.self.now.k (length c.args.self.now.levels) frame c.requires.size h) (c.requires.parts i d inside))
