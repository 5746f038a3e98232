use Rattle.std.proofs.Common.{◌≡◌, ◌+◌, Bool, ◌||◌, List, ◌++◌, sym, ap, ◌∙◌, subst}
use Rattle.swarm_passes.specs.Frames.{FrameView}
use Rattle.swarm_passes.specs.Playing.{GatheredBy}
use Rattle.swarm_passes.proofs.Gathered.{gathered_more}
use Rattle.clip_swarm.specs.Playing.{asked_of, passes_of}
use Rattle.clip_swarm.proofs.gathering.take.Goals as goal
use Rattle.clip_swarm.proofs.gathering.take.Goals.{then-all, else-all}

pub returns : goal.returns
returns g c =
    let orders = asked_of c.args.script.now c.args.crew in
    let clip = c.args.clip.now in
    let all = c.args.all.now in
    let other = c.args.other in
    let full : c.if-all.all ≡ c.args.all.now.full || c.args.other.full = elim c.if-all.branch as (λ _. c.if-all.all ≡ c.args.all.now.full || c.args.other.full) [
      | then-all w ↦ w.all-is ∙ w.if-all.true ∙ sym (ap (λ (b : Bool). b || c.args.other.full) w.if-all.true)
      | else-all w ↦ w.all-is ∙ sym (ap (λ (b : Bool). b || c.args.other.full) w.if-all.false)
    ] in
    subst (λ (frames : List FrameView). GatheredBy orders clip (passes_of c.args.crew) (c.args.number + 1) c.join.new.pass c.if-all.all frames) (sym c.in_ok-append.ensures.items)
    (subst (λ (b : Bool). GatheredBy orders clip (passes_of c.args.crew) (c.args.number + 1) c.join.new.pass b (all.frames.items ++ other.frames.items)) (sym full)
    (gathered_more orders clip (passes_of c.args.crew) c.args.number all.pass other.pass c.join.new.pass all.full other.full all.frames.items other.frames.items c.requires.all c.requires.other c.join.ensures.joined c.number-number.ensures.sound.own))
