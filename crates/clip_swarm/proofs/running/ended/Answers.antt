use Rattle.std.proofs.Common.{◌≡◌, ◌+◌, ◌≤◌, List, length, refl, sym, subst, arith}
use Rattle.plan_model.specs.declared.events.Entry.{Entry}
use Rattle.clip_gate.specs.Passes.{HasAllNumbers}
use Rattle.swarm_laws.specs.Runs.{IsSwarmRun, IsCutRun}
use Rattle.swarm_passes.specs.Frames.{AreFramesOf}
use Rattle.swarm_passes.specs.Laws.{GatheredPassesAreRuns, IsRunOf}
use Rattle.clip_swarm.specs.Playing.{asked_of, passes_of}
use Rattle.clip_swarm.proofs.Lands.{short_for}
use Rattle.clip_swarm.specs.declared.crew.Outcome.{Outcome}
use Rattle.clip_swarm.proofs.running.ended.Goals as goal

pub returns-clause-whole : goal.returns-clause-whole
returns-clause-whole c =
    let few : passes_of c.args.crew ≤ 16 = omega arith in
    let all = c.args.all in
    let run = c.gathered_passes_are_runs.ensures (asked_of c.args.script.now c.args.crew) c.args.clip (passes_of c.args.crew) all.pass all.full all.frames.items refl few c.number-number.ensures.sound c.requires.all in
    let journal : c.in-Ok.journal ≡ c.args.all.pass.history = let e = c.in-Ok.ensures.whole run.0 in cc in
    λ e. subst (λ (log : List Entry). IsSwarmRun (asked_of c.args.script.now c.args.crew) log) (sym journal) (run.1.whole e)

pub returns-clause-cut : goal.returns-clause-cut
returns-clause-cut c =
    let few : passes_of c.args.crew ≤ 16 = omega arith in
    let all = c.args.all in
    let run = c.gathered_passes_are_runs.ensures (asked_of c.args.script.now c.args.crew) c.args.clip (passes_of c.args.crew) all.pass all.full all.frames.items refl few c.number-number.ensures.sound c.requires.all in
    let journal : c.in-Ok.journal ≡ c.args.all.pass.history = let e = c.in-Ok.ensures.whole run.0 in cc in
    λ e. subst (λ (log : List Entry). IsCutRun (asked_of c.args.script.now c.args.crew) log) (sym journal) (run.1.cut e)

pub returns-clause-long : goal.returns-clause-long
returns-clause-long c =
    let few : passes_of c.args.crew ≤ 16 = omega arith in
    let all = c.args.all in
    let run = c.gathered_passes_are_runs.ensures (asked_of c.args.script.now c.args.crew) c.args.clip (passes_of c.args.crew) all.pass all.full all.frames.items refl few c.number-number.ensures.sound c.requires.all in
    let journal : c.in-Ok.journal ≡ c.args.all.pass.history = let e = c.in-Ok.ensures.whole run.0 in cc in
    λ e. subst (λ (log : List Entry). 1048575 ≤ length log) (sym journal) (run.1.long e)

pub returns-clause-frames : goal.returns-clause-frames
returns-clause-frames c =
    let few : passes_of c.args.crew ≤ 16 = omega arith in
    let all = c.args.all in
    let run = c.gathered_passes_are_runs.ensures (asked_of c.args.script.now c.args.crew) c.args.clip (passes_of c.args.crew) all.pass all.full all.frames.items refl few c.number-number.ensures.sound c.requires.all in
    let journal : c.in-Ok.journal ≡ c.args.all.pass.history = let e = c.in-Ok.ensures.whole run.0 in cc in
    subst (λ (log : List Entry). AreFramesOf c.args.clip.land.terrain c.args.clip.size c.args.clip.land.levels log c.sorted-frames.result.items) (sym journal)
    (run.1.closed c.sorted-frames.result.items c.sorted-frames.ensures.rising c.sorted-frames.ensures.same)

pub returns-clause-short : goal.returns-clause-short
returns-clause-short c =
    let few : passes_of c.args.crew ≤ 16 = omega arith in
    let all = c.args.all in
    let run = c.gathered_passes_are_runs.ensures (asked_of c.args.script.now c.args.crew) c.args.clip (passes_of c.args.crew) all.pass all.full all.frames.items refl few c.number-number.ensures.sound c.requires.all in
    let journal : c.in-Ok.journal ≡ c.args.all.pass.history = let e = c.in-Ok.ensures.whole run.0 in cc in
    let short = c.number-number.ensures.sound.short in
    subst (λ (log : List Entry). length log ≤ 1048576) (sym journal) (short_for all.pass.clip.size all.pass.clip.land.levels all.pass.history short)
