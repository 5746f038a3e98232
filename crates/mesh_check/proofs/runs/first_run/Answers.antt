use Rattle.std.proofs.Common.{◌/◌, get_or, arith, refl}
use Rattle.mesh_check.proofs.Fronts.{IsRun, run_from, run_there, run_back, run_others, after_run}
use Rattle.mesh_check.proofs.runs.first_run.Goals as goal

pub returns-else-key-pair-2-clause-there : goal.returns-else-key-pair-2-clause-there
returns-else-key-pair-2-clause-there c =
    let keys = c.args.keys.now in
    let pair = get_or keys 0 0 / 2 in
    let n = c.loop-key.key-index in
    let so_far = c.loop-key.invariant in
    let run : IsRun keys pair c.loop-key.there c.loop-key.back = run_from keys pair n c.loop-key.there c.loop-key.back c.requires.sorted so_far.counted (omega arith) so_far.there so_far.back so_far.front
    (λ h. after_run keys pair n c.requires.sorted h refl c.if-key-pair.false c.if-key-pair-2.false) in
    run_there keys pair c.loop-key.there c.loop-key.back run

pub returns-else-key-pair-2-clause-back : goal.returns-else-key-pair-2-clause-back
returns-else-key-pair-2-clause-back c =
    let keys = c.args.keys.now in
    let pair = get_or keys 0 0 / 2 in
    let n = c.loop-key.key-index in
    let so_far = c.loop-key.invariant in
    let run : IsRun keys pair c.loop-key.there c.loop-key.back = run_from keys pair n c.loop-key.there c.loop-key.back c.requires.sorted so_far.counted (omega arith) so_far.there so_far.back so_far.front
    (λ h. after_run keys pair n c.requires.sorted h refl c.if-key-pair.false c.if-key-pair-2.false) in
    run_back keys pair c.loop-key.there c.loop-key.back run

pub returns-else-key-pair-2-clause-others : goal.returns-else-key-pair-2-clause-others
returns-else-key-pair-2-clause-others c =
    let keys = c.args.keys.now in
    let pair = get_or keys 0 0 / 2 in
    let n = c.loop-key.key-index in
    let so_far = c.loop-key.invariant in
    let run : IsRun keys pair c.loop-key.there c.loop-key.back = run_from keys pair n c.loop-key.there c.loop-key.back c.requires.sorted so_far.counted (omega arith) so_far.there so_far.back so_far.front
    (λ h. after_run keys pair n c.requires.sorted h refl c.if-key-pair.false c.if-key-pair-2.false) in
    λ k h. run_others keys pair c.loop-key.there c.loop-key.back k run h

pub returns-clause-others : goal.returns-clause-others
returns-clause-others c =
    let keys = c.args.keys.now in
    let pair = get_or keys 0 0 / 2 in
    let n = c.loop-key.key-index in
    let so_far = c.loop-key.invariant in
    let run : IsRun keys pair c.loop-key.there c.loop-key.back = run_from keys pair n c.loop-key.there c.loop-key.back c.requires.sorted so_far.counted (omega arith) so_far.there so_far.back so_far.front
    (λ h. absurd (omega arith)) in
    λ k h. run_others keys pair c.loop-key.there c.loop-key.back k run h
