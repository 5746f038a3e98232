use Rattle.std.proofs.Common.{◌≡◌, inr, refl, ap, sym, ◌∙◌, Err}
use Rattle.std.proofs.lemmas.Result.{err_from_is_err_and}
use Rattle.clip_script.specs.Lines.{lines}
use Rattle.clip_script.specs.Reading.{opened, opened_as, all_said, go_on, bad_line}
use Rattle.clip_script.specs.Scripts.{swarm_of, work_after, swarm_after, with_moves, move_of, size_of, work_of}
use Rattle.clip_script.proofs.Stops.{many_lines, few_lines, stop_on, fault_of}
use Rattle.clip_script.proofs.swarm.read_swarm.Goals as goal

pub returns-in_err-count_lines-clause-fault : goal.returns-in_err-count_lines-clause-fault
unfolding swarm_of
returns-in_err-count_lines-clause-fault c =
    let text = c.args.bytes.now in
    let p = err_from_is_err_and c.from_residual.result c.from_residual.ensures.1 in
    rw (p.1, p.2) (inr (many_lines (λ lines. go_on work_after (opened size_of 0 lines)) text c.in_err-count_lines.ensures.over ∙ ap Err (sym c.in_err-count_lines.ensures.many)))

pub returns-in_err-size-clause-fault : goal.returns-in_err-size-clause-fault
unfolding swarm_of
returns-in_err-size-clause-fault c =
    let text = c.args.bytes.now in
    let read = opened size_of 0 (lines text) in
    let few = few_lines (λ lines. go_on work_after (opened size_of 0 lines)) text c.in_ok-count_lines.ensures.few in
    let p = err_from_is_err_and c.from_residual-in_err-size.result c.from_residual-in_err-size.ensures.1 in
    rw (p.1, p.2) (fault_of (swarm_of text) (go_on work_after read) _ few
    (stop_on work_after (go_on work_after read) read _ refl c.in_err-size.ensures.stop))

pub returns-in_err-work-clause-fault : goal.returns-in_err-work-clause-fault
unfolding swarm_of
returns-in_err-work-clause-fault c =
    let text = c.args.bytes.now in
    let size = opened_as c.in_ok-size.size in
    let read = go_on work_after (opened size_of 0 (lines text)) in
    let few = few_lines (λ lines. go_on work_after (opened size_of 0 lines)) text c.in_ok-count_lines.ensures.few in
    let is : read ≡ work_after size = ap (go_on work_after) c.in_ok-size.ensures.said in
    let p = err_from_is_err_and c.from_residual-in_err-work.result c.from_residual-in_err-work.ensures.1 in
    rw (p.1, p.2) (fault_of (swarm_of text) read _ few
    (stop_on (swarm_after size.said) read (opened work_of size.before size.rest) _ is c.in_err-work.ensures.stop))

pub returns-in_err-moves-clause-fault : goal.returns-in_err-moves-clause-fault
unfolding swarm_of
returns-in_err-moves-clause-fault c =
    let text = c.args.bytes.now in
    let size = opened_as c.in_ok-size.size in
    let work = opened_as c.in_ok-work.work in
    let read = go_on work_after (opened size_of 0 (lines text)) in
    let few = few_lines (λ lines. go_on work_after (opened size_of 0 lines)) text c.in_ok-count_lines.ensures.few in
    let is : read ≡ swarm_after size.said work =
    ap (go_on work_after) c.in_ok-size.ensures.said ∙ ap (go_on (swarm_after size.said)) c.in_ok-work.ensures.said in
    let p = err_from_is_err_and c.from_residual-in_err-moves.result c.from_residual-in_err-moves.ensures.1 in
    rw (p.1, p.2) (fault_of (swarm_of text) read _ few
    (stop_on (with_moves size.said work) read (all_said move_of work.before work.rest) _ is c.in_err-moves.ensures.stop))

pub returns-clause-script : goal.returns-clause-script
unfolding swarm_of
returns-clause-script c =
    let text = c.args.bytes.now in
    let size = opened_as c.in_ok-size.size in
    let work = opened_as c.in_ok-work.work in
    let few = few_lines (λ lines. go_on work_after (opened size_of 0 lines)) text c.in_ok-count_lines.ensures.few in
    few ∙ ap (λ read. bad_line (go_on work_after read)) c.in_ok-size.ensures.said
    ∙ ap (λ read. bad_line (go_on (swarm_after size.said) read)) c.in_ok-work.ensures.said
    ∙ ap (λ moves. bad_line (go_on (with_moves size.said work) moves)) c.in_ok-moves.ensures.said
