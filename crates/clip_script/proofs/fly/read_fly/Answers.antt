use Rattle.std.proofs.Common.{◌≡◌, inr, refl, ap, sym, ◌∙◌, Err}
use Rattle.std.proofs.lemmas.Result.{err_from_is_err_and}
use Rattle.clip_script.specs.Lines.{lines}
use Rattle.clip_script.specs.Reading.{opened, opened_as, all_said, go_on, bad_line}
use Rattle.clip_script.specs.Scripts.{flight_of, fly_after, fly_of, with_lines, size_of}
use Rattle.clip_script.proofs.Stops.{many_lines, few_lines, stop_on, fault_of}
use Rattle.clip_script.proofs.fly.read_fly.Goals as goal

pub returns-in_err-count_lines-clause-fault : goal.returns-in_err-count_lines-clause-fault
unfolding flight_of
returns-in_err-count_lines-clause-fault c =
    let text = c.args.bytes.now in
    let p = err_from_is_err_and c.from_residual.result c.from_residual.ensures.1 in
    rw (p.1, p.2) (inr (many_lines (λ lines. go_on fly_after (opened size_of 0 lines)) text c.in_err-count_lines.ensures.over ∙ ap Err (sym c.in_err-count_lines.ensures.many)))

pub returns-in_err-size-clause-fault : goal.returns-in_err-size-clause-fault
unfolding flight_of
returns-in_err-size-clause-fault c =
    let text = c.args.bytes.now in
    let read = opened size_of 0 (lines text) in
    let few = few_lines (λ lines. go_on fly_after (opened size_of 0 lines)) text c.in_ok-count_lines.ensures.few in
    let p = err_from_is_err_and c.from_residual-in_err-size.result c.from_residual-in_err-size.ensures.1 in
    rw (p.1, p.2) (fault_of (flight_of text) (go_on fly_after read) _ few
    (stop_on fly_after (go_on fly_after read) read _ refl c.in_err-size.ensures.stop))

pub returns-in_err-lines-clause-fault : goal.returns-in_err-lines-clause-fault
unfolding flight_of
returns-in_err-lines-clause-fault c =
    let text = c.args.bytes.now in
    let size = opened_as c.in_ok-size.size in
    let read = go_on fly_after (opened size_of 0 (lines text)) in
    let few = few_lines (λ lines. go_on fly_after (opened size_of 0 lines)) text c.in_ok-count_lines.ensures.few in
    let is : read ≡ fly_after size = ap (go_on fly_after) c.in_ok-size.ensures.said in
    let p = err_from_is_err_and c.from_residual-in_err-lines.result c.from_residual-in_err-lines.ensures.1 in
    rw (p.1, p.2) (fault_of (flight_of text) read _ few
    (stop_on (with_lines size) read (all_said fly_of size.before size.rest) _ is c.in_err-lines.ensures.stop))

pub returns-clause-script : goal.returns-clause-script
unfolding flight_of
returns-clause-script c =
    let text = c.args.bytes.now in
    let size = opened_as c.in_ok-size.size in
    let few = few_lines (λ lines. go_on fly_after (opened size_of 0 lines)) text c.in_ok-count_lines.ensures.few in
    few ∙ ap (λ read. bad_line (go_on fly_after read)) c.in_ok-size.ensures.said ∙ ap (λ said. bad_line (go_on (with_lines size) said)) c.in_ok-lines.ensures.said
