use denote.Param.Send.{IsSend, IsSync, sendable, param_send, arg_send}
use contract.Lifetimes.{Lfts}
use Rattle.std.proofs.Crossing.{crosses}
use Rattle.clip_gate.proofs.Crossings.{pass_send, clip_sync}
use Rattle.clip_gate_trials.proofs.Crossings.{store_sync}
use Rattle.std.specs.contracts.option.Option as option
use Rattle.clip_gate_trials.specs.contracts.frames.Done as done
use Rattle.clip_gate_trials.specs.contracts.threads.beside as beside
use Rattle.clip_gate_trials.proofs.threads.+beside+fn-beside-mine.Given as given
use Rattle.clip_gate_trials.proofs.threads.+beside+fn-beside-mine.Lts-beside as lts
use Rattle.clip_gate_trials.proofs.threads.+beside+fn-beside-mine.Goals as goal

done_send : IsSend done.the_row
done_send = search (sendable, crosses, pass_send) depth 60 fits 100000

drawn_send : IsSend (option.the_row done.the_row)
drawn_send = search (sendable, done_send) depth 10

taken_send : (g : given.Over) (κs : Lfts 12) → IsSync (beside.R-row g.row.R) → IsSend (lts.arg-6-1 g.row.R g.R.laws g.R.Threads-dict g.R.Wait-dict κs)
taken_send g κs sync = search (sendable, crosses, pass_send, clip_sync, store_sync) depth 60 fits 20000

pub join-theirs-requires-send-F : goal.join-theirs-requires-send-F
join-theirs-requires-send-F g t c κs within =
    let sync : IsSync (beside.R-row g.row.R) = search (sendable, crosses) in
    param_send 1 (lts.arg-6-1 g.row.R g.R.laws g.R.Threads-dict g.R.Wait-dict κs) (taken_send g κs sync)

pub join-theirs-requires-send-A : goal.join-theirs-requires-send-A
join-theirs-requires-send-A g t c κs within = search (param_send, arg_send, drawn_send)
