use denote.Param.Send.{IsSend, sendable, param_send, arg_send}
use Rattle.std.proofs.Crossing.{crosses}
use Rattle.clip_gate.proofs.Crossings.{pass_send, clip_sync}
use Rattle.clip_gate_trials.proofs.Crossings.{store_sync}
use Rattle.clip_gate_trials.proofs.worked.by_thread.Lts as lts
use Rattle.clip_gate_trials.proofs.worked.by_thread.Goals as goal

pub join-pass-requires-send-F : goal.join-pass-requires-send-F
join-pass-requires-send-F g c κs within =
    let taken = lts.arg-0-1 g.row.R g.R.laws g.R.Threads-dict g.R.Wait-dict κs in
    let crossing : IsSend taken = search (sendable, crosses, pass_send, clip_sync, store_sync) depth 60 fits 20000 in
    param_send 1 taken crossing

pub join-pass-requires-send-A : goal.join-pass-requires-send-A
join-pass-requires-send-A g c κs within = search (param_send, arg_send, pass_send)
