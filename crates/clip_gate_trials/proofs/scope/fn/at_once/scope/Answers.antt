use denote.Param.Send.{sendable, param_send, arg_send}
use Rattle.clip_gate.proofs.Crossings.{pass_send, clip_sync}
use Rattle.clip_gate_trials.proofs.Crossings.{store_sync}
use Rattle.clip_gate_trials.proofs.scope.fn.at_once.scope.Goals as goal

pub spawn_with-requires-send-F : goal.spawn_with-requires-send-F
spawn_with-requires-send-F g c κs within = search (sendable, pass_send, clip_sync, store_sync) depth 40 fits 20000

pub spawn_with-requires-send-T : goal.spawn_with-requires-send-T
spawn_with-requires-send-T g c κs within = search (param_send, arg_send, pass_send)
