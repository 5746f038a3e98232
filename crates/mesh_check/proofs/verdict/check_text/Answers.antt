use Rattle.mesh_check.proofs.Verdicts.{verdict_read, verdict_stopped}
use Rattle.mesh_check.proofs.verdict.check_text.Goals as goal

pub returns-in-Ok : goal.returns-in-Ok
returns-in-Ok c = record { verdict = verdict_read c.args.bytes.now c.in-Ok.lists c.lists_verdict.result c.in-Ok.ensures.lists c.lists_verdict.ensures.verdict }

pub returns-in-Err : goal.returns-in-Err
returns-in-Err c = record { verdict = verdict_stopped c.args.bytes.now c.fault_verdict.result (c.fault_verdict.ensures.verdict _ c.in-Err.ensures.lists) }
