use Rattle.run_laws.proofs.Waits.{busy_waits}
use Rattle.run_laws.proofs.laws.busy_claims_wait_for_frames.Goals as goal

pub returns : goal.returns
returns c = record { claims = busy_waits }
