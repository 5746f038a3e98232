use Rattle.book_cells.proofs.Claims.{claims_give_jobs}
use Rattle.book_cells.proofs.there.claims_give_jobs.Goals as goal

pub returns : goal.returns
returns c = claims_give_jobs
