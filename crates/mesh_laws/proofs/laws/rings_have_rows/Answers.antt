-- A row's cells, where the hole is tested for each.
use Rattle.mesh_laws.proofs.Runs.{rows_are, whole_run, cut_row}
use Rattle.mesh_laws.proofs.laws.rings_have_rows.Goals as goal

pub returns-clause-rows : goal.returns-clause-rows
returns-clause-rows c = λ finer active. rows_are finer active

pub returns-clause-whole : goal.returns-clause-whole
returns-clause-whole c = λ gap active j has away. whole_run gap active j away

pub returns-clause-cut : goal.returns-clause-cut
returns-clause-cut c = λ gap active j has there. cut_row gap active j has there
