-- Level by level, by how large the regions are and how one lies in the next.
use Rattle.mesh_laws.proofs.Sizes.{first_before, next_linked, next_before, size_of}
use Rattle.mesh_laws.proofs.laws.rings_are_linked.Goals as goal

pub returns-clause-first : goal.returns-clause-first
returns-clause-first c = λ actives. first_before actives

pub returns-clause-linked : goal.returns-clause-linked
returns-clause-linked c = λ actives level finer drawn low before. next_linked actives level finer drawn low before

pub returns-clause-next : goal.returns-clause-next
returns-clause-next c = λ actives level finer drawn low before. next_before actives level finer drawn low before

pub returns-clause-size : goal.returns-clause-size
returns-clause-size c = λ ring is. size_of ring is
