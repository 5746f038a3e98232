-- Lists that are appended one after another.
use Rattle.ring_mesh.proofs.Added.{adds_more, adds_rest, few_front, few_back}
use Rattle.ring_mesh.proofs.laws.parts_add_up.Goals as goal

pub returns-clause-together : goal.returns-clause-together
returns-clause-together c = λ vertices ps qs t t1 t2 p p1 p2 one two. adds_more vertices ps qs t t1 t2 p p1 p2 one two

pub returns-clause-rest : goal.returns-clause-rest
returns-clause-rest c = λ vertices ps qs t t1 t2 p p1 p2 all first. adds_rest vertices ps qs t t1 t2 p p1 p2 all first

pub returns-clause-few_first : goal.returns-clause-few_first
returns-clause-few_first c = λ ps qs n m few. few_front ps qs n m few

pub returns-clause-few_rest : goal.returns-clause-few_rest
returns-clause-few_rest c = λ vertices ps qs t t1 p p1 m first few. few_back ps qs t t1 m first.triangles_are few
