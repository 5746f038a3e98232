use Rattle.std.proofs.Common.{◌≡◌, Option, IfSome, subst}
use Rattle.outer_shelf.specs.Outside.{Files}
use Rattle.clipmap_words.specs.Swarm.{SwarmView}
use Rattle.swarm_runs.specs.Products.{Product, Ends}
use Rattle.clipmap_prog.specs.Faults.{Words}
use Rattle.clipmap_prog.specs.Stores.{IsVerdictOn, Verdict}
use Rattle.clipmap_prog.specs.Swarm.{SwarmEnds, inputs_of, refusal}
use Rattle.clipmap_prog.proofs.Fetching.{always_some}
use Rattle.clipmap_prog.proofs.Swarming.{refused_ends}
use Rattle.clipmap_prog.proofs.swarm_top.swarm_words.Goals as goal

pub returns-in-Some-clause-ends : goal.returns-in-Some-clause-ends
returns-in-Some-clause-ends g c =
    let s = g.S.Shelf.told c.args.shelf.now in
    let s1 = g.S.Shelf.told c.run_words.new.shelf in
    let k = g.K.Sink.told c.args.out.now in
    let k1 = g.K.Sink.told c.run_words.new.out in
    let Of : Option SwarmView → Type 0 = λ swarm.
    (verdict : Verdict) → IfSome s.files (λ m. IsVerdictOn (inputs_of swarm) m verdict) → SwarmEnds g.S.Shelf.leaves verdict swarm c.run_words.result s s1 k k1 in
    subst Of c.in-Some.ensures.value c.run_words.ensures.ends

pub returns-in-None-clause-ends : goal.returns-in-None-clause-ends
returns-in-None-clause-ends g c = λ verdict right.
    let s = g.S.Shelf.told c.args.shelf.now in
    let k = g.K.Sink.told c.args.out.now in
    let k1 = g.K.Sink.told c.write_fault.new.out in
    let ends = refused_ends g.S.Shelf.leaves 1 Words c.write_fault.result c.ended.result s k k1 c.write_fault.ensures.ends c.write_fault.ensures.calls c.ended.ensures.value in
    let Of : Option SwarmView → Type 0 = λ swarm. SwarmEnds g.S.Shelf.leaves verdict swarm c.ended.result s s k k1 in
    subst Of c.in-None.ensures.value (always_some (λ (f : Files). Ends g.S.Shelf.leaves (λ (product : Product). product ≡ refusal 1 Words) 0 c.ended.result s s k k1) s.files (λ f. ends))
