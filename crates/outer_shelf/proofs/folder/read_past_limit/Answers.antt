use Rattle.std.proofs.Common.{◌≡◌, ◌++◌, ◌+◌, ◌≤◌, take, length, ℕ, ap, ◌∙◌, arith}
use Rattle.std.proofs.lemmas.List.{length-append, length-take, take-append-le}
use Rattle.outer_shelf.specs.Counts.{one_more}
use Rattle.outer_shelf.proofs.Fronts.{taken_more, takes_front}
use Rattle.outer_shelf.proofs.folder.read_past_limit.Goals as goal

pub returns-in_err-extend_from_slice-clause-taken :
    goal.returns-in_err-extend_from_slice-clause-taken
returns-in_err-extend_from_slice-clause-taken g c =
    let few : length c.loop.bytes.items + c.in_ok-count.count ≤ one_more c.args.limit = omega (arith, length-take {A = ℕ}, c.read_some.auto.chunk, c.in_ok-count.ensures.within) in
    takes_front _ _ _ c.loop.bytes.items c.read_some.new.chunk c.in_ok-count.count (one_more c.args.limit) c.loop.invariant.taken c.in_ok-count.ensures.taken few

pub loop-preserved : goal.loop-preserved
loop-preserved g c =
    let few : length c.loop.bytes.items + c.in_ok-count.count ≤ c.saturating_add-most.result = omega (arith, length-take {A = ℕ}, c.read_some.auto.chunk, c.in_ok-count.ensures.within) in
    let is : c.extend_from_slice.new.self.items ≡ c.loop.bytes.items ++ take c.in_ok-count.count c.read_some.new.chunk =
    c.in_ok-extend_from_slice.ensures.items ∙ ap (λ l. c.loop.bytes.items ++ l) (take-append-le c.in_ok-count.count c.read_some.new.chunk _ c.in_ok-count.ensures.within) in
    record {
      few = omega (arith, ap length is, length-append {A = ℕ}, length-take {A = ℕ}, few);
      taken = taken_more _ _ _ c.loop.bytes.items c.read_some.new.chunk _ c.in_ok-count.count c.loop.invariant.taken c.in_ok-count.ensures.taken is;
    }
