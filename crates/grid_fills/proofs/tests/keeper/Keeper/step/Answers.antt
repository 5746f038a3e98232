use Rattle.std.proofs.Common.{◌≡◌, ◌++◌, List, Option, length, take, drop, sym, subst, arith}
use Rattle.clip_book.specs.Jobs.{JobView}
use Rattle.grid_fills.specs.Holding.{AreKept}
use Rattle.grid_fills.proofs.Holding.{next_kept, buffer_is}
use Rattle.grid_fills.proofs.tests.keeper.Keeper.step.Goals as goal

pub invariant_of-self : goal.invariant_of-self
invariant_of-self g c =
    let old = c.self.inside.jobs in
    let new = c.take.new.jobs in
    let jobs : take old.len (new ++ drop (length new) old.items) ≡ new = buffer_is old.len new (drop (length new) old.items) (omega (arith, old.ok.0, c.self.invariant.many, c.take.ensures.many)) in
    subst (λ (js : List (Option JobView)). AreKept (record { terrain = c.self.inside.grid; book = c.take.new.book; jobs = js })) (sym jobs) (next_kept c.self.inside.grid c.self.inside.book c.take.new.book old.items new c.self.invariant c.take.ensures.land c.take.ensures.many c.take.ensures.jobs)
