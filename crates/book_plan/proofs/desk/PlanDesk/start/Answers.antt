use Rattle.std.proofs.Common.{◌≡◌, List, map, replicate, sym, subst, rules, pos}
use Rattle.std.specs.List.{range_with_len}
use mathlib.Core.Path.{ap₂}
use Rattle.plan_model.specs.States.{Pass}
use Rattle.plan_model.specs.declared.events.Work.TheVariants.{Free}
use Rattle.book_plan.specs.Slots.{Shelf}
use Rattle.book_plan.specs.Desks.{Desk}
use Rattle.book_plan.specs.Starts.{started, HasStarted}
use Rattle.book_plan.proofs.Began.{start_is, start_slots}
use Rattle.book_plan.proofs.desk.PlanDesk.start.Goals as goal

pub returns : goal.returns
returns c =
    let levels : c.in_ok-levels.levels.items ≡ map (started c.args.k) (range_with_len 0 c.args.levels) = search rules in
    let passes : c.in_ok-passes.passes ≡ replicate 16 Free = search rules in
    subst (HasStarted c.args.k c.args.levels) (sym (ap₂ (λ (ls : List Shelf) (ps : List Pass). let d : Desk = record { k = c.args.k; x = pos 0; y = pos 0; altitude = 0; levels = ls; begun = 0; passes = ps } in d) levels passes)) (record { state = start_is c.args.k c.args.levels; slots = start_slots c.args.k c.args.levels })
