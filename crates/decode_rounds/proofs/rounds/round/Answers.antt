-- Each part's results are those of its tasks, so all results are those of all tasks.
use Rattle.std.proofs.Common.{rules, List, slice_index_or, flat_map, All, IsOk, subst, sym}
use Rattle.std.specs.List.{AllZip}
use Rattle.std.proofs.lemmas.List.Elements.{recursion_from_All}
use Rattle.std.proofs.lemmas.Result.{IfOk-weaker}
use Rattle.decode_rounds.specs.declared.tasks.Task.{Task}
use Rattle.decode_rounds.specs.declared.tasks.Done.{Done}
use Rattle.decode_rounds.specs.declared.parts.Part.{Part}
use Rattle.decode_rounds.specs.Rounds.{IsTaskOf, IsDoneOf}
use Rattle.decode_rounds.specs.Parts.{tasks_in}
use Rattle.decode_rounds.proofs.Zipped.{zipped, in_part, Works, all_work}
use Rattle.decode_rounds.proofs.rounds.round.Goals as goal

pub map_vec-requires-after_bounds : goal.map_vec-requires-after_bounds
map_vec-requires-after_bounds g c κs within =
    let P = IsTaskOf c.args.book.now in
    let parts = c.in_ok-parts.parts.items in
    let all = subst (λ (tasks : List Task). All P tasks) (sym c.in_ok-parts.ensures) c.requires.tasks in
    λ i x low is. (c.requires.names, in_part P parts i x all low is)

pub returns : goal.returns
returns g c =
    let R = IsDoneOf c.args.book.now in
    let parts = c.in_ok-parts.parts.items in
    let rs = c.in_ok-done.done.items in
    let works = zipped (Works R) parts rs (search rules) (λ i d e low.
    let one = (c.in_ok-done.ensures.each i e low).1 in
    subst (λ (part : Part). Works R part (slice_index_or rs i e)) (sym (one.job_is d)) one.call.met) in
    record {
      results = IfOk-weaker c.joined.result _ _ (λ all joins.
          subst (λ (tasks : List Task). AllZip R tasks all.items) c.in_ok-parts.ensures
          (subst (λ (items : List Done). AllZip R (flat_map tasks_in parts) items) (sym joins.1) (all_work R parts rs works (recursion_from_All IsOk rs joins.0)))) c.joined.ensures;
    }
