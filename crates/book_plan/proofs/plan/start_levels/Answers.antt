use Rattle.std.proofs.Common.{◌≡◌, ◌++◌, ◌∷◌, [], List, ap, sym, ◌∙◌, arith, rules}
use Rattle.std.proofs.lemmas.List.FromFn.{map-range_with_len_more}
use Rattle.book_plan.specs.Slots.{Shelf}
use Rattle.book_plan.specs.Starts.{started}
use Rattle.book_plan.proofs.plan.start_levels.Goals as goal

pub loop-l-preserved : goal.loop-l-preserved
loop-l-preserved c =
    let more : c.push.new.self.items ≡ c.loop-l.out.items ++ started c.args.k c.loop-l.l ∷ [] = search rules in
    more ∙ ap (λ (xs : List Shelf). xs ++ started c.args.k c.loop-l.l ∷ []) c.loop-l.invariant ∙ sym (map-range_with_len_more (started c.args.k) 0 c.loop-l.l c.loop-l.l (omega arith))
