use Rattle.std.proofs.Common.{ℕ, ◌<◌, List, length, map, get_or, set, refl, ap, sym, ◌∙◌, subst}
use Rattle.std.proofs.lemmas.List.{map-set, get_or-map}
use Rattle.decode_workers.specs.Copies.{CopiesView, LevelCopy, no_copy, copy_in, copy_of, with_copy}
use Rattle.decode_workers.proofs.copies.LevelCopies.level_mut.Goals as goal

pub returns : goal.returns
returns c =
    let fields = c.self.inside in
    let low : c.from.result < length fields.levels.items =
    subst (λ (n : ℕ). c.from.result < n) (sym c.self.invariant.1) (subst (λ (v : CopiesView). c.from.result < length v.actives) (sym c.self.view_is) (subst (λ (n : ℕ). n < length c.args.self.now.actives) (sym c.from.ensures) c.requires.level)) in (
      (
        refl,
        λ w.
            ap (λ (levels : List LevelCopy). record { k = fields.k; actives = fields.actives; levels = levels }) (map-set copy_in fields.levels.items c.from.result w ∙ ap (λ (n : ℕ). set (map copy_in fields.levels.items) n (copy_in w)) c.from.ensures)
            ∙ ap (λ (v : CopiesView). with_copy v c.args.level w) c.self.view_is,
      ),
      record { writes = tt; value = ap copy_in c.index_mut.ensures.value ∙ sym (get_or-map copy_in fields.levels.items c.from.result c.index_mut.result.now no_copy low) ∙ ap (λ (n : ℕ). get_or (map copy_in fields.levels.items) n no_copy) c.from.ensures ∙ ap (λ (v : CopiesView). copy_of v c.args.level) c.self.view_is },
    )
