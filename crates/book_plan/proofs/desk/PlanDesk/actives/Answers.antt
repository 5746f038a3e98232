use Rattle.std.proofs.Common.{◌≡◌, ℕ, map, take, length, ap, sym, ◌∙◌, subst, arith}
use mathlib.Core.Path.{ap₂}
use Rattle.active_region.specs.Active.{AreFilled}
use Rattle.plan_model.specs.Actives.{actives}
use Rattle.plan_model.specs.States.{finest_at}
use Rattle.book_plan.specs.Slots.{Shelf}
use Rattle.book_plan.specs.Desks.{Desk, state_of}
use Rattle.book_plan.proofs.Filled.{shelves_filled, regions_are}
use Rattle.book_plan.proofs.desk.PlanDesk.actives.Goals as goal

pub actives-requires-clause-filled : goal.actives-requires-clause-filled
actives-requires-clause-filled c =
    let many : c.len.result ≡ length c.as_slice.result.now = omega (arith, c.len.ensures, c.as_slice.ensures.len) in
    let e : take c.len.result c.filled_regions-filled.result ≡ map (λ (s : Shelf). s.filled) c.self.inside.levels.items = ap (λ (n : ℕ). take n c.filled_regions-filled.result) many ∙ c.filled_regions-filled.ensures ∙ ap (map (λ (s : Shelf). s.filled)) c.as_slice.ensures.value in
    subst (AreFilled c.self.inside.k) (sym e) (subst (λ (d : Desk). AreFilled d.k (map (λ (s : Shelf). s.filled) d.levels)) (sym c.self.view_is) (shelves_filled c.args.self.now c.requires.standing))

pub returns-clause-value : goal.returns-clause-value
returns-clause-value c =
    let many : c.len.result ≡ length c.as_slice.result.now = omega (arith, c.len.ensures, c.as_slice.ensures.len) in
    let e : take c.len.result c.filled_regions-filled.result ≡ map (λ (s : Shelf). s.filled) c.self.inside.levels.items = ap (λ (n : ℕ). take n c.filled_regions-filled.result) many ∙ c.filled_regions-filled.ensures ∙ ap (map (λ (s : Shelf). s.filled)) c.as_slice.ensures.value in
    c.actives.ensures.value ∙ ap₂ (actives c.self.inside.k) c.finest.ensures.value e ∙ ap (λ (d : Desk). actives d.k (finest_at (state_of c.args.self.now)) (map (λ (s : Shelf). s.filled) d.levels)) c.self.view_is ∙ ap (actives c.args.self.now.k (finest_at (state_of c.args.self.now))) (regions_are c.args.self.now)
