use Rattle.std.proofs.Common.{◌≡◌, ℕ, List, map, length, get_or, refl, ap, ◌∙◌, rules}
use Rattle.std.specs.List.{range_with_len}
use Rattle.std.specs.Vec.{with_items}
use Rattle.std.proofs.lemmas.List.{with_items_is}
use mir.Syntax.{w32}
use mir.Val.{of_z, to_z}
use Rattle.plan_model.specs.Window.{window}
use Rattle.plan_model.specs.States.{State, Level, empty_level}
use Rattle.plan_model.specs.Steps.{moved_level, move_step}
use Rattle.plan_plain_steps.specs.contracts.state.PlainState.{the_view}
use Rattle.plan_plain_steps.specs.Moves.{stays_for}
use Rattle.plan_plain_steps.specs.declared.moves.Viewer.{Viewer}
use Rattle.plan_plain_steps.proofs.Moved.{moved_state}
use Rattle.plan_plain_steps.proofs.state.PlainState.move_to.Goals as goal

pub returns-clause-state : goal.returns-clause-state
returns-clause-state c =
    let from : Viewer = record { x = to_z w32 (of_z w32 c.self.inside.x); y = to_z w32 (of_z w32 c.self.inside.y); a = c.self.inside.altitude } in
    let to : Viewer = record { x = to_z w32 (of_z w32 c.args.x); y = to_z w32 (of_z w32 c.args.y); a = c.args.a } in
    let x : to_z w32 (of_z w32 c.args.x) ≡ c.args.x = search rules in
    let y : to_z w32 (of_z w32 c.args.y) ≡ c.args.y = search rules in
    let ox : to_z w32 (of_z w32 c.self.inside.x) ≡ c.self.inside.x = search rules in
    let oy : to_z w32 (of_z w32 c.self.inside.y) ≡ c.self.inside.y = search rules in
    let whole : length c.move_levels.new.levels ≡ c.self.inside.levels.len = search rules in
    moved_state (the_view c.self.inside) c.args.x c.args.y c.args.a from to (with_items c.self.inside.levels c.move_levels.new.levels).items ox oy refl x y refl (with_items_is c.self.inside.levels c.move_levels.new.levels whole ∙ c.move_levels.ensures.value ∙ ap (λ (ls : List Level). map (λ (i : ℕ). moved_level (stays_for c.self.inside.k (length ls) from to i) (window c.self.inside.k i to.x to.y) (get_or ls i empty_level)) (range_with_len 0 (length ls))) c.as_mut_slice.ensures.value)
    ∙ ap (λ (st : State). (move_step st c.args.x c.args.y c.args.a).state) c.self.view_is
