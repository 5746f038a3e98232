use mir.Val.{to_z, of_z}
use Rattle.std.specs.Int.{w32}
use Rattle.std.proofs.Common.{◌≡◌, subst, arith, rules}
use Rattle.plan_model.specs.Limits.{IsLevelCount, IsViewer}
use Rattle.terrain_store.specs.Shapes.{Land}
use Rattle.clip_runs.specs.Settles.{IsFilledFor}
use Rattle.clip_runs.proofs.Wholes.{filled_for, moved_at_rest, none_begun, none_moved}
use Rattle.clip_runs.proofs.single.fill_whole.Goals as goal

pub take-requires-clause-begun : goal.take-requires-clause-begun
take-requires-clause-begun g c =
    let none : c.in_ok-desk.desk.plan.state.begun ≡ 0 = none_begun c.args.k c.shape-shape.result c.in_ok-desk.desk c.in_ok-desk.ensures.plan in
    omega (arith, none)

pub settle-requires-clause-begun : goal.settle-requires-clause-begun
settle-requires-clause-begun g c =
    let none : c.take.new.self.plan.state.begun ≡ 0 = none_moved c.args.k _ _ c.shape-shape.result _ c.in_ok-desk.desk c.take.new.self c.in_ok-desk.ensures.plan c.take.ensures.takes in
    omega (arith, none)

pub settle-requires-clause-rest : goal.settle-requires-clause-rest
settle-requires-clause-rest g c =
    let x : to_z w32 (of_z w32 c.args.x) ≡ c.args.x = search rules in
    let y : to_z w32 (of_z w32 c.args.y) ≡ c.args.y = search rules in
    let takes = simp (x, y) at c.take.ensures.takes in
    let many : IsLevelCount c.shape-shape.result.levels = record { low = c.levels.ensures.named.some_levels; high = c.levels.ensures.named.few_levels } in
    let viewer : IsViewer c.args.x c.args.y 0 = record { column = c.requires.column; row = c.requires.row; altitude = omega arith } in
    moved_at_rest c.flights_end_at_rest.ensures c.args.k c.args.x c.args.y c.shape-shape.result _ c.in_ok-desk.desk c.take.new.self c.requires.size many viewer c.in_ok-desk.ensures.plan takes

pub returns : goal.returns
returns g c =
    let x : to_z w32 (of_z w32 c.args.x) ≡ c.args.x = search rules in
    let y : to_z w32 (of_z w32 c.args.y) ≡ c.args.y = search rules in
    let takes = simp (x, y) at c.take.ensures.takes in
    let many : IsLevelCount c.shape-shape.result.levels = record { low = c.levels.ensures.named.some_levels; high = c.levels.ensures.named.few_levels } in
    let viewer : IsViewer c.args.x c.args.y 0 = record { column = c.requires.column; row = c.requires.row; altitude = omega arith } in
    record {
      filled =
          subst (λ (l : Land). IsFilledFor c.args.k c.args.x c.args.y l c.settle.new.desk) c.shape-shape.ensures.names
          (filled_for c.flights_end_at_rest.ensures c.steps_go_on.ensures c.args.k c.args.x c.args.y c.shape-shape.result _ c.in_ok-desk.desk c.take.new.self c.settle.new.desk c.requires.size many viewer
          c.in_ok-desk.ensures.plan c.in_ok-desk.ensures.land takes c.settle.ensures.rest c.settle.ensures.settled c.settle.ensures.alike c.settle.ensures.stays);
    }
