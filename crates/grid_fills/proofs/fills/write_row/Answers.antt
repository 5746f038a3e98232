use Rattle.std.proofs.Common.{rules, ◌*◌, ◌+◌, ◌<◌, w16, w32, ◌∙◌, arith}
use Rattle.std.proofs.lemmas.Int.{to_z-of_z}
use Rattle.std.proofs.lemmas.Nat.{mul-add-lt}
use mathlib.Core.Path.{ap₂}
use mir.Val.{SFits}
use Rattle.terrain_model.specs.Terrain.{level_height}
use Rattle.clip_regions.proofs.Numbers.{read_back}
use Rattle.grid_fills.proofs.Filling.{row_more}
use Rattle.grid_fills.proofs.fills.write_row.Goals as goal

pub loop-n-preserved : goal.loop-n-preserved
loop-n-preserved c =
    let s = c.args.cells in
    let i : SFits w32 c.column.result = search rules in
    let j : SFits w32 c.row-j.result = search rules in
    let h : SFits w16 c.height_of.result = search rules in
    let few = s.few in
    let here : c.args.row * s.across + c.loop-n.n < s.across * s.down = mul-add-lt c.args.row s.across c.loop-n.n s.down c.requires.row (omega arith) in
    row_more (level_height c.args.grid.now c.args.level) s.cells s.across c.args.row c.loop-n.n c.loop-n.out _ (omega arith) (omega (arith, here, few)) (to_z-of_z w16 c.height_of.result h ∙ c.height_of.ensures ∙ ap₂ (level_height c.args.grid.now c.args.level) (read_back c.column.result i ∙ c.column.ensures) (read_back c.row-j.result j ∙ c.row-j.ensures)) c.loop-n.invariant
