-- One place more is the column up to the next row, and all are the column.
use Rattle.std.proofs.Common.{◌≡◌, ℕ, map, pos, ◌+ℤ◌, ap, ◌∙◌, arith}
use Rattle.std.specs.List.{range_with_len}
use Rattle.clip_regions.specs.Regions.{rows}
use Rattle.mesh_model.specs.Parts.{corner_place}
use Rattle.mesh_plain.proofs.Borders.{column_is, next_place}
use Rattle.mesh_plain.proofs.stitch_parts.places_in_column.Goals as goal

pub loop-v-preserved : goal.loop-v-preserved
loop-v-preserved c =
    next_place (λ (v : ℕ). corner_place c.args.vertices.now c.args.level (c.args.active.now.x0 +ℤ pos c.args.u) (c.args.active.now.y0 +ℤ pos v)) c.loop-v.v c.place_in.result c.loop-v.places.items c.push.new.self.items c.loop-v.invariant c.in_ok-push.ensures.items c.place_in.ensures

pub returns : goal.returns
returns c =
    let place = λ (v : ℕ). corner_place c.args.vertices.now c.args.level (c.args.active.now.x0 +ℤ pos c.args.u) (c.args.active.now.y0 +ℤ pos v) in
    let all : c.loop-v.v ≡ rows c.args.active.now = omega (arith, c.rows-v-end.ensures.value) in
    c.loop-v.invariant
    ∙ ap (λ (n : ℕ). map place (range_with_len 0 n)) all
    ∙ column_is c.args.vertices.now c.args.level c.args.active.now (c.args.active.now.x0 +ℤ pos c.args.u)
