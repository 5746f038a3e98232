-- One place more is the row up to the next column, and all are the row.
use Rattle.std.proofs.Common.{◌≡◌, ℕ, map, pos, ◌+ℤ◌, ap, ◌∙◌, arith}
use Rattle.std.specs.List.{range_with_len}
use Rattle.clip_regions.specs.Regions.{columns}
use Rattle.mesh_model.specs.Parts.{corner_place}
use Rattle.mesh_plain.proofs.Borders.{row_is, next_place}
use Rattle.mesh_plain.proofs.stitch_parts.places_in_row.Goals as goal

pub loop-u-preserved : goal.loop-u-preserved
loop-u-preserved c =
    next_place (λ (u : ℕ). corner_place c.args.vertices.now c.args.level (c.args.active.now.x0 +ℤ pos u) (c.args.active.now.y0 +ℤ pos c.args.v)) c.loop-u.u c.place_in.result c.loop-u.places.items c.push.new.self.items c.loop-u.invariant c.in_ok-push.ensures.items c.place_in.ensures

pub returns : goal.returns
returns c =
    let place = λ (u : ℕ). corner_place c.args.vertices.now c.args.level (c.args.active.now.x0 +ℤ pos u) (c.args.active.now.y0 +ℤ pos c.args.v) in
    let all : c.loop-u.u ≡ columns c.args.active.now = omega (arith, c.columns-u-end.ensures.value) in
    c.loop-u.invariant
    ∙ ap (λ (n : ℕ). map place (range_with_len 0 n)) all
    ∙ row_is c.args.vertices.now c.args.level c.args.active.now (c.args.active.now.y0 +ℤ pos c.args.v)
