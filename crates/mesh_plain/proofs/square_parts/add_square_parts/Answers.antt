-- The three cases of the definition.
use Rattle.std.proofs.Common.{◌≡◌, List, ◌++◌, ap, sym, subst, ◌∙◌, append-nil}
use Rattle.std.specs.Result.{OnOk}
use Rattle.clip_regions.specs.Regions.{is_empty}
use Rattle.mesh_model.specs.Parts.{PartTriangles}
use Rattle.mesh_plain.proofs.SquareParts.{no_square_parts, one_square_part, four_square_parts, parts_around}
use Rattle.mesh_plain.proofs.square_parts.add_square_parts.Goals as goal

pub returns-then-is_empty : goal.returns-then-is_empty
returns-then-is_empty c =
    sym (append-nil c.args.parts.now.items)
    ∙ ap (λ (more : List PartTriangles). c.args.parts.now.items ++ more) (sym (no_square_parts c.args.vertices.now c.args.level c.args.finer.now c.args.active.now (sym c.is_empty.ensures.value ∙ c.if-is_empty.true)))

pub returns-then-is_empty-2 : goal.returns-then-is_empty-2
returns-then-is_empty-2 c =
    let whole = sym (ap is_empty c.hole-gap.ensures.value) ∙ sym c.is_empty-else-is_empty.ensures.value ∙ c.if-is_empty-2.true in
    subst (λ (more : List PartTriangles). OnOk c.add_block.result (c.add_block.new.parts.items ≡ c.args.parts.now.items ++ more))
    (sym (one_square_part c.args.vertices.now c.args.level c.args.finer.now c.args.active.now (sym c.is_empty.ensures.value ∙ c.if-is_empty.false) whole))
    c.add_block.ensures

pub returns-else-is_empty-2 : goal.returns-else-is_empty-2
returns-else-is_empty-2 c =
    let gap = sym (ap is_empty c.hole-gap.ensures.value) ∙ sym c.is_empty-else-is_empty.ensures.value ∙ c.if-is_empty-2.false in
    let four =
    ap (parts_around c.args.vertices.now c.args.level c.args.active.now) c.hole-gap.ensures.value
    ∙ sym (four_square_parts c.args.vertices.now c.args.level c.args.finer.now c.args.active.now (sym c.is_empty.ensures.value ∙ c.if-is_empty.false) gap) in
    subst (λ (more : List PartTriangles). OnOk c.add_around.result (c.add_around.new.parts.items ≡ c.args.parts.now.items ++ more)) four c.add_around.ensures
