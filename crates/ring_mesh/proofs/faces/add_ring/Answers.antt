-- Case by case.
use Rattle.std.proofs.Common.{◌≡◌, ◌+◌, ◌<◌, ◌^◌, true, false, List, length, sym, ◌∙◌, subst, OnOk}
use Rattle.clip_regions.specs.Regions.{is_empty}
use Rattle.mesh_model.specs.Parts.{PartTriangles}
use Rattle.ring_mesh.specs.Added.{Adds, triangles_of}
use Rattle.ring_mesh.proofs.Added.{adds_none}
use Rattle.ring_mesh.proofs.Blocks.{whole_block, cut_of, parts_none, parts_whole, parts_round}
use Rattle.ring_mesh.proofs.faces.add_ring.Goals as goal

pub returns-then-is_empty : goal.returns-then-is_empty
returns-then-is_empty c =
    let none : is_empty c.args.ring.now.active ≡ true = sym c.is_empty.ensures.value ∙ c.if-is_empty.true in
    subst (λ (ps : List PartTriangles). Adds c.args.vertices.now ps c.args.faces.now.triangles.items c.args.faces.now.parts.items c.args.faces.now.triangles.items c.args.faces.now.parts.items)
    (sym (parts_none c.args.level c.args.finer.now c.args.ring.now none)) (adds_none c.args.vertices.now c.args.faces.now.triangles.items c.args.faces.now.parts.items)

pub add_block-requires-clause-block : goal.add_block-requires-clause-block
add_block-requires-clause-block c = whole_block c.args.ring.now.active c.requires.linked.own.small.near

pub add_block-requires-clause-few : goal.add_block-requires-clause-few
add_block-requires-clause-few c =
    let some : is_empty c.args.ring.now.active ≡ false = sym c.is_empty.ensures.value ∙ c.if-is_empty.false in
    let none : is_empty c.args.ring.now.hole ≡ true = sym c.is_empty-2.ensures.value ∙ c.if-is_empty-2.true in
    subst (λ (ps : List PartTriangles). length c.args.faces.now.triangles.items + length (triangles_of ps) < 2 ^ 31) (parts_whole c.args.level c.args.finer.now c.args.ring.now some none) c.requires.few

pub returns-then-is_empty-2 : goal.returns-then-is_empty-2
returns-then-is_empty-2 c =
    let some : is_empty c.args.ring.now.active ≡ false = sym c.is_empty.ensures.value ∙ c.if-is_empty.false in
    let none : is_empty c.args.ring.now.hole ≡ true = sym c.is_empty-2.ensures.value ∙ c.if-is_empty-2.true in
    subst (λ (ps : List PartTriangles). OnOk c.add_block.result (Adds c.args.vertices.now ps c.args.faces.now.triangles.items c.args.faces.now.parts.items c.add_block.new.faces.triangles.items c.add_block.new.faces.parts.items))
    (sym (parts_whole c.args.level c.args.finer.now c.args.ring.now some none)) c.add_block.ensures

pub add_around-requires-clause-cut : goal.add_around-requires-clause-cut
add_around-requires-clause-cut c =
    let open' : is_empty c.args.ring.now.hole ≡ false = sym c.is_empty-2.ensures.value ∙ c.if-is_empty-2.false in
    cut_of c.args.ring.now c.requires.linked.own open'

pub add_around-requires-clause-few : goal.add_around-requires-clause-few
add_around-requires-clause-few c =
    let some : is_empty c.args.ring.now.active ≡ false = sym c.is_empty.ensures.value ∙ c.if-is_empty.false in
    let open' : is_empty c.args.ring.now.hole ≡ false = sym c.is_empty-2.ensures.value ∙ c.if-is_empty-2.false in
    subst (λ (ps : List PartTriangles). length c.args.faces.now.triangles.items + length (triangles_of ps) < 2 ^ 31) (parts_round c.args.level c.args.finer.now c.args.ring.now some open') c.requires.few

pub returns : goal.returns
returns c =
    let some : is_empty c.args.ring.now.active ≡ false = sym c.is_empty.ensures.value ∙ c.if-is_empty.false in
    let open' : is_empty c.args.ring.now.hole ≡ false = sym c.is_empty-2.ensures.value ∙ c.if-is_empty-2.false in
    subst (λ (ps : List PartTriangles). OnOk c.add_around.result (Adds c.args.vertices.now ps c.args.faces.now.triangles.items c.args.faces.now.parts.items c.add_around.new.faces.triangles.items c.add_around.new.faces.parts.items))
    (sym (parts_round c.args.level c.args.finer.now c.args.ring.now some open')) c.add_around.ensures
