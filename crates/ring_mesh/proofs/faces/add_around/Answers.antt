-- Four blocks round the hole, one after another.
use Rattle.std.proofs.Common.{◌≡◌, ℕ, ◌+◌, ◌<◌, ◌^◌, List, [], ◌∷◌, length, sym, subst}
use Rattle.std.proofs.lemmas.Result.{on_ok_weaker}
use Rattle.clip_regions.specs.declared.region.Region.{Region}
use Rattle.mesh_model.specs.declared.shapes.PartKind.TheVariants.{North, West, East, South}
use Rattle.mesh_model.specs.declared.shapes.PartKind.{PartKind}
use Rattle.mesh_model.specs.declared.shapes.Vertex.{Vertex}
use Rattle.mesh_model.specs.declared.shapes.Part.{Part}
use Rattle.mesh_model.specs.Parts.{PartTriangles}
use Rattle.mesh_laws.specs.declared.ring.Ring.{Ring}
use Rattle.ring_mesh.specs.Added.{Adds, triangles_of, HasBlock, north_block, west_block, east_block, south_block, block_part}
use Rattle.ring_mesh.proofs.Added.{adds_more}
use Rattle.ring_mesh.proofs.Blocks.{blocks, few_head, few_next}
use Rattle.ring_mesh.proofs.faces.add_around.Goals as goal

pub add_block-requires-clause-block : goal.add_block-requires-clause-block
add_block-requires-clause-block c =
    let r = c.args.ring.now in
    subst (λ (b : Region). HasBlock r.active b) (sym c.north_of-north.ensures) (blocks r.active r.hole c.requires.linked.own.small.near c.requires.cut).0

pub add_block-requires-2-clause-block : goal.add_block-requires-2-clause-block
add_block-requires-2-clause-block c =
    let r = c.args.ring.now in
    subst (λ (b : Region). HasBlock r.active b) (sym c.west_of-west.ensures) (blocks r.active r.hole c.requires.linked.own.small.near c.requires.cut).1

pub add_block-requires-3-clause-block : goal.add_block-requires-3-clause-block
add_block-requires-3-clause-block c =
    let r = c.args.ring.now in
    subst (λ (b : Region). HasBlock r.active b) (sym c.east_of-east.ensures) (blocks r.active r.hole c.requires.linked.own.small.near c.requires.cut).2

pub add_block-requires-4-clause-block : goal.add_block-requires-4-clause-block
add_block-requires-4-clause-block c =
    let r = c.args.ring.now in
    subst (λ (b : Region). HasBlock r.active b) (sym c.south_of-south.ensures) (blocks r.active r.hole c.requires.linked.own.small.near c.requires.cut).3

few_by : (finer ring : Ring) (level : ℕ) (kind : PartKind) (b b' : Region) (t : List (List ℕ)) → b' ≡ b → length t + length (triangles_of (block_part finer ring level kind b ∷ [])) < 2 ^ 31 → length t + length (triangles_of (block_part finer ring level kind b' ∷ [])) < 2 ^ 31
few_by finer ring level kind b b' t e few = subst (λ (x : Region). length t + length (triangles_of (block_part finer ring level kind x ∷ [])) < 2 ^ 31) (sym e) few

adds_by : (vertices : List Vertex) (finer ring : Ring) (level : ℕ) (kind : PartKind) (b b' : Region) (t t1 : List (List ℕ)) (p p1 : List Part) → b' ≡ b → Adds vertices (block_part finer ring level kind b' ∷ []) t p t1 p1 → Adds vertices (block_part finer ring level kind b ∷ []) t p t1 p1
adds_by vertices finer ring level kind b b' t t1 p p1 e added = subst (λ (x : Region). Adds vertices (block_part finer ring level kind x ∷ []) t p t1 p1) e added

pub add_block-requires-clause-few : goal.add_block-requires-clause-few
add_block-requires-clause-few c =
    let v = c.args.vertices.now in
    let f = c.args.finer.now in
    let r = c.args.ring.now in
    let l = c.args.level in
    let nb = north_block r.active r.hole in
    let wb = west_block r.active r.hole in
    let eb = east_block r.active r.hole in
    let sb = south_block r.active r.hole in
    let n : PartTriangles = block_part f r l North nb in
    let w : PartTriangles = block_part f r l West wb in
    let e : PartTriangles = block_part f r l East eb in
    let s : PartTriangles = block_part f r l South sb in
    let t0 = c.args.faces.now.triangles.items in
    let p0 = c.args.faces.now.parts.items in
    let few0 = c.requires.few in
    few_by f r l North nb c.north_of-north.result t0 c.north_of-north.ensures (few_head n (w ∷ e ∷ s ∷ []) t0 (2 ^ 31) few0)

pub add_block-requires-2-clause-few : goal.add_block-requires-2-clause-few
add_block-requires-2-clause-few c =
    let v = c.args.vertices.now in
    let f = c.args.finer.now in
    let r = c.args.ring.now in
    let l = c.args.level in
    let nb = north_block r.active r.hole in
    let wb = west_block r.active r.hole in
    let eb = east_block r.active r.hole in
    let sb = south_block r.active r.hole in
    let n : PartTriangles = block_part f r l North nb in
    let w : PartTriangles = block_part f r l West wb in
    let e : PartTriangles = block_part f r l East eb in
    let s : PartTriangles = block_part f r l South sb in
    let t0 = c.args.faces.now.triangles.items in
    let p0 = c.args.faces.now.parts.items in
    let few0 = c.requires.few in
    let t1 = c.add_block.new.faces.triangles.items in
    let p1 = c.add_block.new.faces.parts.items in
    let a1 = adds_by v f r l North nb c.north_of-north.result t0 t1 p0 p1 c.north_of-north.ensures c.in_ok-add_block.ensures in
    let few1 = few_next n (w ∷ e ∷ s ∷ []) t0 t1 (2 ^ 31) a1.triangles_are few0 in
    few_by f r l West wb c.west_of-west.result t1 c.west_of-west.ensures (few_head w (e ∷ s ∷ []) t1 (2 ^ 31) few1)

pub add_block-requires-3-clause-few : goal.add_block-requires-3-clause-few
add_block-requires-3-clause-few c =
    let v = c.args.vertices.now in
    let f = c.args.finer.now in
    let r = c.args.ring.now in
    let l = c.args.level in
    let nb = north_block r.active r.hole in
    let wb = west_block r.active r.hole in
    let eb = east_block r.active r.hole in
    let sb = south_block r.active r.hole in
    let n : PartTriangles = block_part f r l North nb in
    let w : PartTriangles = block_part f r l West wb in
    let e : PartTriangles = block_part f r l East eb in
    let s : PartTriangles = block_part f r l South sb in
    let t0 = c.args.faces.now.triangles.items in
    let p0 = c.args.faces.now.parts.items in
    let few0 = c.requires.few in
    let t1 = c.add_block.new.faces.triangles.items in
    let p1 = c.add_block.new.faces.parts.items in
    let a1 = adds_by v f r l North nb c.north_of-north.result t0 t1 p0 p1 c.north_of-north.ensures c.in_ok-add_block.ensures in
    let few1 = few_next n (w ∷ e ∷ s ∷ []) t0 t1 (2 ^ 31) a1.triangles_are few0 in
    let t2 = c.add_block-2.new.faces.triangles.items in
    let p2 = c.add_block-2.new.faces.parts.items in
    let a2 = adds_by v f r l West wb c.west_of-west.result t1 t2 p1 p2 c.west_of-west.ensures c.in_ok-add_block-2.ensures in
    let few2 = few_next w (e ∷ s ∷ []) t1 t2 (2 ^ 31) a2.triangles_are few1 in
    few_by f r l East eb c.east_of-east.result t2 c.east_of-east.ensures (few_head e (s ∷ []) t2 (2 ^ 31) few2)

pub add_block-requires-4-clause-few : goal.add_block-requires-4-clause-few
add_block-requires-4-clause-few c =
    let v = c.args.vertices.now in
    let f = c.args.finer.now in
    let r = c.args.ring.now in
    let l = c.args.level in
    let nb = north_block r.active r.hole in
    let wb = west_block r.active r.hole in
    let eb = east_block r.active r.hole in
    let sb = south_block r.active r.hole in
    let n : PartTriangles = block_part f r l North nb in
    let w : PartTriangles = block_part f r l West wb in
    let e : PartTriangles = block_part f r l East eb in
    let s : PartTriangles = block_part f r l South sb in
    let t0 = c.args.faces.now.triangles.items in
    let p0 = c.args.faces.now.parts.items in
    let few0 = c.requires.few in
    let t1 = c.add_block.new.faces.triangles.items in
    let p1 = c.add_block.new.faces.parts.items in
    let a1 = adds_by v f r l North nb c.north_of-north.result t0 t1 p0 p1 c.north_of-north.ensures c.in_ok-add_block.ensures in
    let few1 = few_next n (w ∷ e ∷ s ∷ []) t0 t1 (2 ^ 31) a1.triangles_are few0 in
    let t2 = c.add_block-2.new.faces.triangles.items in
    let p2 = c.add_block-2.new.faces.parts.items in
    let a2 = adds_by v f r l West wb c.west_of-west.result t1 t2 p1 p2 c.west_of-west.ensures c.in_ok-add_block-2.ensures in
    let few2 = few_next w (e ∷ s ∷ []) t1 t2 (2 ^ 31) a2.triangles_are few1 in
    let t3 = c.add_block-3.new.faces.triangles.items in
    let p3 = c.add_block-3.new.faces.parts.items in
    let a3 = adds_by v f r l East eb c.east_of-east.result t2 t3 p2 p3 c.east_of-east.ensures c.in_ok-add_block-3.ensures in
    let few3 = few_next e (s ∷ []) t2 t3 (2 ^ 31) a3.triangles_are few2 in
    few_by f r l South sb c.south_of-south.result t3 c.south_of-south.ensures (few_head s ([]) t3 (2 ^ 31) few3)

pub returns : goal.returns
returns c =
    let v = c.args.vertices.now in
    let f = c.args.finer.now in
    let r = c.args.ring.now in
    let l = c.args.level in
    let nb = north_block r.active r.hole in
    let wb = west_block r.active r.hole in
    let eb = east_block r.active r.hole in
    let sb = south_block r.active r.hole in
    let n : PartTriangles = block_part f r l North nb in
    let w : PartTriangles = block_part f r l West wb in
    let e : PartTriangles = block_part f r l East eb in
    let s : PartTriangles = block_part f r l South sb in
    let t0 = c.args.faces.now.triangles.items in
    let p0 = c.args.faces.now.parts.items in
    let few0 = c.requires.few in
    let t1 = c.add_block.new.faces.triangles.items in
    let p1 = c.add_block.new.faces.parts.items in
    let a1 = adds_by v f r l North nb c.north_of-north.result t0 t1 p0 p1 c.north_of-north.ensures c.in_ok-add_block.ensures in
    let few1 = few_next n (w ∷ e ∷ s ∷ []) t0 t1 (2 ^ 31) a1.triangles_are few0 in
    let t2 = c.add_block-2.new.faces.triangles.items in
    let p2 = c.add_block-2.new.faces.parts.items in
    let a2 = adds_by v f r l West wb c.west_of-west.result t1 t2 p1 p2 c.west_of-west.ensures c.in_ok-add_block-2.ensures in
    let few2 = few_next w (e ∷ s ∷ []) t1 t2 (2 ^ 31) a2.triangles_are few1 in
    let t3 = c.add_block-3.new.faces.triangles.items in
    let p3 = c.add_block-3.new.faces.parts.items in
    let a3 = adds_by v f r l East eb c.east_of-east.result t2 t3 p2 p3 c.east_of-east.ensures c.in_ok-add_block-3.ensures in
    let few3 = few_next e (s ∷ []) t2 t3 (2 ^ 31) a3.triangles_are few2 in
    let t4 = c.add_block-4.new.faces.triangles.items in
    let p4 = c.add_block-4.new.faces.parts.items in
    on_ok_weaker c.add_block-4.result
    (λ added.
    let a4 = adds_by v f r l South sb c.south_of-south.result t3 t4 p3 p4 c.south_of-south.ensures added in
    adds_more v (n ∷ w ∷ e ∷ []) (s ∷ []) t0 t3 t4 p0 p3 p4
    (adds_more v (n ∷ w ∷ []) (e ∷ []) t0 t2 t3 p0 p2 p3 (adds_more v (n ∷ []) (w ∷ []) t0 t1 t2 p0 p1 p2 a1 a2) a3) a4)
    c.add_block-4.ensures
