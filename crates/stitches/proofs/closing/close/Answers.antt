-- The stitches are what is left to add.
use Rattle.std.proofs.Common.{◌≡◌, ℕ, ◌^◌, ◌<◌, length, vec_len, ◌∙◌, sym, subst, rules}
use Rattle.terrain_model.specs.Terrain.{Terrain}
use Rattle.mesh_model.specs.Mesh.{mesh}
use Rattle.mesh_model.specs.Rings.{unstitched}
use Rattle.mesh_model.specs.Conditions.{NameVertices, CoverInOrder, IsMesh}
use Rattle.stitches.proofs.Whole.{few_left, IsMade, closed_is, whole_is}
use Rattle.stitches.proofs.closing.close.Goals as goal

pub add_stitches-requires : goal.add_stitches-requires
unfolding unstitched
add_stitches-requires c =
    let w = c.requires.rings in
    let e : c.reserve.new.self.items ≡ (unstitched w.terrain w.k c.args.actives.now).triangles = c.in_ok-reserve.ensures.items ∙ c.apart-vertices.ensures.triangles ∙ (λ t. (w.same t).triangles) in
    record { few = few_left w.terrain w.k c.args.actives.now c.reserve.new.self.items c.parts_add_up.ensures.rest c.ring_stitches_are_stitch_parts.ensures c.meshes_are_small.ensures.triangles c.levels.ensures.active e }

-- the lists after the stitches are added
lists_made : (c : goal.In_ok-add_stitches) → IsMade c.args.actives.now c.args.mesh c.apart-vertices.result.0.items c.deref.result.now c.reserve.new.self.items c.add_stitches.new.faces.triangles.items c.reserve-2.new.self.items c.add_stitches.new.faces.parts.items
lists_made c = record {
  vertices = c.apart-vertices.ensures.vertices;
  same = c.deref.ensures.value;
  triangles = c.in_ok-reserve.ensures.items ∙ c.apart-vertices.ensures.triangles;
  parts = c.in_ok-reserve-2.ensures.items ∙ c.apart-vertices.ensures.parts;
  added = c.in_ok-add_stitches.ensures;
}

lists_are : (c : goal.In_ok-add_stitches) (terrain : Terrain) (k : ℕ) → c.args.mesh ≡ unstitched terrain k c.args.actives.now →
    record { vertices = c.apart-vertices.result.0.items; triangles = c.add_stitches.new.faces.triangles.items; parts = c.add_stitches.new.faces.parts.items } ≡ mesh terrain k c.args.actives.now
lists_are c terrain k e =
    closed_is terrain k c.args.actives.now c.args.mesh c.apart-vertices.result.0.items c.deref.result.now c.reserve.new.self.items c.add_stitches.new.faces.triangles.items c.reserve-2.new.self.items c.add_stitches.new.faces.parts.items
    c.parts_add_up.ensures.rest c.ring_stitches_are_stitch_parts.ensures c.levels.ensures.active (lists_made c) e

are_mesh : (c : goal.In_ok-add_stitches) → IsMesh (record { vertices = c.apart-vertices.result.0.items; triangles = c.add_stitches.new.faces.triangles.items; parts = c.add_stitches.new.faces.parts.items })
are_mesh c =
    let w = c.requires.rings in
    subst IsMesh (sym (lists_are c w.terrain w.k w.same))
    (whole_is w.terrain w.k c.args.actives.now c.meshes_are_small.ensures.vertices c.meshes_are_small.ensures.triangles c.nested_names.ensures c.parts_of_mesh.ensures.cover c.parts_of_mesh.ensures.bounds c.levels.ensures.active)

pub new-requires-clause-few_triangles : goal.new-requires-clause-few_triangles
new-requires-clause-few_triangles c =
    let few : length c.add_stitches.new.faces.triangles.items < 2 ^ 31 = (are_mesh c).few_triangles in
    search rules

pub new-requires-clause-places : goal.new-requires-clause-places
new-requires-clause-places c =
    let n : length c.apart-vertices.result.0.items ≡ vec_len c.apart-vertices.result.0 = search rules in
    subst (λ (m : ℕ). NameVertices m c.add_stitches.new.faces.triangles.items) n (are_mesh c).places

pub new-requires-clause-cover : goal.new-requires-clause-cover
new-requires-clause-cover c =
    let n : length c.add_stitches.new.faces.triangles.items ≡ vec_len c.add_stitches.new.faces.triangles = search rules in
    subst (λ (m : ℕ). CoverInOrder 0 m c.add_stitches.new.faces.parts.items) n (are_mesh c).cover

pub new-requires-clause-bounds : goal.new-requires-clause-bounds
new-requires-clause-bounds c = (are_mesh c).bounds

pub returns : goal.returns
returns c =
    let actives = c.args.actives.now in
    let t = c.reserve.new.self.items in
    let t1 = c.add_stitches.new.faces.triangles.items in
    let p = c.reserve-2.new.self.items in
    let p1 = c.add_stitches.new.faces.parts.items in
    let made : IsMade actives c.args.mesh c.apart-vertices.result.0.items c.deref.result.now t t1 p p1 = record {
      vertices = c.apart-vertices.ensures.vertices;
      same = c.deref.ensures.value;
      triangles = c.in_ok-reserve.ensures.items ∙ c.apart-vertices.ensures.triangles;
      parts = c.in_ok-reserve-2.ensures.items ∙ c.apart-vertices.ensures.parts;
      added = c.in_ok-add_stitches.ensures;
    } in
    let new : c.new.result ≡ record { vertices = c.apart-vertices.result.0.items; triangles = t1; parts = p1 } = λ i. record { vertices = c.new.ensures.vertices i; triangles = c.new.ensures.triangles i; parts = c.new.ensures.parts i } in
    record {
      closed = λ terrain k e.
          new ∙ closed_is terrain k actives c.args.mesh c.apart-vertices.result.0.items c.deref.result.now t t1 p p1 c.parts_add_up.ensures.rest c.ring_stitches_are_stitch_parts.ensures c.levels.ensures.active made e;
    }
