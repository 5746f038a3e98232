-- The cell lies in the region, and its column is read back.
use Rattle.std.proofs.Common.{ℤ, pos, ◌+ℤ◌, ◌∙◌, sym, subst, w32, rules}
use Rattle.std.proofs.lemmas.Int.{to_z-of_z}
use Rattle.mesh_model.specs.Height.{active_at}
use Rattle.mesh_model.specs.Vertices.{vertex_at}
use Rattle.mesh_laws.specs.Conditions.{IsCell}
use Rattle.ring_mesh.proofs.Cells.{cell_of, column_of}
use Rattle.ring_mesh.proofs.vertices.vertex_of_run.Goals as goal
use mir.Val.{SFits, to_z, of_z}

pub vertex-requires-clause-cell : goal.vertex-requires-clause-cell
vertex-requires-clause-cell g c =
    let r = active_at c.args.actives.now c.args.level in
    let run = c.args.run.now in
    let fits : SFits w32 run.j = search rules in
    let e = column_of r run.i run.j run.count c.args.u c.requires.run c.requires.cell c.requires.few in
    subst (λ (i : ℤ). IsCell r i (to_z w32 (of_z w32 run.j))) (sym e)
    (subst (λ (j : ℤ). IsCell r (run.i +ℤ pos c.args.u) j) (sym (to_z-of_z w32 run.j fits)) (cell_of r run.i run.j run.count c.args.u c.requires.run c.requires.cell))

pub returns : goal.returns
returns g c =
    let r = active_at c.args.actives.now c.args.level in
    let run = c.args.run.now in
    let fits : SFits w32 run.j = search rules in
    let e = column_of r run.i run.j run.count c.args.u c.requires.run c.requires.cell c.requires.few in
    c.vertex.ensures.value ∙ (λ t. vertex_at (g.G.Heights.terrain c.args.heights.now) c.args.k c.args.actives.now (record { level = c.args.level; i = e t; j = to_z-of_z w32 run.j fits t }))
