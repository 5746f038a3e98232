-- A row is whole or cut.
use Rattle.std.proofs.Common.{◌≡◌, ℕ, ◌++◌, Bool, true, ◌&&◌, ℤ, pos, ◌+ℤ◌, ◌≤◌, int_le, ap, sym, subst, ◌∙◌, append_assoc, w32, rules}
use Rattle.std.specs.Int.{int_gap}
use Rattle.std.proofs.lemmas.Int.{to_z-of_z}
use Rattle.std.proofs.lemmas.Result.{on_ok_weaker}
use Rattle.clip_regions.specs.declared.region.Region.{Region}
use Rattle.clip_regions.specs.Regions.{columns}
use Rattle.mesh_laws.specs.Rings.{run, ring_row}
use Rattle.mesh_laws.specs.Conditions.{HasHole}
use Rattle.ring_mesh.specs.Listed.{vertices_at, HasRun}
use Rattle.ring_mesh.proofs.Cells.{row_at, run_as, whole_row, cut_by, west_run, east_run, west_few, east_few}
use Rattle.ring_mesh.proofs.RingRows.{two_runs}
use Rattle.ring_mesh.proofs.vertices.add_row.Goals as goal
use mir.Val.{SFits, to_z, of_z}

pub add_run-requires-clause-run : goal.add_run-requires-clause-run
add_run-requires-clause-run g c =
    let r = c.args.ring.now.active in
    let j = r.y0 +ℤ pos c.args.v in
    let row = c.row_of-row.result in
    subst (λ (q : Region). HasRun q row.i row.j row.count) c.requires.region
    (run_as r r.x0 j row.i row.j (columns r) row.count c.row_of-row.ensures.i c.row_of-row.ensures.j c.row_of-row.ensures.count (whole_row r j c.requires.ring.small.near (row_at r c.args.v c.requires.row)))

-- the row that was tested is cut
cut_there : (r gap : Region) (v : ℕ) (j : ℤ) (test : Bool) → HasHole r gap → SFits w32 j → j ≡ r.y0 +ℤ pos v →
    test ≡ (int_le gap.y0 (to_z w32 (of_z w32 j)) && int_le (to_z w32 (of_z w32 j)) gap.y1) → test ≡ true → (int_le gap.y0 (r.y0 +ℤ pos v) && int_le (r.y0 +ℤ pos v) gap.y1) ≡ true
cut_there r gap v j test cut fits ej et met =
    let e = to_z-of_z w32 j fits ∙ ej in
    (λ t. int_le gap.y0 (sym e t) && int_le (sym e t) gap.y1) ∙ sym et ∙ met

pub add_run-requires-2-clause-run : goal.add_run-requires-2-clause-run
add_run-requires-2-clause-run g c =
    let r = c.args.ring.now.active in
    let gap = c.args.ring.now.hole in
    let j = r.y0 +ℤ pos c.args.v in
    let row = c.row_of-row.result in
    let west = c.west_of-west.result in
    let fits : SFits w32 row.j = search rules in
    let met : c.has_row.result ≡ true = search rules in
    let cut = cut_by r gap j c.requires.ring.cut (cut_there r gap c.args.v row.j c.has_row.result c.requires.ring.cut fits c.row_of-row.ensures.j c.has_row.ensures met) in
    let count : west.count ≡ int_gap r.x0 gap.x0 = c.west_of-west.ensures.count ∙ ap (λ (a : ℤ). int_gap a gap.x0) c.row_of-row.ensures.i in
    subst (λ (q : Region). HasRun q west.i west.j west.count) c.requires.region
    (run_as r r.x0 j west.i west.j (int_gap r.x0 gap.x0) west.count (c.west_of-west.ensures.i ∙ c.row_of-row.ensures.i) (c.west_of-west.ensures.j ∙ c.row_of-row.ensures.j) count (west_run r gap j c.requires.ring.small.near (row_at r c.args.v c.requires.row) cut))

pub add_run-requires-2-clause-few : goal.add_run-requires-2-clause-few
add_run-requires-2-clause-few g c =
    let r = c.args.ring.now.active in
    let gap = c.args.ring.now.hole in
    let row = c.row_of-row.result in
    let west = c.west_of-west.result in
    let fits : SFits w32 row.j = search rules in
    let met : c.has_row.result ≡ true = search rules in
    let cut = cut_by r gap (r.y0 +ℤ pos c.args.v) c.requires.ring.cut (cut_there r gap c.args.v row.j c.has_row.result c.requires.ring.cut fits c.row_of-row.ensures.j c.has_row.ensures met) in
    let count : west.count ≡ int_gap r.x0 gap.x0 = c.west_of-west.ensures.count ∙ ap (λ (a : ℤ). int_gap a gap.x0) c.row_of-row.ensures.i in
    subst (λ (n : ℕ). n ≤ 255) (sym count) (west_few r gap c.requires.ring.small.few_columns cut)

pub add_run-requires-3-clause-run : goal.add_run-requires-3-clause-run
add_run-requires-3-clause-run g c =
    let r = c.args.ring.now.active in
    let gap = c.args.ring.now.hole in
    let j = r.y0 +ℤ pos c.args.v in
    let row = c.row_of-row.result in
    let east = c.east_of-east.result in
    let fits : SFits w32 row.j = search rules in
    let met : c.has_row.result ≡ true = search rules in
    let cut = cut_by r gap j c.requires.ring.cut (cut_there r gap c.args.v row.j c.has_row.result c.requires.ring.cut fits c.row_of-row.ensures.j c.has_row.ensures met) in
    subst (λ (q : Region). HasRun q east.i east.j east.count) c.requires.region
    (run_as r (gap.x1 +ℤ pos 1) j east.i east.j (int_gap gap.x1 r.x1) east.count c.east_of-east.ensures.i (c.east_of-east.ensures.j ∙ c.row_of-row.ensures.j) c.east_of-east.ensures.count (east_run r gap j c.requires.ring.small.near (row_at r c.args.v c.requires.row) cut))

pub add_run-requires-3-clause-few : goal.add_run-requires-3-clause-few
add_run-requires-3-clause-few g c =
    let r = c.args.ring.now.active in
    let gap = c.args.ring.now.hole in
    let row = c.row_of-row.result in
    let fits : SFits w32 row.j = search rules in
    let met : c.has_row.result ≡ true = search rules in
    let cut = cut_by r gap (r.y0 +ℤ pos c.args.v) c.requires.ring.cut (cut_there r gap c.args.v row.j c.has_row.result c.requires.ring.cut fits c.row_of-row.ensures.j c.has_row.ensures met) in
    subst (λ (n : ℕ). n ≤ 255) (sym c.east_of-east.ensures.count) (east_few r gap c.requires.ring.small.few_columns cut)

pub returns : goal.returns
returns g c =
    let terrain = g.G.Heights.terrain c.args.heights.now in
    let k = c.args.k in
    let actives = c.args.actives.now in
    let level = c.args.level in
    let r = c.args.ring.now.active in
    let gap = c.args.ring.now.hole in
    let j = r.y0 +ℤ pos c.args.v in
    let row = c.row_of-row.result in
    let west = c.west_of-west.result in
    let east = c.east_of-east.result in
    let old = c.args.vertices.now.items in
    let fits : SFits w32 row.j = search rules in
    let met : c.has_row.result ≡ true = search rules in
    let law = c.rings_have_rows.ensures.cut gap r j c.requires.ring.cut (cut_there r gap c.args.v row.j c.has_row.result c.requires.ring.cut fits c.row_of-row.ensures.j c.has_row.ensures met) in
    let count : west.count ≡ int_gap r.x0 gap.x0 = c.west_of-west.ensures.count ∙ ap (λ (a : ℤ). int_gap a gap.x0) c.row_of-row.ensures.i in
    let wi : west.i ≡ r.x0 = c.west_of-west.ensures.i ∙ c.row_of-row.ensures.i in
    let wj : west.j ≡ j = c.west_of-west.ensures.j ∙ c.row_of-row.ensures.j in
    let ej : east.j ≡ j = c.east_of-east.ensures.j ∙ c.row_of-row.ensures.j in
    let first = vertices_at terrain k actives level (run west.i west.j west.count) in
    let second = vertices_at terrain k actives level (run east.i east.j east.count) in
    let both : first ++ second ≡ vertices_at terrain k actives level (ring_row gap r j) =
    sym (two_runs terrain k actives level (run west.i west.j west.count) (run east.i east.j east.count))
    ∙ (λ t. vertices_at terrain k actives level (run (wi t) (wj t) (count t) ++ run (c.east_of-east.ensures.i t) (ej t) (c.east_of-east.ensures.count t)))
    ∙ ap (vertices_at terrain k actives level) (sym law) in
    on_ok_weaker c.add_run-3.result
    (λ added. added ∙ ap (λ xs. xs ++ second) c.in_ok-add_run.ensures ∙ append_assoc old first second ∙ ap (λ xs. old ++ xs) both)
    c.add_run-3.ensures
