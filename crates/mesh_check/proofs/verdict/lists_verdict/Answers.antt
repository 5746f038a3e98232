use Rattle.std.proofs.Common.{inr, sym, ◌∙◌}
use Rattle.mesh_check.proofs.Verdicts.{Given, crack_by, closed_by, ends_by}
use Rattle.mesh_check.proofs.verdict.lists_verdict.Goals as goal

pub returns-in-Some : goal.returns-in-Some
returns-in-Some c =
    let told = c.in-Some.ensures in
    let given : Given c.args.lists.now c.border.result c.vertices.result.now c.triangles.result.now c.in-Ok.keys.items c.deref.result.now = record {
      are = c.triangles.ensures.lists;
      border_is = c.border.ensures.value;
      vertices_are = c.vertices.ensures.value;
      triangles_are = c.triangles.ensures.value;
      keys_are = c.deref.ensures.value;
      sorted = c.in-Ok.ensures.keys;
    } in
    record {
      verdict = inr (sym (crack_by c.args.lists.now c.border.result c.vertices.result.now c.triangles.result.now c.in-Ok.keys.items c.deref.result.now c.in-Some.run'.pair c.in-Some.run'.there c.in-Some.run'.back
          given told.ends told.before told.open told.there told.back));
    }

pub returns : goal.returns
returns c =
    let given : Given c.args.lists.now c.border.result c.vertices.result.now c.triangles.result.now c.in-Ok.keys.items c.deref.result.now = record {
      are = c.triangles.ensures.lists;
      border_is = c.border.ensures.value;
      vertices_are = c.vertices.ensures.value;
      triangles_are = c.triangles.ensures.value;
      keys_are = c.deref.ensures.value;
      sorted = c.in-Ok.ensures.keys;
    } in
    record {
      verdict = inr (c.closed_verdict.ensures.value
          ∙ sym (closed_by c.args.lists.now c.border.result c.vertices.result.now c.triangles.result.now c.in-Ok.keys.items c.deref.result.now given c.in-None.ensures.none));
    }

pub first_open-requires-clause-ends : goal.first_open-requires-clause-ends
first_open-requires-clause-ends c =
    let given : Given c.args.lists.now c.border.result c.vertices.result.now c.triangles.result.now c.in-Ok.keys.items c.deref.result.now = record {
      are = c.triangles.ensures.lists;
      border_is = c.border.ensures.value;
      vertices_are = c.vertices.ensures.value;
      triangles_are = c.triangles.ensures.value;
      keys_are = c.deref.ensures.value;
      sorted = c.in-Ok.ensures.keys;
    } in
    ends_by c.args.lists.now c.border.result c.vertices.result.now c.triangles.result.now c.in-Ok.keys.items c.deref.result.now given
