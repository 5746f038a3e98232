use Rattle.std.proofs.Common.{◌++◌, ◌∙◌, length, le_refl, refl, take-append-drop}
use Rattle.std.proofs.lemmas.List.{drop_all}
use mathlib.Core.Path.{ap₂}
use Rattle.parallel_text.proofs.lines.halves.Goals as goal
use Rattle.parallel_text.proofs.Halves.{in_vertices, in_triangles}

pub returns-then-half-lines : goal.returns-then-half-lines
returns-then-half-lines c =
    let cut = c.split_at.ensures in
    let all = c.split_at-then-half-lines.ensures in
    in_vertices _ _ _ _ _ _
    (ap₂ (λ xs ys. xs ++ ys) cut.front cut.back ∙ take-append-drop _ _)
    all.front refl

pub returns : goal.returns
returns c =
    let all = c.split_at-2.ensures in
    let cut = c.split_at-3.ensures in
    in_triangles _ _ _ _ _ _ refl (all.back ∙ drop_all (length c.args.lines.now.vertices.now) c.args.lines.now.vertices.now (le_refl (length c.args.lines.now.vertices.now)))
    (ap₂ (λ xs ys. xs ++ ys) cut.front cut.back ∙ take-append-drop _ _)
