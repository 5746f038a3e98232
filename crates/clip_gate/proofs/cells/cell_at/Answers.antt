use Rattle.std.proofs.Common.{◌≡◌, ℕ, ℤ, pos, ◌+ℤ◌, ◌%◌, ◌/◌, ◌<◌, ◌*◌, ap, subst, ◌∙◌}
use mathlib.Core.Path.{ap₂}
use Rattle.clip_regions.specs.Regions.{columns, rows, contains}
use Rattle.clip_gate.proofs.Placed.{placed}
use Rattle.clip_gate.proofs.cells.cell_at.Goals as goal

pub returns-clause-inside : goal.returns-clause-inside
returns-clause-inside c =
    let r = c.args.region in
    let k = c.args.place in
    let inside : k < columns r * rows r = subst (λ (n : ℕ). k < n) (ap₂ (λ (a b : ℕ). a * b) c.requires.columns c.requires.rows) c.requires.inside in
    let wide : c.from-columns.result ≡ columns r = c.from-columns.ensures ∙ c.requires.columns in
    let i : c.cell_in.result.i ≡ r.x0 +ℤ pos (k % columns r) = c.cell_in.ensures.column ∙ ap (λ (n : ℕ). r.x0 +ℤ pos (k % n)) wide in
    let j : c.cell_in.result.j ≡ r.y0 +ℤ pos (k / columns r) = c.cell_in.ensures.row ∙ ap (λ (n : ℕ). r.y0 +ℤ pos (k / n)) wide in
    ap₂ (λ (a b : ℤ). contains r a b) i j ∙ placed r k inside
