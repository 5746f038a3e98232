use Rattle.std.proofs.Common.{◌≡◌, ◌++◌, ◌∙◌, ℕ, List, OnOk, ap, sym, subst, length, append_assoc}
use Rattle.std.specs.Int.{w16, to_be_bytes}
use mathlib.Core.Path.{ap₂}
use Rattle.store_model.specs.Blocks.{plain_bytes}
use Rattle.store_model.specs.Format.{entry}
use Rattle.store_writer.specs.Entries.{plain_entry}
use Rattle.store_writer.specs.Cells.{region_of}
use Rattle.store_writer.proofs.Heights.{rows_all, plain_length}
use Rattle.store_writer.proofs.block.append_plain.Goals as goal

pub returns : goal.returns
unfolding plain_entry entry
returns g c =
    let F = g.F.Heights.heights c.args.finer.now in
    let region = region_of c.args.cells in
    let old = c.args.out.now.items in
    let size = plain_length F c.args.cells c.requires.some_columns c.requires.some_rows in
    let head = c.in_ok-append.ensures ∙ ap (λ (xs : List ℕ). old ++ xs) (c.to_be_bytes.ensures ∙ ap (to_be_bytes w16) (sym size)) in
    let whole = ap₂ (λ (xs ys : List ℕ). xs ++ ys) head (rows_all F region) ∙ append_assoc old (to_be_bytes w16 (length (plain_bytes F region))) (plain_bytes F region) in
    subst (λ (xs : List ℕ). OnOk c.append_rows.result (c.append_rows.new.out.items ≡ xs)) whole c.append_rows.ensures
