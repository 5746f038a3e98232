use Rattle.std.proofs.Common.{◌≡◌, ◌++◌, ◌∙◌, ℕ, List, OnOk, ap, sym, subst}
use Rattle.rice_residuals.specs.Word.{canonical_word}
use Rattle.store_model.specs.Format.{entry}
use Rattle.store_writer.specs.Entries.{word_entry}
use Rattle.store_writer.proofs.Patches.{patch_values, place_of, predictions_of}
use Rattle.store_writer.proofs.block.append_word.Goals as goal

pub returns : goal.returns
unfolding word_entry
returns g c =
    let C = g.C.Heights.heights c.args.coarser.now in
    let F = g.F.Heights.heights c.args.finer.now in
    let p = c.patch_of-patch.ensures in
    let patch = c.predict_block-predicted.result.patch.now in
    let e = sym c.predict_block-predicted.ensures in
    let same = c.codes_of-codes.ensures ∙ patch_values C F c.args.step c.args.cells patch c.requires.cells (place_of _ patch c.args.cells e p.place) (predictions_of _ patch C e p.predictions) in
    let content = c.as_slice.ensures.value ∙ c.in_ok-word.ensures ∙ ap canonical_word same in
    subst (λ (xs : List ℕ). OnOk c.append_entry.result (c.append_entry.new.out.items ≡ c.args.out.now.items ++ entry xs)) content c.append_entry.ensures
