use Rattle.std.proofs.Common.{◌≡◌, true, false, ◌+◌, ◌==◌, sym, subst, ◌∙◌}
use Rattle.std.proofs.lemmas.Bool.{eq-eqb}
use Rattle.clip_regions.specs.declared.region.Region.{Region}
use Rattle.clip_book.specs.Tiles.{grid_on, AreHome}
use Rattle.clip_book.specs.Reading.{IsSeenPatch}
use Rattle.clip_book.proofs.SeenRows.{last_patch, finer_patch, none_home, not_equal}
use Rattle.clip_book.proofs.patches.job_patch.Goals as goal

pub block_patch-requires-clause-home : goal.block_patch-requires-clause-home
block_patch-requires-clause-home c =
    subst (λ (r : Region). AreHome (grid_on c.args.tiles.now.grids c.args.note.level) r) (sym c.empty.ensures.value) (none_home (grid_on c.args.tiles.now.grids c.args.note.level))

pub returns-then-note-levels : goal.returns-then-note-levels
returns-then-note-levels c =
    let last : (c.args.note.level + 1 == c.args.shape.now.levels) ≡ true = eq-eqb (c.args.note.level + 1) c.args.shape.now.levels (c.if-note-levels.true ∙ c.levels-levels.ensures.value) in
    last_patch c.args.shape.now c.args.note c.block_patch.result (grid_on c.args.tiles.now.grids c.args.note.level) last (subst (λ (r : Region). IsSeenPatch (grid_on c.args.tiles.now.grids c.args.note.level) r c.args.note.piece c.block_patch.result) c.empty.ensures.value c.block_patch.ensures)

pub returns-else-note-levels : goal.returns-else-note-levels
returns-else-note-levels c =
    let finer : (c.args.note.level + 1 == c.args.shape.now.levels) ≡ false = not_equal (c.args.note.level + 1) c.args.shape.now.levels (λ e. c.if-note-levels.false (e ∙ sym c.levels-levels.ensures.value)) in
    finer_patch c.args.shape.now c.args.note c.block_patch-else-note-levels.result (grid_on c.args.tiles.now.grids (c.args.note.level + 1)) finer c.requires.inside c.requires.readable (subst (λ (r : Region). IsSeenPatch (grid_on c.args.tiles.now.grids (c.args.note.level + 1)) r c.args.note.piece c.block_patch-else-note-levels.result) c.need.ensures.value c.block_patch-else-note-levels.ensures)
