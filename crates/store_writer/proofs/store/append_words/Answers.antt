use Rattle.std.proofs.Common.{◌≡◌, ◌∙◌, ◌++◌, ℕ, ℤ, List, ap, arith}
use mathlib.Core.Path.{ap₂}
use Rattle.clip_regions.specs.declared.region.Region.{Region}
use Rattle.terrain_model.specs.Terrain.{level_height}
use Rattle.store_model.specs.Sizes.{block_count}
use Rattle.store_writer.specs.Entries.{word_entry}
use Rattle.store_writer.proofs.Rows.{put_more, put_none}
use Rattle.store_writer.proofs.Levels.{entries_before, entries_none, entries_more, entries_all}
use Rattle.store_writer.proofs.store.append_words.Goals as goal

pub loop-k-init : goal.loop-k-init
loop-k-init g c =
    let t = c.args.grid.now in
    put_none c.args.out.now.items _
    (entries_none (word_entry (g.C.Heights.heights c.args.coarser.now) (level_height t c.args.level) c.args.step) t.width t.height c.args.level)

pub loop-k-preserved : goal.loop-k-preserved
loop-k-preserved g c =
    let t = c.args.grid.now in
    let l = c.args.level in
    let e = c.new-finer.ensures in
    let C = g.C.Heights.heights c.args.coarser.now in
    let block = word_entry C (level_height t l) c.args.step in
    put_more c.args.out.now.items (entries_before block t.width t.height l c.loop-k.k) _ _ c.loop-k.out.items _ c.loop-k.invariant
    (c.in_ok-append_word.ensures
    ∙ ap (λ (xs : List ℕ). c.loop-k.out.items ++ xs) (ap₂ (λ (f : ℤ → ℤ → ℤ) (r : Region). word_entry C f c.args.step r) (ap₂ level_height e.grid e.level) c.cells_of_block-cells.ensures.region))
    (entries_more block t.width t.height l c.loop-k.k)

pub returns : goal.returns
returns g c =
    let t = c.args.grid.now in
    let l = c.args.level in
    let block = word_entry (g.C.Heights.heights c.args.coarser.now) (level_height t l) c.args.step in
    let end = c.block_count-k-end.ensures.value in
    let whole : c.loop-k.k ≡ block_count t.width t.height l = omega arith in
    c.loop-k.invariant ∙ ap (λ (xs : List ℕ). c.args.out.now.items ++ xs) (ap (entries_before block t.width t.height l) whole ∙ entries_all block t.width t.height l)
