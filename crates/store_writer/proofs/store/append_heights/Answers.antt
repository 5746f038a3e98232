use Rattle.std.proofs.Common.{◌≡◌, ◌∙◌, ◌++◌, ℕ, List, ap, arith}
use mathlib.Core.Path.{ap₂}
use Rattle.terrain_model.specs.Terrain.{level_height}
use Rattle.store_model.specs.Sizes.{block_count}
use Rattle.store_writer.specs.Entries.{plain_entry}
use Rattle.store_writer.proofs.Rows.{put_more, put_none}
use Rattle.store_writer.proofs.Levels.{entries_before, entries_none, entries_more, entries_all}
use Rattle.store_writer.proofs.store.append_heights.Goals as goal

pub loop-k-init : goal.loop-k-init
loop-k-init c =
    let t = c.args.grid.now in
    put_none c.args.out.now.items _ (entries_none (plain_entry (level_height t c.args.level)) t.width t.height c.args.level)

pub loop-k-preserved : goal.loop-k-preserved
loop-k-preserved c =
    let t = c.args.grid.now in
    let l = c.args.level in
    let e = c.new-finer.ensures in
    let block = plain_entry (level_height t l) in
    put_more c.args.out.now.items (entries_before block t.width t.height l c.loop-k.k) _ _ c.loop-k.out.items _ c.loop-k.invariant
    (c.in_ok-append_plain.ensures ∙ ap (λ (xs : List ℕ). c.loop-k.out.items ++ xs) (ap₂ plain_entry (ap₂ level_height e.grid e.level) c.cells_of_block.ensures.region))
    (entries_more block t.width t.height l c.loop-k.k)

pub returns : goal.returns
returns c =
    let t = c.args.grid.now in
    let l = c.args.level in
    let block = plain_entry (level_height t l) in
    let end = c.block_count-k-end.ensures.value in
    let whole : c.loop-k.k ≡ block_count t.width t.height l = omega arith in
    c.loop-k.invariant ∙ ap (λ (xs : List ℕ). c.args.out.now.items ++ xs) (ap (entries_before block t.width t.height l) whole ∙ entries_all block t.width t.height l)
