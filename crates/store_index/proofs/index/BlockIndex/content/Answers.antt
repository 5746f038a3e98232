use Rattle.std.proofs.Common.{◌≡◌, ◌+◌, ◌*◌, ◌/◌, ◌%◌, ap, ◌∙◌, arith}
use Rattle.store_reader.specs.Headers.{head_of}
use Rattle.store_index.specs.Places.{content_at, block_total, first_offset}
use Rattle.store_index.proofs.Marks.{there_behind, behind_more, number_is, block_whole}
use Rattle.store_index.proofs.index.BlockIndex.content.Goals as goal

pub skip-requires : goal.skip-requires
skip-requires c =
    let head = head_of c.args.header in
    let n = c.args.number in
    let sum : 32 * (n / 32) + n % 32 ≡ n = number_is n in
    let below = c.requires.number in
    there_behind c.args.bytes.now (first_offset head) c.mark_before-from.result (32 * (n / 32)) (block_total head) (n % 32) c.requires.blocks c.mark_before-from.ensures (omega (arith, sum, below))

pub content_at-requires : goal.content_at-requires
content_at-requires c =
    let head = head_of c.args.header in
    let n = c.args.number in
    block_whole c.args.bytes.now (first_offset head) (block_total head) n c.skip.result c.requires.blocks c.requires.number
    (c.skip.ensures ∙ behind_more c.args.bytes.now (first_offset head) c.mark_before-from.result (32 * (n / 32)) n (n % 32) c.mark_before-from.ensures (number_is n))

pub returns : goal.returns
returns c =
    let head = head_of c.args.header in
    let n = c.args.number in
    c.content_at.ensures
    ∙ ap (content_at c.args.bytes.now) (c.skip.ensures ∙ behind_more c.args.bytes.now (first_offset head) c.mark_before-from.result (32 * (n / 32)) n (n % 32) c.mark_before-from.ensures (number_is n))
