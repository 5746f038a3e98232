use Rattle.std.proofs.Common.{List, ℕ, ◌+◌, ◌-◌, ◌/◌, ◌<◌, length, ap, ◌∙◌, arith}
use Rattle.std.proofs.lemmas.List.{get_or_read}
use Rattle.store_reader.specs.Headers.{head_of}
use Rattle.store_index.specs.Places.{block_total, first_offset}
use Rattle.store_index.proofs.Marks.{mark_there, mark_is, no_mark_is}
use Rattle.store_index.proofs.index.BlockIndex.mark_before.Goals as goal

pub returns-then-number-lt32 : goal.returns-then-number-lt32
returns-then-number-lt32 c =
    ap (λ (v : ℕ). 12 + v) c.from.ensures ∙ no_mark_is c.args.bytes.now (12 + c.args.header.version) c.args.number c.if-number-lt32.true

pub index-requires : goal.index-requires
index-requires c =
    let head = head_of c.args.header in
    let there = mark_there c.args.bytes.now (first_offset head) (block_total head) c.args.number c.self.inside.marks.items (c.self.view_is ∙ c.requires.index) c.requires.number c.if-number-lt32.false in
    omega (arith, c.self.inside.marks.ok)

pub returns : goal.returns
returns c =
    let head = head_of c.args.header in
    let marks : List ℕ = c.self.inside.marks.items in
    let e = c.self.view_is ∙ c.requires.index in
    let there : c.args.number / 32 - 1 < length marks = mark_there c.args.bytes.now (first_offset head) (block_total head) c.args.number marks e c.requires.number c.if-number-lt32.false in
    get_or_read marks (c.args.number / 32 - 1) c.index.result.now there c.index.ensures 0
    ∙ mark_is c.args.bytes.now (first_offset head) (block_total head) c.args.number 0 marks e c.requires.number c.if-number-lt32.false
