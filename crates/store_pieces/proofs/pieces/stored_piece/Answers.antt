use Rattle.std.proofs.Common.{◌≡◌, ℕ, ℤ, length, rules, sym, ◌∙◌, subst}
use Rattle.std.specs.Int.{w32}
use Rattle.std.proofs.lemmas.Int.{to_z-of_z}
use mir.Val.{to_z, of_z}
use Rattle.clip_regions.specs.Regions.{area}
use Rattle.block_heights.specs.Decoded.{IsPart, HasHeights, HasPieceFault}
use Rattle.terrain_store.specs.Blocks.{HasBlock}
use Rattle.store_pieces.specs.Laws.{IsPieceOf}
use Rattle.store_pieces.proofs.pieces.stored_piece.Goals as goal

pub piece_heights-requires-clause-cells : goal.piece_heights-requires-clause-cells
piece_heights-requires-clause-cells c =
    let block = c.block-block.result in
    let column : block.bx ≡ c.args.bx = c.block-block.ensures.column ∙ to_z-of_z w32 c.args.bx c.ranges.bx in
    let row : block.by ≡ c.args.by = c.block-block.ensures.row ∙ to_z-of_z w32 c.args.by c.ranges.by in
    subst (λ (b : ℤ). IsPart block.bx b c.args.cells) (sym row) (subst (λ (b : ℤ). IsPart b c.args.by c.args.cells) (sym column) c.requires.cells)

pub unreachable-requires : goal.unreachable-requires
unreachable-requires c =
    let block = c.block-block.result in
    let store = c.args.store.now in
    let here : HasBlock block.kind store c.args.level c.args.bx c.args.by block.inside =
    subst (λ (b : ℤ). HasBlock block.kind store c.args.level c.args.bx b block.inside) (to_z-of_z w32 c.args.by c.ranges.by)
    (subst (λ (b : ℤ). HasBlock block.kind store c.args.level b (to_z w32 (of_z w32 c.args.by)) block.inside) (to_z-of_z w32 c.args.bx c.ranges.bx) c.block-block.ensures.kind) in
    let piece : IsPieceOf store block.kind c.args.level c.args.bx c.args.by block.inside c.args.cells c.args.patch.now =
    record { stands = c.bytes-bytes.ensures.stored; in_store = c.requires.level; block = here; part = c.requires.cells; predicts = c.requires.predicts } in
    let n = length c.args.out.now in
    let fault : HasPieceFault block.kind c.args.patch.now store.head.step block.inside c.args.cells n c.in-Err.field-0 =
    subst (λ (s : ℕ). HasPieceFault block.kind c.args.patch.now s block.inside c.args.cells n c.in-Err.field-0) c.block-block.ensures.step c.in-Err.ensures.fault in
    c.pieces_of_blocks.ensures.faults store block.kind c.args.level c.args.bx c.args.by block.inside c.args.cells c.args.patch.now n c.in-Err.field-0 piece c.requires.places fault

pub returns : goal.returns
returns c =
    let block = c.block-block.result in
    let store = c.args.store.now in
    let here : HasBlock block.kind store c.args.level c.args.bx c.args.by block.inside =
    subst (λ (b : ℤ). HasBlock block.kind store c.args.level c.args.bx b block.inside) (to_z-of_z w32 c.args.by c.ranges.by)
    (subst (λ (b : ℤ). HasBlock block.kind store c.args.level b (to_z w32 (of_z w32 c.args.by)) block.inside) (to_z-of_z w32 c.args.bx c.ranges.bx) c.block-block.ensures.kind) in
    let piece : IsPieceOf store block.kind c.args.level c.args.bx c.args.by block.inside c.args.cells c.args.patch.now =
    record { stands = c.bytes-bytes.ensures.stored; in_store = c.requires.level; block = here; part = c.requires.cells; predicts = c.requires.predicts } in
    let out = c.piece_heights.new.out in
    let size : length out ≡ area c.args.cells = search rules in
    let heights : HasHeights block.kind c.args.patch.now store.head.step block.inside c.args.cells out =
    subst (λ (s : ℕ). HasHeights block.kind c.args.patch.now s block.inside c.args.cells out) c.block-block.ensures.step c.in-Ok.ensures.heights in
    c.pieces_of_blocks.ensures.heights store block.kind c.args.level c.args.bx c.args.by block.inside c.args.cells c.args.patch.now out piece size heights
