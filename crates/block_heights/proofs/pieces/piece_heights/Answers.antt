use Rattle.std.proofs.Common.{◌∙◌, length, subst}
use Rattle.block_heights.specs.declared.block.Kind.{Kind}
use Rattle.block_heights.specs.Decoded.{HasKind}
use Rattle.block_heights.proofs.Parts.{area_is, small_of_part, small_of_cells, patch_of_part}
use Rattle.block_heights.proofs.pieces.piece_heights.Goals as goal

pub plain_piece-requires-clause-inside : goal.plain_piece-requires-clause-inside
plain_piece-requires-clause-inside c =
    let kind = subst (λ (k : Kind). HasKind k c.args.block.now.bx c.args.block.now.by c.args.block.now.inside c.args.patch.now) c.in-Plain.is c.requires.kind in
    small_of_part c.args.block.now.bx c.args.block.now.by c.args.block.now.inside c.requires.placed kind.0

pub plain_piece-requires-clause-cells : goal.plain_piece-requires-clause-cells
plain_piece-requires-clause-cells c =
    λ some. small_of_cells c.args.block.now.bx c.args.block.now.by c.args.cells (length c.args.out.now) c.requires.placed c.requires.cells c.requires.places some

pub plain_piece-requires-clause-places : goal.plain_piece-requires-clause-places
plain_piece-requires-clause-places c =
    c.requires.places ∙ area_is c.args.cells

pub word_piece-requires-clause-inside : goal.word_piece-requires-clause-inside
word_piece-requires-clause-inside c =
    let kind = subst (λ (k : Kind). HasKind k c.args.block.now.bx c.args.block.now.by c.args.block.now.inside c.args.patch.now) c.in-Words.is c.requires.kind in
    small_of_part c.args.block.now.bx c.args.block.now.by c.args.block.now.inside c.requires.placed kind.0

pub word_piece-requires-clause-patch : goal.word_piece-requires-clause-patch
word_piece-requires-clause-patch c =
    let kind = subst (λ (k : Kind). HasKind k c.args.block.now.bx c.args.block.now.by c.args.block.now.inside c.args.patch.now) c.in-Words.is c.requires.kind in
    patch_of_part c.args.block.now.bx c.args.block.now.by c.args.block.now.inside c.args.patch.now kind.0 kind.2

pub word_piece-requires-clause-cells : goal.word_piece-requires-clause-cells
word_piece-requires-clause-cells c =
    λ some. small_of_cells c.args.block.now.bx c.args.block.now.by c.args.cells (length c.args.out.now) c.requires.placed c.requires.cells c.requires.places some

pub word_piece-requires-clause-places : goal.word_piece-requires-clause-places
word_piece-requires-clause-places c =
    c.requires.places ∙ area_is c.args.cells
