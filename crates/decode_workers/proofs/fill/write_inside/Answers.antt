use Rattle.std.proofs.Common.{ℤ, sym, ◌∙◌, subst}
use Rattle.clip_regions.specs.declared.region.Region.{Region}
use Rattle.four_point.specs.declared.patch.Patch.{Patch}
use Rattle.block_heights.specs.Decoded.{IsPart, HasKind}
use Rattle.decode_workers.proofs.Filling.{kind_of_job, step_of_job, part_of_job, no_fault, heights_are}
use Rattle.decode_workers.proofs.fill.write_inside.Goals as goal

pub piece_heights-requires-clause-kind : goal.piece_heights-requires-clause-kind
piece_heights-requires-clause-kind c =
    let block = c.args.block.now in
    subst (λ (p : Patch). HasKind block.kind block.bx block.by block.inside p) (sym c.patch.ensures.value) (kind_of_job block c.args.job.now c.requires.block c.patch.ensures.kept)

pub piece_heights-requires-clause-step : goal.piece_heights-requires-clause-step
piece_heights-requires-clause-step c = step_of_job c.args.block.now c.args.job.now c.requires.block

pub piece_heights-requires-clause-cells : goal.piece_heights-requires-clause-cells
piece_heights-requires-clause-cells c =
    let job = c.args.job.now in
    let b = c.requires.block in
    subst (λ (r : Region). IsPart c.args.block.now.bx c.args.block.now.by r) (sym c.cells.ensures)
    (subst (λ (y : ℤ). IsPart c.args.block.now.bx y job.note.piece.cells) (sym b.row)
    (subst (λ (x : ℤ). IsPart x job.note.piece.by job.note.piece.cells) (sym b.column) (part_of_job job.land job.note job.patch c.patch.ensures.kept)))

pub unreachable-requires : goal.unreachable-requires
unreachable-requires c =
    no_fault c.pieces_of_blocks.ensures.faults c.args.block.now c.args.job.now c.requires.block c.patch.ensures.kept c.patch.result.now c.cells.result _ c.in-Err.field-0 c.patch.ensures.value c.cells.ensures c.requires.places c.in-Err.ensures.fault

pub returns-clause-heights : goal.returns-clause-heights
returns-clause-heights c =
    heights_are c.pieces_of_blocks.ensures.heights c.args.block.now c.args.job.now c.requires.block c.patch.ensures.kept c.patch.result.now c.cells.result c.piece_heights.new.out c.patch.ensures.value c.cells.ensures (c.piece_heights.auto.out ∙ c.requires.places) c.in-Ok.ensures.heights
