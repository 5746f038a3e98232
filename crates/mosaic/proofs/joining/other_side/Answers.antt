use Rattle.std.proofs.Common.{◌∙◌, sym, ap, Some, arith}
use Rattle.mosaic.proofs.Judging.{no_other_none, no_other_more, other_found, squares_more}
use Rattle.mosaic.proofs.joining.other_side.Goals as goal

pub loop-tile-init : goal.loop-tile-init
loop-tile-init c = record { value = no_other_none c.args.side c.args.tiles.now; squares = λ k d inside. absurd (omega (arith, inside)) }

pub returns-then-other-side-clause-value : goal.returns-then-other-side-clause-value
returns-then-other-side-clause-value c =
    let width = c.side-other.ensures.value in
    ap Some width ∙ sym (other_found c.args.side c.args.tiles.now c.loop-tile.tile-index c.tile-item.result c.loop-tile-test.true c.tile-item.is c.loop-tile.invariant.value (λ e. c.if-other-side.true (width ∙ e)))

pub loop-tile-preserved : goal.loop-tile-preserved
loop-tile-preserved c =
    let same = sym c.side-other.ensures.value ∙ c.if-other-side.false in
    record {
      value = no_other_more c.args.side c.args.tiles.now c.loop-tile.tile-index c.tile-item.result c.loop-tile-test.true c.tile-item.is c.loop-tile.invariant.value same;
      squares = squares_more c.args.side c.args.tiles.now c.loop-tile.tile-index c.tile-item.result c.loop-tile-test.true c.tile-item.is c.loop-tile.invariant.squares (record { columns = same; rows = c.side-other.ensures.tile.square ∙ same });
    }
