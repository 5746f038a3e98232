use Rattle.std.proofs.Common.{◌≡◌, map, filter, take}
use Rattle.plan_model.specs.Claims.{Offer, is_claimable}
use Rattle.plan_model.specs.declared.tiles.Piece.{Piece}
use Rattle.plan_plain_steps.proofs.offers.claimable_of.Given as goal

abbrev pub invariant-loop-piece : goal.invariant-loop-piece
invariant-loop-piece l =
    l.out.items ≡ map (λ (piece : Piece). let offer : Offer = record { level = l.fn.level; piece = piece } in offer) (filter (is_claimable l.fn.state l.fn.level) (take l.piece-index l.some))
