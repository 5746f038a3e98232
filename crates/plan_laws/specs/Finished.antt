-- The finished and the unfinished pieces of a strip, as statements: each is the contract of a law of this crate.
use Rattle.std.specs.Prelude.{◌≡◌, ◌+◌, Bool, not, List, filter, length}
use Rattle.clip_regions.specs.declared.region.Region.{Region}
use Rattle.plan_model.specs.Strips.{pieces}
use Rattle.plan_model.specs.Claims.{is_finished}
use Rattle.plan_model.specs.declared.tiles.Piece.{Piece}

-- where the finished pieces are some of a region's pieces, in their order, they are those that are found finished
abbrev pub FinishedAreFound : Type 0
FinishedAreFound =
    (r : Region) (finished : List Piece) (test : Piece → Bool) → finished ≡ filter test (pieces r) →
    filter (is_finished finished) (pieces r) ≡ finished

-- the finished and the unfinished pieces are together as many as the region's
abbrev pub FinishedAndUnfinished : Type 0
FinishedAndUnfinished =
    (r : Region) (finished : List Piece) (test : Piece → Bool) → finished ≡ filter test (pieces r) →
    length finished + length (filter (λ piece. not (is_finished finished piece)) (pieces r)) ≡ length (pieces r)
