-- Which pieces of a level are offered, by the slots of its strip.
use Rattle.std.specs.Prelude.{ℕ, Bool, false, not, ◌&&◌, List, [], map, filter, Option, Some, None, is_some, if◌then◌else◌}
use Rattle.clip_regions.specs.declared.region.Region.{Region}
use Rattle.plan_model.specs.Strips.{first_of, pieces}
use Rattle.plan_model.specs.States.{State, level_at}
use Rattle.plan_model.specs.Tiles.{is_held, is_pinned}
use Rattle.plan_model.specs.Claims.{strip_at, held_needs, tile_of_piece, is_claimable, is_offered}
use Rattle.plan_model.specs.declared.tiles.Piece.{Piece}
use Rattle.plan_model.specs.declared.events.JobNote.{JobNote}
use Rattle.book_plan.specs.declared.slots.Slot.{Slot}

-- the piece's tile is neither held nor pinned, and no coarser tile that it needs is held
unfoldable pub is_free : State → ℕ → Piece → Bool
is_free st level piece =
    not (is_held st level (tile_of_piece st piece))
    && (not (is_pinned st level (tile_of_piece st piece)) && not (is_some (first_of (held_needs st level piece))))

-- the slot's piece can be claimed
unfoldable pub is_claimable_slot : State → ℕ → Slot → Bool
is_claimable_slot st level slot = not slot.finished && is_free st level slot.piece

-- a strip that may be there is there and offered
abbrev pub is_strip_offered : State → ℕ → Option Region → Bool
is_strip_offered st level None = false
is_strip_offered st level (Some strip) = is_offered st level strip

-- the pieces of a level that can be claimed, and the jobs that they make
abbrev pub pieces_in : State → ℕ → Option Region → List Piece
pieces_in st level None = []
pieces_in st level (Some strip) =
    if is_offered st level strip then filter (is_claimable st level) (pieces strip) else []

abbrev pub pieces_offered : State → ℕ → List Piece
pieces_offered st level = pieces_in st level (strip_at st level)

abbrev pub jobs_on : State → ℕ → List JobNote
jobs_on st level =
    map (λ piece. record { level = level; piece = piece; plan = (level_at st level).plan }) (pieces_offered st level)
