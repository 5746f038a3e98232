-- Which pieces can be claimed, and what stands in the way of those that can't.
use Rattle.std.specs.Prelude.{ℕ, ◌+◌, Bool, not, ◌&&◌, ◌||◌, ◌==◌, List, [], map, filter, flat_map, length, Option, Some, None, is_some, unwrap_or, option_map, option_and_then, if◌then◌else◌}
use Rattle.std.specs.List.{list_any}
use Rattle.std.specs.Option.{option_or}
use Rattle.clip_regions.specs.declared.region.Region.{Region}
use Rattle.clip_regions.specs.Regions.{holds}
use Rattle.plan_model.specs.Blocks.{tile_of, same_block}
use Rattle.plan_model.specs.Strips.{first_of, current_strip, pieces, need}
use Rattle.plan_model.specs.States.{State, level_at, filled_at, window_at, is_used, used_from_coarsest, is_whole}
use Rattle.plan_model.specs.Tiles.{tiles_met, holder, is_held, pinner, is_pinned}
use Rattle.plan_model.specs.declared.tiles.TileId.{TileId}
use Rattle.plan_model.specs.declared.tiles.Piece.{Piece}
use Rattle.plan_model.specs.declared.events.Answer.{Answer}
use Rattle.plan_model.specs.declared.events.Answer.TheVariants.{Idle, Ripe, Busy, Held}

-- the current strip of a level: the first of its strips, and none where the level is left out
unfoldable pub strip_at : State → ℕ → Option Region
strip_at st level = if is_used st level then current_strip (filled_at st level) (window_at st level) else None

-- the pieces of a strip, where there is one
abbrev pub strip_pieces : Option Region → List Piece
strip_pieces None = []
strip_pieces (Some strip) = pieces strip

-- the pieces of a level's current strip
abbrev pub pieces_at : State → ℕ → List Piece
pieces_at st level = strip_pieces (strip_at st level)

-- the piece's block is that of a finished piece
unfoldable pub is_finished : List Piece → Piece → Bool
is_finished finished piece = list_any (same_block piece) finished

-- the pieces of a level's current strip that aren't finished
unfoldable pub unfinished_pieces : State → ℕ → List Piece
unfinished_pieces st level = filter (λ piece. not (is_finished (level_at st level).finished piece)) (pieces_at st level)

-- the held tiles of a level that a region meets, in the order of tiles
unfoldable pub held_tiles : State → ℕ → Region → List TileId
held_tiles st level r = filter (is_held st level) (tiles_met st.k r)

-- the coarser tiles that the piece of a level needs and that are held
abbrev pub held_needs : State → ℕ → Piece → List TileId
held_needs st level piece = held_tiles st (level + 1) (need piece.cells)

-- the tile of a piece
abbrev pub tile_of_piece : State → Piece → TileId
tile_of_piece st piece = tile_of st.k piece.bx piece.by

-- ---- what can be claimed

-- the piece of a level can be claimed: it isn't finished, its tile is neither held nor pinned, and no coarser tile that
-- it needs is held
unfoldable pub is_claimable : State → ℕ → Piece → Bool
is_claimable st level piece =
    (not (is_finished (level_at st level).finished piece) && not (is_held st level (tile_of_piece st piece)))
    && (not (is_pinned st level (tile_of_piece st piece)) && not (is_some (first_of (held_needs st level piece))))

-- the strip of a level is offered: the level is the coarsest, or the strip's need is filled on the coarser level
unfoldable pub is_offered : State → ℕ → Region → Bool
is_offered st level strip = (level + 1 == length st.levels) || holds (filled_at st (level + 1)) (need strip)

-- a piece of a level
pub record Offer : Type 0 where
  pub level : ℕ
  pub piece : Piece

-- the claimable pieces of a strip of a level, where the strip is there and offered
abbrev pub offers_of : State → ℕ → Option Region → List Offer
offers_of st level None = []
offers_of st level (Some strip) =
    if is_offered st level strip
    then map (λ piece. record { level = level; piece = piece }) (filter (is_claimable st level) (pieces strip))
    else []

-- all claimable pieces: the levels in use from the coarsest, each strip's pieces in their order
unfoldable pub offers : State → List Offer
offers st = flat_map (λ level. offers_of st level (strip_at st level)) (used_from_coarsest st)

-- ---- what is answered where nothing can be claimed

-- the answer that a tile of a level is held by a pass, where one holds it
abbrev pub held_answer : State → ℕ → TileId → Option Answer
held_answer st level t = option_map (Held level t) (holder st level t)

-- the answer that a tile of a level is pinned by a frame, where one pins it
abbrev pub busy_answer : State → ℕ → TileId → Option Answer
busy_answer st level t = option_map (Busy level t) (pinner st level t)

-- the answer that a coarser tile that the piece of a level needs is held, where one is
abbrev pub needed_answer : State → ℕ → Piece → Option Answer
needed_answer st level piece = option_and_then (held_answer st (level + 1)) (first_of (held_needs st level piece))

-- what stands in the way of a piece, the first that is there: its tile's holder, its tile's frame, a coarser holder
abbrev pub blocked : State → ℕ → Piece → Option Answer
blocked st level piece =
    option_or (held_answer st level (tile_of_piece st piece))
    (option_or (busy_answer st level (tile_of_piece st piece)) (needed_answer st level piece))

-- what is answered for a level's first unfinished piece (something blocks it in each state that a book reaches)
abbrev pub ripe_or_blocked : State → ℕ → Option Piece → Answer
ripe_or_blocked st level None = Ripe level
ripe_or_blocked st level (Some piece) = unwrap_or (blocked st level piece) Idle

-- what is answered for the coarsest level in use whose filled region isn't its window, if there is one
abbrev pub idle_or_stuck : State → Option ℕ → Answer
idle_or_stuck st None = Idle
idle_or_stuck st (Some level) = ripe_or_blocked st level (first_of (unfinished_pieces st level))

-- what is answered where nothing can be claimed
unfoldable pub no_offer : State → Answer
no_offer st = idle_or_stuck st (first_of (filter (λ level. not (is_whole st level)) (used_from_coarsest st)))
