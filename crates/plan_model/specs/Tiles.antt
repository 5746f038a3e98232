-- Which torus tiles a region meets, which are held by a pass that fills them, and which are pinned by a frame that
-- shows them.
use Rattle.std.specs.Prelude.{ℕ, min, Bool, false, ◌&&◌, ◌==◌, List, [], ◌∷◌, map, filter, flat_map, fold, length, slice_index_or, Option, Some, None, is_some, IsTrue, if◌then◌else◌}
use Rattle.std.specs.List.{range_with_len, list_any}
use Rattle.clip_regions.specs.declared.region.Region.{Region}
use Rattle.clip_regions.specs.Regions.{empty_region}
use Rattle.plan_model.specs.Blocks.{tile_of, tiles_per_side, same_tile}
use Rattle.plan_model.specs.Strips.{first_of, pieces}
use Rattle.plan_model.specs.States.{State, OpenFrame, pass_at, job_of, frame_of}
use Rattle.plan_model.specs.declared.tiles.TileId.{TileId}
use Rattle.plan_model.specs.declared.events.JobNote.{JobNote}

-- the tiles of a torus: by row, then by column
unfoldable pub tiles : ℕ → List TileId
tiles k =
    flat_map (λ ty. map (λ tx. record { tx = tx; ty = ty }) (range_with_len 0 (tiles_per_side k)))
    (range_with_len 0 (tiles_per_side k))

-- the region has a cell in a block of the tile
unfoldable pub meets_tile : ℕ → Region → TileId → Bool
meets_tile k r t = list_any (λ p. same_tile (tile_of k p.bx p.by) t) (pieces r)

-- the tiles that a region meets, in the order of tiles
unfoldable pub tiles_met : ℕ → Region → List TileId
tiles_met k r = filter (meets_tile k r) (tiles k)

-- a pass's job holds the tile of a level
abbrev pub job_holds : ℕ → ℕ → TileId → Option JobNote → Bool
job_holds k level t None = false
job_holds k level t (Some job) = (job.level == level) && same_tile (tile_of k job.piece.bx job.piece.by) t

-- the pass that holds the tile of a level
unfoldable pub holder : State → ℕ → TileId → Option ℕ
holder st level t =
    first_of
    (filter (λ p. job_holds st.k level t (job_of (pass_at st p))) (range_with_len 0 (length st.passes)))

-- the tile of a level is held
unfoldable pub is_held : State → ℕ → TileId → Bool
is_held st level t = is_some (holder st level t)

abbrev pub IsHeld : State → ℕ → TileId → Type 0
IsHeld st level t = IsTrue (is_held st level t)

-- the number of a frame whose active region of a level meets the tile, in a list
abbrev pub pins_of : ℕ → ℕ → TileId → Option OpenFrame → List ℕ
pins_of k level t None = []
pins_of k level t (Some frame) =
    if meets_tile k (slice_index_or frame.actives level empty_region) t then frame.number ∷ [] else []

-- the numbers of the open frames that pin the tile of a level
unfoldable pub pinning_frames : State → ℕ → TileId → List ℕ
pinning_frames st level t = flat_map (λ pass. pins_of st.k level t (frame_of pass)) st.passes

-- the lesser of a number and another, where there is another
abbrev pub lesser : Option ℕ → ℕ → Option ℕ
lesser None n = Some n
lesser (Some m) n = Some (min m n)

-- the least number of a frame that pins the tile of a level
unfoldable pub pinner : State → ℕ → TileId → Option ℕ
pinner st level t = fold lesser None (pinning_frames st level t)

-- the tile of a level is pinned
unfoldable pub is_pinned : State → ℕ → TileId → Bool
is_pinned st level t = is_some (pinner st level t)

abbrev pub IsPinned : State → ℕ → TileId → Type 0
IsPinned st level t = IsTrue (is_pinned st level t)

-- the frame of that number was begun and hasn't ended
abbrev pub frame_is : ℕ → Option OpenFrame → Bool
frame_is n None = false
frame_is n (Some frame) = frame.number == n

unfoldable pub is_open : State → ℕ → Bool
is_open st n = list_any (λ pass. frame_is n (frame_of pass)) st.passes

abbrev pub IsOpen : State → ℕ → Type 0
IsOpen st n = IsTrue (is_open st n)
