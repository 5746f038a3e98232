-- For whom a claim waits that is answered Busy, as a statement: the contract of a law of this crate.
use Rattle.std.specs.Prelude.{◌≡◌, ℕ, IsTrue}
use Rattle.plan_model.specs.States.{State, OpenFrame}
use Rattle.plan_model.specs.Tiles.{meets_tile}
use Rattle.plan_model.specs.Claims.{tile_of_piece}
use Rattle.plan_model.specs.Steps.{step}
use Rattle.plan_model.specs.declared.tiles.TileId.{TileId}
use Rattle.plan_model.specs.declared.tiles.Piece.{Piece}
use Rattle.plan_model.specs.declared.events.Event.TheVariants.{Claim}
use Rattle.plan_model.specs.declared.events.Answer.TheVariants.{Busy}
use Rattle.plan_holds.specs.Kept.{HasFrame, active_in}
use Rattle.plan_holds.specs.Stuck.{IsWaiting}

-- a pass has an open frame of this number, whose active region of the level has a cell in the tile
pub record IsPinnedByFrame (st : State) (level : ℕ) (t : TileId) (number : ℕ) : Type 0 where
  pub pass : ℕ
  pub frame : OpenFrame
  pub has : HasFrame st pass frame
  pub numbered : frame.number ≡ number
  pub meets : IsTrue (meets_tile st.k (active_in frame level) t)

-- the tile is that of the piece that waits on the level, and an open frame of this number pins it
pub record IsBusyWith (st : State) (level : ℕ) (t : TileId) (number : ℕ) : Type 0 where
  pub piece : Piece
  pub waits : IsWaiting st level piece
  pub tile : tile_of_piece st piece ≡ t
  pub pinned : IsPinnedByFrame st level t number

-- a claim is answered Busy only so
abbrev pub BusyClaimsWaitForFrames : Type 0
BusyClaimsWaitForFrames =
    (st : State) (p level : ℕ) (t : TileId) (number : ℕ) → (step st p Claim).answer ≡ Busy level t number →
    IsBusyWith st level t number
