-- What a book that is filled for one frame keeps.
use Rattle.std.specs.Prelude.{◌≡◌, ℕ, ℤ, IsTrue, length, if◌then◌else◌}
use Rattle.plan_model.specs.States.{State, OpenFrame}
use Rattle.plan_model.specs.Steps.{step}
use Rattle.plan_model.specs.Rounds.{is_ripe, is_settled}
use Rattle.plan_model.specs.declared.events.Event.TheVariants.{Publish}
use Rattle.plan_flights.specs.Flights.{IsAtRest}
use Rattle.grid_frames.specs.Whole.{whole_regions}
use Rattle.terrain_store.specs.Shapes.{Land}
use Rattle.clip_book.specs.Books.{BookView}

-- a state whose level is published, where it is ripe
abbrev pub published_if_ripe : State → ℕ → State
published_if_ripe st level = if is_ripe st level then (step st 0 (Publish level)).state else st

-- two states of one K and one number of levels, seen from one place
pub record IsAlike (old new : State) : Type 0 where
  pub k : new.k ≡ old.k
  pub x : new.x ≡ old.x
  pub y : new.y ≡ old.y
  pub altitude : new.altitude ≡ old.altitude
  pub levels : length new.levels ≡ length old.levels

-- the frame of whole windows of a state, the first of its book
abbrev pub whole_frame : State → OpenFrame
whole_frame st = record { number = 0; x = st.x; y = st.y; actives = whole_regions st.k (length st.levels) st.x st.y }

-- a book of a terrain at rest, with the windows of K round a viewer filled
pub record IsFilledFor (k : ℕ) (x y : ℤ) (land : Land) (book : BookView) : Type 0 where
  pub of_land : book.land ≡ land
  pub rest : IsAtRest book.plan.state
  pub settled : IsTrue (is_settled book.plan.state)
  pub size : book.plan.state.k ≡ k
  pub column : book.plan.state.x ≡ x
  pub row : book.plan.state.y ≡ y
  pub low : book.plan.state.altitude ≡ 0
  pub levels : length book.plan.state.levels ≡ land.levels
  pub first : book.plan.state.begun ≡ 0
  pub moves : book.plan.moves ≡ 1
