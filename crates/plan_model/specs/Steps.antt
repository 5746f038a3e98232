-- What each of the six events answers and changes.
use Rattle.std.specs.Prelude.{ℕ, ◌+◌, Bool, ◌&&◌, ◌||◌, ◌==◌, ℤ, List, [], map, filter, flat_map, length, slice_index_or, Option, Some, None, unwrap_or, if◌then◌else◌}
use Rattle.std.specs.Bool.{beq}
use Rattle.clip_regions.specs.declared.region.Region.{Region}
use Rattle.clip_regions.specs.Regions.{empty_region, meet}
use Rattle.plan_model.specs.Blocks.{same_block}
use Rattle.plan_model.specs.Strips.{first_of, hull}
use Rattle.plan_model.specs.Actives.{actives}
use Rattle.plan_model.specs.States.{State, Level, OpenFrame, level_at, pass_at, with_level, with_pass, level_numbers, from_coarsest, finest_at, is_used, filled_at, filled_regions, window_at, same_region, job_of, frame_of, has_work}
use Rattle.plan_model.specs.Claims.{Offer, offers, no_offer, is_finished, pieces_at, unfinished_pieces, strip_at, held_tiles, held_answer}
use Rattle.plan_model.specs.declared.tiles.TileId.{TileId}
use Rattle.plan_model.specs.declared.tiles.Piece.{Piece}
use Rattle.plan_model.specs.declared.events.JobNote.{JobNote}
use Rattle.plan_model.specs.declared.events.Work.TheVariants.{Free, Fills, Draws}
use Rattle.plan_model.specs.declared.events.Event.{Event}
use Rattle.plan_model.specs.declared.events.Event.TheVariants.{Move, Claim, Finish, Publish, Begin, End}
use Rattle.plan_model.specs.declared.events.Answer.{Answer}
use Rattle.plan_model.specs.declared.events.Answer.TheVariants.{Moved, Job, Idle, HasWork, Kept, Stale, Grown, Waiting, Whole, Frame, Closed, NoFrame}

-- what an event leaves, and what it answers
pub record Step : Type 0 where
  pub state : State
  pub answer : Answer

-- an event that changes nothing
abbrev pub unchanged : State → Answer → Step
unchanged st answer = record { state = st; answer = answer }

-- ---- a move

-- the state with its viewer at (x, y) and altitude a
abbrev pub seen_from : State → ℤ → ℤ → ℕ → State
seen_from st x y a = record st { x = x; y = y; altitude = a }

-- a level stays between two states: its window is the same, and it is in use in both or in neither
unfoldable pub stays : State → State → ℕ → Bool
stays before after level =
    same_region (window_at before level) (window_at after level) && beq (is_used before level) (is_used after level)

-- a level after a move, by whether it stays and by its window then
unfoldable pub moved_level : Bool → Region → Level → Level
moved_level stays window old =
    if stays then old else record { filled = meet old.filled window; finished = []; plan = old.plan + 1 }

-- each level after a move from a state to another viewer
abbrev pub moved_levels : State → State → List Level
moved_levels before after =
    map (λ level. moved_level (stays before after level) (window_at after level) (level_at before level))
    (level_numbers before)

-- the viewer moves to (x, y) at altitude a
unfoldable pub move_step : State → ℤ → ℤ → ℕ → Step
move_step st x y a = record {
  state = record (seen_from st x y a) { levels = moved_levels st (seen_from st x y a) };
  answer = Moved;
}

-- ---- a claim

-- the job that a claimed piece makes
abbrev pub claimed_job : State → Offer → JobNote
claimed_job st offer = record { level = offer.level; piece = offer.piece; plan = (level_at st offer.level).plan }

-- the answer that tells a job
abbrev pub job_answer : JobNote → Answer
job_answer job = Job job.level job.piece.bx job.piece.by job.piece.cells job.plan

abbrev pub claimed : State → ℕ → Option Offer → Step
claimed st p None = unchanged st (no_offer st)
claimed st p (Some offer) = record {
  state = with_pass st p (Fills (claimed_job st offer));
  answer = job_answer (claimed_job st offer);
}

-- pass p claims the first claimable piece
unfoldable pub claim_step : State → ℕ → Step
claim_step st p = if has_work (pass_at st p) then unchanged st HasWork else claimed st p (first_of (offers st))

-- ---- a job that is given back

-- the level with one more finished piece, in the order of the strip's pieces
unfoldable pub finished_level : List Piece → Level → Piece → Level
finished_level all old piece =
    record old { finished = filter (λ other. same_block other piece || is_finished old.finished other) all }

-- a job of the level's plan: its piece is finished
abbrev pub kept_job : State → ℕ → JobNote → Step
kept_job st p job = record {
  state =
      with_level (with_pass st p Free) job.level
      (finished_level (pieces_at st job.level) (level_at st job.level) job.piece);
  answer = Kept;
}

-- a job of an older plan: nothing is finished
abbrev pub stale_job : State → ℕ → JobNote → Step
stale_job st p job = record { state = with_pass st p Free; answer = Stale job.plan (level_at st job.level).plan }

-- the job counts where its plan number is the level's
unfoldable pub finished_job : State → ℕ → JobNote → Step
finished_job st p job = if job.plan == (level_at st job.level).plan then kept_job st p job else stale_job st p job

-- a pass without a job has none to give back: that is never asked
abbrev pub given_back : State → ℕ → Option JobNote → Step
given_back st p None = unchanged st Idle
given_back st p (Some job) = finished_job st p job

-- pass p gives its job back
unfoldable pub finish_step : State → ℕ → Step
finish_step st p = given_back st p (job_of (pass_at st p))

-- ---- a publication

-- the level grown by its strip, all of whose pieces are finished
abbrev pub grown_level : Level → Region → Level
grown_level old strip = record { filled = hull old.filled strip; finished = []; plan = old.plan }

abbrev pub grown : State → ℕ → Region → Step
grown st level strip = record {
  state = with_level st level (grown_level (level_at st level) strip);
  answer = Grown (hull (filled_at st level) strip);
}

abbrev pub published : State → ℕ → Option Region → Step
published st level None = unchanged st Whole
published st level (Some strip) =
    if length (unfinished_pieces st level) == 0 then grown st level strip
    else unchanged st (Waiting (length (unfinished_pieces st level)))

-- the filled region of a level takes its current strip in
unfoldable pub publish_step : State → ℕ → Step
publish_step st level = published st level (strip_at st level)

-- ---- a frame's beginning and its end

-- a tile of a level
pub record LevelTile : Type 0 where
  pub level : ℕ
  pub tile : TileId

-- the held tiles that a list of active regions meets: the levels from the coarsest, each in the order of tiles
unfoldable pub held_under : State → List Region → List LevelTile
held_under st active =
    flat_map
    (λ level. map (λ t. record { level = level; tile = t })
    (held_tiles st level (slice_index_or active level empty_region)))
    (from_coarsest st)

-- the active regions of a state
abbrev pub actives_at : State → List Region
actives_at st = actives st.k (finest_at st) (filled_regions st)

-- the frame that would be begun
abbrev pub next_frame : State → OpenFrame
next_frame st = record { number = st.begun; x = st.x; y = st.y; actives = actives_at st }

-- a frame is begun, unless some tile that its active regions meet is held
abbrev pub frame_begun : State → ℕ → Option LevelTile → Step
frame_begun st p (Some held) = unchanged st (unwrap_or (held_answer st held.level held.tile) Idle)
frame_begun st p None = record {
  state = with_pass (record st { begun = st.begun + 1 }) p (Draws (next_frame st));
  answer = Frame st.begun;
}

-- pass p begins a frame of the active regions
unfoldable pub begin_step : State → ℕ → Step
begin_step st p =
    if has_work (pass_at st p) then unchanged st HasWork
    else frame_begun st p (first_of (held_under st (actives_at st)))

abbrev pub ended : State → ℕ → Option OpenFrame → Step
ended st p None = unchanged st NoFrame
ended st p (Some frame) = record { state = with_pass st p Free; answer = Closed frame.number }

-- pass p ends its frame
unfoldable pub end_step : State → ℕ → Step
end_step st p = ended st p (frame_of (pass_at st p))

-- ---- any event

-- what an event of a pass answers and changes: the pass of a move or a publication decides nothing
abbrev pub step : State → ℕ → Event → Step
step st p (Move x y a) = move_step st x y a
step st p Claim = claim_step st p
step st p Finish = finish_step st p
step st p (Publish level) = publish_step st level
step st p Begin = begin_step st p
step st p End = end_step st p
