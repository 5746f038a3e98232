-- A flight: rounds in which workers claim and fill pieces and one pass draws a frame, made by taking one step after the
-- other.
use Rattle.std.specs.Prelude.{ℕ, zero, suc, ◌-◌, Bool, true, false, ◌&&◌, ◌==◌, List, [], ◌∷◌, map, fold, length, sum_by, is_some, if◌then◌else◌}
use Rattle.std.specs.List.{range_with_len, list_all}
use Rattle.clip_regions.specs.Regions.{area, meet}
use Rattle.plan_model.specs.States.{State, start_state, pass_at, job_of, frame_of, levels_used, from_coarsest, filled_at, window_at, is_whole}
use Rattle.plan_model.specs.Claims.{strip_at, unfinished_pieces}
use Rattle.plan_model.specs.Steps.{step}
use Rattle.plan_model.specs.Histories.{Asked, Run, asked_by, run_from, then_step}
use Rattle.plan_model.specs.declared.events.Event.TheVariants.{Move, Claim, Finish, Publish, Begin, End}
use Rattle.plan_model.specs.declared.events.Answer.{Answer}
use Rattle.plan_model.specs.declared.events.Answer.TheVariants.{Job}
use Rattle.plan_model.specs.declared.events.FlyLine.{FlyLine}
use Rattle.plan_model.specs.declared.events.FlyLine.TheVariants.{Move as FlyMove, Frame as FlyFrame, Settle}

-- the pass that draws the frames of a flight
abbrev pub frame_pass : ℕ
frame_pass = 15

-- the answer gives a job
abbrev pub is_job : Answer → Bool
is_job (Job level bx by cells plan) = true
is_job _ = false

-- the passes claim in turn, up to the first answer that isn't a job
abbrev pub claims : Run → List ℕ → Run
claims run [] = run
claims run (p ∷ rest) =
    if is_job (step run.state p Claim).answer then claims (then_step run p Claim) rest else then_step run p Claim

-- pass p gives its job back, where it has one
unfoldable pub finish_of : Run → ℕ → Run
finish_of run p = if is_some (job_of (pass_at run.state p)) then then_step run p Finish else run

-- each pass that has a job gives it back, in the order of the numbers
unfoldable pub finishes : Run → Run
finishes run = fold finish_of run (range_with_len 0 (length run.state.passes))

-- the frame ends, where there is one
unfoldable pub ending : Run → Run
ending run = if is_some (frame_of (pass_at run.state frame_pass)) then then_step run frame_pass End else run

-- all pieces of a level's current strip are finished
unfoldable pub is_ripe : State → ℕ → Bool
is_ripe st level = is_some (strip_at st level) && (length (unfinished_pieces st level) == 0)

-- a level is published, where it is ripe
unfoldable pub publish_of : Run → ℕ → Run
publish_of run level = if is_ripe run.state level then then_step run 0 (Publish level) else run

-- each ripe level is published, from the coarsest
unfoldable pub publishes : Run → Run
publishes run = fold publish_of run (from_coarsest run.state)

-- one round of a flight with a number of workers
unfoldable pub round : ℕ → Run → Run
round workers run = publishes (ending (finishes (claims run (range_with_len 0 workers))))

-- the filled region of every level in use is its window
unfoldable pub is_settled : State → Bool
is_settled st = list_all (is_whole st) (levels_used st)

-- rounds while some level in use isn't whole when the round would start, at most as many as the first argument
abbrev pub rounds : ℕ → ℕ → Run → Run
rounds zero workers run = run
rounds (suc more) workers run = if is_settled run.state then run else rounds more workers (round workers run)

-- how many cells of a level's window its filled region doesn't hold
unfoldable pub unfilled_cells : State → ℕ → ℕ
unfilled_cells st level = area (window_at st level) - area (meet (window_at st level) (filled_at st level))

-- how many cells of the windows of the levels in use no filled region holds
unfoldable pub cells_to_fill : State → ℕ
cells_to_fill st = sum_by (unfilled_cells st) (levels_used st)

-- rounds until all levels in use are whole: each finishes a piece, so there are no more than cells to fill
unfoldable pub settle : ℕ → Run → Run
settle workers run = rounds (cells_to_fill run.state) workers run

-- one line of a flight
abbrev pub fly_line : ℕ → Run → FlyLine → Run
fly_line workers run (FlyMove x y a) = then_step run 0 (Move x y a)
fly_line workers run FlyFrame = round workers (then_step run frame_pass Begin)
fly_line workers run Settle = settle workers run

-- the flight of a script, for K, a number of levels and a number of workers
unfoldable pub flight : ℕ → ℕ → ℕ → List FlyLine → Run
flight k levels workers script = fold (fly_line workers) (run_from (start_state k levels)) script

-- the events of a flight
unfoldable pub fly_events : ℕ → ℕ → ℕ → List FlyLine → List Asked
fly_events k levels workers script = map asked_by (flight k levels workers script).history
