-- What a whole course puts: the frame of whole windows, or the steps of a play, one after another.
use Rattle.std.proofs.Common.{ℕ, ℤ, List, map, refl, sym, subst, inl, arith}
use Rattle.std.specs.List.{All}
use Rattle.std.proofs.lemmas.List.{length-replicate}
use Rattle.terrain_model.specs.Terrain.{Terrain, IsTerrain}
use Rattle.plan_model.specs.Limits.{IsSize, IsLevelCount, IsViewed}
use Rattle.plan_model.specs.Laws.{EvenWindows}
use Rattle.plan_model.specs.States.{OpenFrame, Pass, empty_level, start_state}
use Rattle.plan_model.specs.Rounds.{flight, fly_events}
use Rattle.plan_model.specs.declared.events.FlyLine.{FlyLine}
use Rattle.plan_model.specs.declared.events.Work.TheVariants.{Free}
use Rattle.plan_sound.specs.Laws.{SoundStarts}
use Rattle.plan_holds.specs.Laws.{KeptAtTheStart}
use Rattle.plan_flights.specs.Flights.{FlightsAreLegal, IsFlight}
use Rattle.watertight_laws.specs.Laws.{FramesAreWatertight}
use Rattle.frame_verdicts.specs.Laws.{FrameTextsAreJudgedWatertight}
use Rattle.grid_frames.specs.Whole.{whole_regions, whole_mesh, whole_windows}
use Rattle.grid_frames.proofs.Filled.{windows_filled, windows_many}
use Rattle.clip_script.specs.Ranges.{IsStep}
use Rattle.clip_script.specs.declared.step.Step.{Step}
use Rattle.clip_desk.specs.Plays.{play_actions, start_scene}
use Rattle.clip_flights.specs.Flights.{demo_line, flight_tally, fly_actions, played}
use Rattle.clip_runs.specs.Courses.{Frame, Play, Fly, Demo}
use Rattle.clip_runs.specs.WholeFrame.{frame_actions, whole_text, whole_line}
use Rattle.course_laws.specs.Laws.{CoursesPutWatertightFrames, PutsWatertight}
use Rattle.run_laws.proofs.Drawn.{EventLaws, IsDrawable, start_on_course}
use Rattle.course_laws.proofs.Flights.{flyable, legal_steps}
use Rattle.course_laws.proofs.Puts.{file, line, whole_frame, steps_put}

module _ (watertight : FramesAreWatertight) (judged : FrameTextsAreJudgedWatertight) (laws : EventLaws) where
  -- the frame of whole windows can be drawn
  whole_drawable : EvenWindows → (k levels : ℕ) (x y : ℤ) → IsSize k → IsLevelCount levels → IsViewed x → IsViewed y →
      IsDrawable k (record { number = 0; x = x; y = y; actives = whole_regions k levels x y })
  unfolding whole_regions
  whole_drawable even k levels x y size many column row = record {
    column = column;
    row = row;
    drawn = laws.drawn k 0 (whole_windows k levels x y) size (subst IsLevelCount (sym (windows_many k levels x y)) many)
        (windows_filled k levels x y (omega (arith, size.low)) column row even);
  }

  frame_put : EvenWindows → (terrain : Terrain) → IsTerrain terrain → (k levels : ℕ) (x y : ℤ) (name : List ℕ) → IsSize k → IsLevelCount levels → IsViewed x → IsViewed y →
      All (PutsWatertight terrain k) (frame_actions k levels x y name terrain)
  unfolding whole_text whole_mesh
  frame_put even terrain is k levels x y name size many column row =
      let frame : OpenFrame = record { number = 0; x = x; y = y; actives = whole_regions k levels x y } in
      file terrain k name (whole_text k levels x y terrain) (whole_line k levels x y terrain)
      (inl (whole_frame watertight judged terrain is k frame size (whole_drawable even k levels x y size many column row)))

  play_put : SoundStarts → KeptAtTheStart → (terrain : Terrain) → IsTerrain terrain → (k levels : ℕ) (steps : List Step) (name : List ℕ) → IsSize k → IsLevelCount levels →
      All (IsStep levels) steps → All (PutsWatertight terrain k) (play_actions terrain k levels steps name)
  unfolding play_actions start_state
  play_put starts kept terrain is k levels steps name size many in_range =
      steps_put watertight judged terrain is laws name k levels 0 (start_scene k levels) steps
      (record { on_course = start_on_course starts kept k levels size many; size = refl; many = length-replicate levels empty_level }) in_range

  -- a flight does what a play of its events does
  fly_put : SoundStarts → KeptAtTheStart → FlightsAreLegal → (terrain : Terrain) → IsTerrain terrain → (k levels workers : ℕ) (lines : List FlyLine) (name : List ℕ) →
      IsFlight k levels workers lines → All (PutsWatertight terrain k) (fly_actions terrain k levels workers lines name)
  unfolding fly_actions fly_events start_state
  fly_put starts kept legal terrain is k levels workers lines name flight_is =
      play_put starts kept terrain is k levels (map played (fly_events k levels workers lines)) name flight_is.size flight_is.many
      (legal_steps laws.sizes levels (flight k levels workers lines).history (start_state k levels) (length-replicate levels empty_level) (length-replicate {A = Pass} 16 Free)
      (legal k levels workers lines flight_is))

  pub courses_put : EvenWindows → SoundStarts → KeptAtTheStart → FlightsAreLegal → CoursesPutWatertightFrames
  courses_put even starts kept legal (Frame k x y) land name is in_range =
      frame_put even land.terrain is.sound k land.levels x y name in_range.size (record { low = is.some_levels; high = is.few_levels }) in_range.column in_range.row
  courses_put even starts kept legal (Play play) land name is in_range =
      play_put starts kept land.terrain is.sound play.k play.levels play.steps name in_range.sizes.size in_range.sizes.many in_range.steps
  courses_put even starts kept legal (Fly fly workers) land name is in_range =
      fly_put starts kept legal land.terrain is.sound fly.k fly.levels workers fly.lines name
      (record { size = in_range.0.sizes.size; many = in_range.0.sizes.many; few = in_range.1.few; lines = flyable fly.lines in_range.0.lines })
  courses_put even starts kept legal (Demo seed fly) land name is in_range =
      line land.terrain fly.k (demo_line seed (flight_tally land.terrain fly.k fly.levels 2 fly.lines))
