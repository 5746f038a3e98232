-- The frame of a settled book has the active regions of whole windows.
use Rattle.std.proofs.Common.{◌≡◌, ℕ, zero, suc, ◌++◌, ◌+◌, ◌-◌, ◌<◌, ◌≤◌, ◌==◌, ◌^◌, Bool, true, cond, ℤ, List, [], ◌∷◌, map, length, get_or, Some, None, refl, ap, sym, ◌∙◌, subst, inl, inr, arith}
use Rattle.std.proofs.lemmas.Bool.{and_parts, cases_eq, cond-false, le-leb, or_right}
use Rattle.std.proofs.lemmas.Int.{ints}
use Rattle.std.proofs.lemmas.List.{ext_get_or, get_or-map, get_or-set_same, length-map, length-replicate}
use Rattle.std.proofs.lemmas.List.Elements.{All-cons, All-nil}
use Rattle.std.proofs.lemmas.List.FromFn.{length-map-range_with_len, get_or-map-range_with_len}
use Rattle.std.specs.List.{filter, flat_map, range_with_len, list_all}
use Rattle.std.specs.Option.{unwrap_or}
use Rattle.clip_regions.specs.declared.region.Region.{Region}
use Rattle.clip_regions.specs.Regions.{empty_region}
use Rattle.clip_regions.proofs.Cells.{same_corners}
use Rattle.plan_model.specs.Limits.{IsSize, IsLevelCount, IsViewer}
use Rattle.plan_model.specs.Strips.{first_of}
use Rattle.plan_model.specs.Window.{window}
use Rattle.plan_model.specs.Actives.{actives}
use Rattle.plan_model.specs.States.{State, Level, OpenFrame, from_coarsest, pass_at, frame_of, has_work, start_state, empty_level, filled_at, filled_regions, window_at, finest_at, finest_used, is_seen, is_whole}
use Rattle.plan_model.specs.Claims.{held_tiles}
use Rattle.plan_model.specs.Tiles.{is_held, tiles_met}
use Rattle.plan_model.specs.Steps.{Step, LevelTile, actives_at, begin_step, move_step, frame_begun, held_under, next_frame, step, unchanged}
use Rattle.plan_model.specs.declared.tiles.TileId.{TileId}
use Rattle.plan_model.specs.declared.events.Answer.{Answer}
use Rattle.plan_model.specs.declared.events.Answer.TheVariants.{HasWork}
use Rattle.plan_model.specs.declared.events.Work.TheVariants.{Free, Draws}
use Rattle.plan_model.specs.Sound.{IsInside, IsPartOf}
use Rattle.plan_model.specs.Histories.{then_step}
use Rattle.plan_model.specs.Rounds.{is_settled, flight}
use Rattle.plan_model.specs.declared.events.Event.TheVariants.{Move, Begin}
use Rattle.plan_model.specs.declared.events.FlyLine.TheVariants.{Move as FlyMove}
use Rattle.plan_flights.specs.Below.{LawsBelow}
use Rattle.plan_flights.specs.Flights.{FlightsEndAtRest, IsAtRest, IsFlyable}
use Rattle.plan_flights.proofs.Progress.{none_held, none_pass, window_filled}
use Rattle.plan_flights.proofs.Ripe.{part_at}
use Rattle.grid_frames.specs.Whole.{whole_mesh, whole_regions, whole_windows}
use Rattle.terrain_model.specs.Terrain.{Terrain}
use Rattle.mesh_model.specs.Mesh.{mesh}
use Rattle.mesh_model.specs.Text.{frame_text}
use Rattle.run_actions.specs.Actions.{Put, Write}
use Rattle.clip_desk.specs.Frames.{mesh_of, whole_text_of}
use Rattle.clip_desk.specs.Lines.{told_line}
use Rattle.clip_runs.specs.WholeFrame.{frame_actions, whole_line, whole_text}
use Rattle.plan_holds.specs.Laws.{StepsGoOn}
use Rattle.book_plan.specs.Books.{PlanView}
use Rattle.book_plan.proofs.Plans.{step_counts}
use Rattle.terrain_store.specs.Shapes.{Land}
use Rattle.clip_book.specs.Books.{BookView, started}
use Rattle.clip_desk.specs.Desks.{Stays, Takes}
use Rattle.clip_runs.specs.Settles.{IsAlike, IsFilledFor, whole_frame}

-- after the first move a book is at rest
pub moved_rests : FlightsEndAtRest → (k levels : ℕ) (x y : ℤ) (a : ℕ) → IsSize k → IsLevelCount levels → IsViewer x y a → IsAtRest (step (start_state k levels) 0 (Move x y a)).state
unfolding flight then_step
moved_rests law k levels x y a size many viewer =
    law k levels 1 (FlyMove x y a ∷ []) (record { size = size; many = many; few = omega arith; lines = All-cons IsFlyable (FlyMove x y a) [] viewer (All-nil IsFlyable) })

-- at altitude 0 every level is in use
pub finest_zero : (k n : ℕ) → finest_used k (suc n) 0 ≡ 0
unfolding finest_used is_seen
finest_zero k n =
    ap (λ (b : Bool). unwrap_or (first_of (cond b (0 ∷ filter (is_seen k (suc n) 0) (range_with_len 1 n)) (filter (is_seen k (suc n) 0) (range_with_len 1 n)))) 0)
    (or_right (0 + 1 == suc n) _ (le-leb 0 (2 ^ (k + 0)) (omega arith)))

-- what is true of each number of a range
at_each : (p : ℕ → Bool) (a n i : ℕ) → list_all p (range_with_len a n) ≡ true → a ≤ i → i < a + n → p i ≡ true
at_each p a zero i all low high = absurd (omega arith)
at_each p a (suc n) i all low high =
    let both : (p a ≡ true) × (list_all p (range_with_len (a + 1) n) ≡ true) = and_parts (p a) (list_all p (range_with_len (a + 1) n)) all in
    elim (cases_eq i a) [
      | inl e ↦ subst (λ (j : ℕ). p j ≡ true) (sym e) both.0
      | inr apart ↦ at_each p (a + 1) n i both.1 (omega arith) (omega arith)
    ]

-- a filled region that holds its window is the window
filled_is : (window filled : Region) → IsPartOf window filled → IsInside filled window → filled ≡ window
filled_is window filled (inl empty) outer =
    let it : IsInside empty_region window = subst (λ (r : Region). IsInside r window) empty outer in
    absurd (omega (arith, ints, it.west, it.columns, it.east))
filled_is window filled (inr inner) outer =
    same_corners filled window (omega (arith, ints, outer.west, inner.inside.west)) (omega (arith, ints, outer.north, inner.inside.north)) (omega (arith, ints, outer.east, inner.inside.east)) (omega (arith, ints, outer.south, inner.inside.south))

module _ (known : LawsBelow) (st : State) (rest : IsAtRest st) (settled : is_settled st ≡ true) (low : st.altitude ≡ 0) where
  finest_is : finest_at st ≡ 0
  finest_is = at_count (length st.levels) rest.sound.many.low where
    at_count : (n : ℕ) → 1 ≤ n → finest_used st.k n st.altitude ≡ 0
    at_count zero h = absurd (omega arith)
    at_count (suc n) h = ap (finest_used st.k (suc n)) low ∙ finest_zero st.k n

  level_whole : (level : ℕ) → level < length st.levels → is_whole st level ≡ true
  unfolding is_settled
  level_whole level there =
      let from : finest_at st ≡ 0 = finest_is in
      at_each (is_whole st) (finest_at st) (length st.levels - finest_at st) level settled (omega arith) (omega arith)

  level_is : (level : ℕ) → level < length st.levels → filled_at st level ≡ window_at st level
  level_is level there =
      filled_is (window_at st level) (filled_at st level) (part_at st level (record { bound = rest.bound; sound = rest.sound })) (window_filled known st rest level (level_whole level there))

  -- the filled regions are the windows
  all_filled : filled_regions st ≡ whole_windows st.k (length st.levels) st.x st.y
  unfolding whole_windows
  all_filled =
      ext_get_or empty_region (filled_regions st) (map (λ (level : ℕ). window st.k level st.x st.y) (range_with_len 0 (length st.levels)))
      (length-map st.levels (λ (l : Level). l.filled) ∙ sym (length-map-range_with_len (λ (level : ℕ). window st.k level st.x st.y) 0 (length st.levels)))
      (λ i inside.
      let there : i < length st.levels = subst (λ (n : ℕ). i < n) (length-map st.levels (λ (l : Level). l.filled)) inside in
      get_or-map (λ (l : Level). l.filled) st.levels i empty_level empty_region there ∙ level_is i there
      ∙ sym (get_or-map-range_with_len (λ (level : ℕ). window st.k level st.x st.y) 0 (length st.levels) i i empty_region there (omega arith)))

  -- so the active regions are those of whole windows
  pub actives_whole : actives_at st ≡ whole_regions st.k (length st.levels) st.x st.y
  unfolding whole_regions
  actives_whole =
      ap (λ (n : ℕ). actives st.k n (filled_regions st)) finest_is ∙ ap (actives st.k 0) all_filled

-- ---- the beginning of the frame
all_empty : {X Y : Type 0} (f : X → List Y) (xs : List X) → ((x : X) → f x ≡ []) → flat_map f xs ≡ []
all_empty f [] none = refl
all_empty f (x ∷ xs) none = ap (λ front. front ++ flat_map f xs) (none x) ∙ all_empty f xs none

module _ (st : State) (rest : IsAtRest st) where
  no_held_tiles : (level : ℕ) (r : Region) → held_tiles st level r ≡ []
  unfolding held_tiles
  no_held_tiles level r = none_pass (is_held st level) (tiles_met st.k r) (λ (t : TileId). none_held st rest.free level t)

  nothing_held : (active : List Region) → held_under st active ≡ []
  unfolding held_under
  nothing_held active =
      all_empty (λ (level : ℕ). map (λ (t : TileId). let tile : LevelTile = record { level = level; tile = t } in tile) (held_tiles st level (get_or active level empty_region))) (from_coarsest st)
      (λ level. ap (map (λ (t : TileId). let tile : LevelTile = record { level = level; tile = t } in tile)) (no_held_tiles level (get_or active level empty_region)))

  begin_is : begin_step st 0 ≡ frame_begun st 0 None
  unfolding begin_step
  begin_is =
      cond-false (has_work (pass_at st 0)) (unchanged st HasWork) (frame_begun st 0 (first_of (held_under st (actives_at st)))) (ap has_work (rest.free 0))
      ∙ ap (λ (tiles : List LevelTile). frame_begun st 0 (first_of tiles)) (nothing_held (actives_at st))

  pub begun_frame : frame_of (pass_at (step st 0 Begin).state 0) ≡ Some (next_frame st)
  begun_frame =
      let many : length st.passes ≡ 16 = rest.sound.passes in
      ap (λ (s : Step). frame_of (pass_at s.state 0)) begin_is ∙ ap frame_of (get_or-set_same st.passes 0 (Draws (next_frame st)) Free (omega (arith, many)))

  pub begun_size : (step st 0 Begin).state.k ≡ st.k
  begun_size = ap (λ (s : Step). s.state.k) begin_is

-- the frame of a settled book
pub frame_is : LawsBelow → (st : State) → IsAtRest st → is_settled st ≡ true → st.altitude ≡ 0 → st.begun ≡ 0 → next_frame st ≡ whole_frame st
frame_is known st rest settled low first =
    ap (λ (n : ℕ). let f : OpenFrame = record { number = n; x = st.x; y = st.y; actives = actives_at st } in f) first
    ∙ ap (λ (regions : List Region). let f : OpenFrame = record { number = 0; x = st.x; y = st.y; actives = regions } in f) (actives_whole known st rest settled low)

-- what the first move leaves
module _ (go_on : StepsGoOn) (k n : ℕ) (x y : ℤ) where
  pub moved_size : (step (start_state k n) 0 (Move x y 0)).state.k ≡ k
  unfolding move_step start_state
  moved_size = refl

  pub moved_column : (step (start_state k n) 0 (Move x y 0)).state.x ≡ x
  unfolding move_step start_state
  moved_column = refl

  pub moved_row : (step (start_state k n) 0 (Move x y 0)).state.y ≡ y
  unfolding move_step start_state
  moved_row = refl

  pub moved_low : (step (start_state k n) 0 (Move x y 0)).state.altitude ≡ 0
  unfolding move_step start_state
  moved_low = refl

  pub moved_first : (step (start_state k n) 0 (Move x y 0)).state.begun ≡ 0
  unfolding move_step start_state
  moved_first = refl

  pub moved_levels : length (step (start_state k n) 0 (Move x y 0)).state.levels ≡ n
  unfolding start_state
  moved_levels = (go_on (start_state k n) 0 (Move x y 0)).levels ∙ length-replicate n empty_level

-- a book that was moved once from its start and then filled
pub filled_for : FlightsEndAtRest → StepsGoOn → (k : ℕ) (x y : ℤ) (land : Land) (answer : Answer) (start moved filled : BookView) → IsSize k → IsLevelCount land.levels → IsViewer x y 0 →
    start.plan ≡ started k land → start.land ≡ land → Takes 0 (Move x y 0) answer start moved → IsAtRest filled.plan.state → is_settled filled.plan.state ≡ true →
    IsAlike moved.plan.state filled.plan.state → Stays moved filled → IsFilledFor k x y land filled
filled_for law go_on k x y land answer start moved filled size many viewer begins names takes rest settled alike stays =
    let is : moved.plan.state ≡ (step (start_state k land.levels) 0 (Move x y 0)).state = takes.plan.state ∙ ap (λ (plan : PlanView). (step plan.state 0 (Move x y 0)).state) begins in
    let none : moved.plan.state.begun ≡ 0 = ap (λ (st : State). st.begun) is ∙ moved_first go_on k land.levels x y in
    let one : moved.plan.moves ≡ 1 = takes.plan.moves ∙ ap (λ (plan : PlanView). plan.moves + 1) begins in
    record {
      of_land = stays.land ∙ takes.land ∙ names;
      rest = rest;
      settled = settled;
      size = alike.k ∙ ap (λ (st : State). st.k) is ∙ moved_size go_on k land.levels x y;
      column = alike.x ∙ ap (λ (st : State). st.x) is ∙ moved_column go_on k land.levels x y;
      row = alike.y ∙ ap (λ (st : State). st.y) is ∙ moved_row go_on k land.levels x y;
      low = alike.altitude ∙ ap (λ (st : State). st.altitude) is ∙ moved_low go_on k land.levels x y;
      levels = alike.levels ∙ ap (λ (st : State). length st.levels) is ∙ moved_levels go_on k land.levels x y;
      first = omega (arith, stays.begun, none);
      moves = stays.moves ∙ one;
    }

-- the same of the book before it is filled
pub moved_at_rest : FlightsEndAtRest → (k : ℕ) (x y : ℤ) (land : Land) (answer : Answer) (start moved : BookView) → IsSize k → IsLevelCount land.levels → IsViewer x y 0 →
    start.plan ≡ started k land → Takes 0 (Move x y 0) answer start moved → IsAtRest moved.plan.state
moved_at_rest law k x y land answer start moved size many viewer begins takes =
    subst IsAtRest (sym (takes.plan.state ∙ ap (λ (plan : PlanView). (step plan.state 0 (Move x y 0)).state) begins)) (moved_rests law k land.levels x y 0 size many viewer)

pub some_is : {A : Type 0} (a b : A) → Some a ≡ Some b → a ≡ b
some_is a b e = cc

pub none_isnt : {A : Type 0} (a : A) → None ≡ Some a → ⊥
none_isnt a e = cc

-- ---- the actions of that frame
-- the frame of whole windows round a viewer
abbrev pub framed : ℕ → ℕ → ℤ → ℤ → OpenFrame
framed k levels x y = record { number = 0; x = x; y = y; actives = whole_regions k levels x y }

pub whole_put : (k levels : ℕ) (x y : ℤ) (terrain : Terrain) (name text line : List ℕ) (frame : OpenFrame) (size : ℕ) (ground : Terrain) → frame ≡ framed k levels x y → size ≡ k → ground ≡ terrain →
    text ≡ whole_text_of frame (mesh_of ground size frame) → line ≡ told_line frame.number (length (mesh_of ground size frame).vertices) (length (mesh_of ground size frame).triangles) →
    (Put name text ∷ Write line ∷ []) ≡ frame_actions k levels x y name terrain
unfolding whole_text whole_line whole_mesh
whole_put k levels x y terrain name text line frame size ground is same over t l =
    ap (λ it. Put name it ∷ Write line ∷ [])
    (t ∙ ap (λ (g : Terrain). whole_text_of frame (mesh_of g size frame)) over ∙ ap (λ (f : OpenFrame). whole_text_of f (mesh_of terrain size f)) is
    ∙ ap (λ (n : ℕ). whole_text_of (framed k levels x y) (mesh_of terrain n (framed k levels x y))) same)
    ∙ ap (λ it. Put name (frame_text 0 x y (whole_regions k levels x y) (mesh terrain k (whole_regions k levels x y))) ∷ Write it ∷ [])
    (l ∙ ap (λ (g : Terrain). told_line frame.number (length (mesh_of g size frame).vertices) (length (mesh_of g size frame).triangles)) over
    ∙ ap (λ (f : OpenFrame). told_line f.number (length (mesh_of terrain size f).vertices) (length (mesh_of terrain size f).triangles)) is
    ∙ ap (λ (n : ℕ). told_line 0 (length (mesh terrain n (whole_regions k levels x y)).vertices) (length (mesh terrain n (whole_regions k levels x y)).triangles)) same)

-- the frame of a filled book
pub whole_framed : (k : ℕ) (x y : ℤ) (land : Land) (book : BookView) → IsFilledFor k x y land book → whole_frame book.plan.state ≡ framed k land.levels x y
whole_framed k x y land book filled =
    ap (λ (n : ℕ). let f : OpenFrame = record { number = 0; x = book.plan.state.x; y = book.plan.state.y; actives = whole_regions n (length book.plan.state.levels) book.plan.state.x book.plan.state.y } in f) filled.size
    ∙ ap (λ (n : ℕ). framed k n book.plan.state.x book.plan.state.y) filled.levels ∙ ap (λ (v : ℤ). framed k land.levels v book.plan.state.y) filled.column ∙ ap (framed k land.levels x) filled.row

-- no frame was begun before the first move, and none is by it
pub none_begun : (k : ℕ) (land : Land) (book : BookView) → book.plan ≡ started k land → book.plan.state.begun ≡ 0
unfolding start_state
none_begun k land book begins = ap (λ (plan : PlanView). plan.state.begun) begins

pub none_moved : (k : ℕ) (x y : ℤ) (land : Land) (answer : Answer) (start moved : BookView) → start.plan ≡ started k land → Takes 0 (Move x y 0) answer start moved → moved.plan.state.begun ≡ 0
none_moved k x y land answer start moved begins takes =
    let still : (step start.plan.state 0 (Move x y 0)).state.begun ≤ start.plan.state.begun + 0 = step_counts start.plan.state 0 (Move x y 0) in
    let is : moved.plan.state.begun ≡ (step start.plan.state 0 (Move x y 0)).state.begun = ap (λ (st : State). st.begun) takes.plan.state in
    let none : start.plan.state.begun ≡ 0 = none_begun k land start begins in
    omega (arith, still, is, none)

-- a beginning begins one frame at most
pub one_begun : (answer : Answer) (old new : BookView) → old.plan.state.begun ≡ 0 → Takes 0 Begin answer old new → new.plan.state.begun ≤ 1
one_begun answer old new none takes =
    let few : (step old.plan.state 0 Begin).state.begun ≤ old.plan.state.begun + 1 = step_counts old.plan.state 0 Begin in
    let is : new.plan.state.begun ≡ (step old.plan.state 0 Begin).state.begun = ap (λ (st : State). st.begun) takes.plan.state in
    omega (arith, few, is, none)
