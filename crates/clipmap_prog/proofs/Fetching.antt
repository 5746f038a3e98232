-- Files that are fetched and read one after another: a turn of the loop, and how it ends.
use Rattle.std.proofs.Common.{◌≡◌, ℕ, ◌+◌, ◌<◌, ◌≤◌, List, [], ◌∷◌, ◌++◌, length, map, get_or, take, IfSome, Option, None, Some, option_map, Result, Ok, Err, inl, inr, refl, sym, ap, ◌∙◌, subst, arith}
use Rattle.std.specs.FinMap as finite
use Rattle.outer_shelf.specs.Counts.{Rose, one_more}
use Rattle.outer_shelf.specs.Outside.{Files, ShelfTold}
use Rattle.hgt_tiles.specs.TileView.{TileView}
use Rattle.clipmap_prog.specs.Faults.{Cause, cause_of}
use Rattle.clipmap_prog.specs.Inputs.{InputsView, NamedTile, inputs_view, joined, name_reading, named_reading, named_view, tile_of_file, tile_reading, tiles_reading}
use Rattle.clipmap_prog.specs.Reading.{Reading, Finds, OnStop, each_of, unfetched}
use Rattle.run_actions.specs.Runs.{CallsWithin}
use Rattle.run_actions.specs.declared.halt.Halt.TheVariants as halt
use Rattle.clipmap_prog.specs.declared.inputs.Inputs.{Inputs}
use Rattle.clipmap_prog.specs.declared.reading.Stop.{Stop}
use Rattle.clipmap_prog.specs.declared.reading.Stop.TheVariants as stop
use Rattle.clipmap_prog.specs.declared.tile_files.Named.{Named}
use Rattle.clipmap_prog.proofs.Concluding.{each_some, both_some}
use Rattle.run_actions.proofs.Ends.{within_none, within_one, within_add, within_more}
use Rattle.clipmap_prog.proofs.Readings.{then_found, then_fetches, then_refused, then_more, turn_found, turn_fetches, turn_refused, turn_so_far}

-- a reading that stopped for the shelf stopped after a rise, also since an earlier time
pub stopped_later : (s s1 s2 : ShelfTold) (which : Stop) → s.faults ≤ s1.faults → OnStop {A = Unit {0}} (Err which) (Rose s1.faults s2.faults) → OnStop {A = Unit {0}} (Err which) (Rose s.faults s2.faults)
stopped_later s s1 s2 (stop.Refused fault) stays rose = tt
stopped_later s s1 s2 (stop.Halted halt.ShelfFailed) stays (inl less) = inl (omega arith)
stopped_later s s1 s2 (stop.Halted halt.ShelfFailed) stays (inr last) = inr last
stopped_later s s1 s2 (stop.Halted halt.SinkFailed) stays rose = absurd rose
stopped_later s s1 s2 (stop.Halted halt.NoMemory) stays rose = tt

-- a reading that stopped, and a longer one that it stops
pub stops : {B D : Type 0} (which : Stop) (found : Result B Cause) (whole : Result D Cause) → ((cause : Cause) → found ≡ Err cause → whole ≡ Err cause) →
    Finds {A = B} (λ x. x) (Err which) found → Finds {A = D} (λ x. x) (Err which) whole
stops (stop.Refused fault) found whole refuses finds = refuses (cause_of fault) finds
stops (stop.Halted h) found whole refuses finds = tt

abbrev pub fetched_of : Files → List Named → Reading (List TileView)
fetched_of files named = each_of (tile_reading files) (map named_view named)

abbrev pub Stopped : Stop → {B : Type 0} → Result B Cause → Type 0
Stopped which {B} found = Finds {A = B} (λ x. x) (Err which) found

-- some item of a list that has one
some_of : {X : Type 0} (xs : List X) (i : ℕ) → i < length xs → X
some_of [] i inside = absurd (omega (arith, inside))
some_of (x ∷ xs) i inside = x

-- what holds of any files holds of those that are told
pub always_some : {A : Type 0} (P : A → Type 0) (o : Option A) → ((a : A) → P a) → IfSome o P
always_some P None f = tt
always_some P (Some a) f = f a

-- no call is within any number of calls
pub no_calls : (most : ℕ) (calls : Option ℕ) → CallsWithin most calls calls
no_calls most calls = within_more 0 most calls calls (within_none calls calls refl) (omega arith)

module _ (named : List Named) (i : ℕ) (d : Named) (inside : i < length named) (s s1 : ShelfTold) (same : s1.files ≡ s.files) (tiles : List TileView) (before : IfSome s.files (λ files. (fetched_of files (take i named)).found ≡ Ok tiles)) where
  at_first : (P : Files → Type 0) → IfSome s1.files P → IfSome s.files P
  at_first P now = let At : Option Files → Type 0 = λ o. IfSome o P in subst At same now

  abbrev So_far : Files → Type 0
  So_far files = (fetched_of files (take i named)).found ≡ Ok tiles

  abbrev read_here : Files → Result TileView Cause
  read_here files = tile_of_file (named_view (get_or named i d)) (finite.get files (get_or named i d).name.now)

  pub next_found : (new : List TileView) (tile : TileView) → new ≡ tiles ++ tile ∷ [] → IfSome s1.files (λ files. read_here files ≡ Ok tile) →
      IfSome s.files (λ files. (fetched_of files (take (i + 1) named)).found ≡ Ok new)
  next_found new tile pushed read =
      both_some So_far (λ files. read_here files ≡ Ok tile) (λ files. (fetched_of files (take (i + 1) named)).found ≡ Ok new) s.files
      (λ files so_far now. turn_found named_view (tile_reading files) named i d (get_or named i d) inside refl tiles tile so_far now ∙ ap (λ ts. Ok ts) (sym pushed))
      before (at_first (λ files. read_here files ≡ Ok tile) read)

  pub next_stopped : (which : Stop) → IfSome s1.files (λ files. Stopped which (read_here files)) → IfSome s.files (λ files. Stopped which (fetched_of files named).found)
  next_stopped which read =
      both_some So_far (λ files. Stopped which (read_here files)) (λ files. Stopped which (fetched_of files named).found) s.files
      (λ files so_far now.
      stops which (read_here files) (fetched_of files named).found
      (λ cause refused. turn_refused named_view (tile_reading files) named i d (get_or named i d) inside refl tiles cause so_far refused) now)
      before (at_first (λ files. Stopped which (read_here files)) read)

module _ (named : List Named) (i : ℕ) (inside : i < length named) (s s1 s2 : ShelfTold) (tiles : List TileView) (before : IfSome s.files (λ files. (fetched_of files (take i named)).found ≡ Ok tiles)) (one : s2.calls ≡ option_map one_more s1.calls) (few : IfSome s.files (λ files. CallsWithin (fetched_of files (take i named)).fetches s.calls s1.calls)) where
  abbrev Found : Files → Type 0
  Found files = (fetched_of files (take i named)).found ≡ Ok tiles

  abbrev Few : Files → Type 0
  Few files = CallsWithin (fetched_of files (take i named)).fetches s.calls s1.calls

  abbrev any : Named
  any = some_of named i inside

  pub next_calls : IfSome s.files (λ files. CallsWithin (fetched_of files (take (i + 1) named)).fetches s.calls s2.calls)
  next_calls =
      both_some Found Few (λ files. CallsWithin (fetched_of files (take (i + 1) named)).fetches s.calls s2.calls) s.files
      (λ files so_far calls.
      let more : (fetched_of files (take (i + 1) named)).fetches ≡ (fetched_of files (take i named)).fetches + 1 = turn_fetches named_view (tile_reading files) named i any (get_or named i any) inside refl tiles so_far in
      within_add (fetched_of files (take i named)).fetches 1 (fetched_of files (take (i + 1) named)).fetches s.calls s1.calls s2.calls calls (within_one s1.calls s2.calls one) (omega (arith, more)))
      before few

  pub last_calls : IfSome s.files (λ files. CallsWithin (fetched_of files named).fetches s.calls s2.calls)
  last_calls =
      both_some Found Few (λ files. CallsWithin (fetched_of files named).fetches s.calls s2.calls) s.files
      (λ files so_far calls.
      let more : (fetched_of files (take i named)).fetches + 1 ≤ (fetched_of files named).fetches = turn_so_far named_view (tile_reading files) named i any (get_or named i any) inside refl tiles so_far in
      within_add (fetched_of files (take i named)).fetches 1 (fetched_of files named).fetches s.calls s1.calls s2.calls calls (within_one s1.calls s2.calls one) (omega (arith, more)))
      before few

-- ---- once all files are read, the set is judged
abbrev judged_of : List TileView → Reading InputsView
judged_of tiles = unfetched (joined tiles)

pub named_found : (named : List Named) (o : Option Files) (tiles : List TileView) (result : Result Inputs Stop) → IfSome o (λ files. (fetched_of files named).found ≡ Ok tiles) → Finds inputs_view result (joined tiles) →
    IfSome o (λ files. Finds inputs_view result (named_reading files (map named_view named)).found)
named_found named o tiles result read finds =
    each_some (λ files. (fetched_of files named).found ≡ Ok tiles) (λ files. Finds inputs_view result (named_reading files (map named_view named)).found) o
    (λ files found.
    let Meant : Result InputsView Cause → Type 0 = λ meant. Finds inputs_view result meant in
    subst Meant (sym (then_found (fetched_of files named).fetches (fetched_of files named).found judged_of tiles found)) finds) read

pub named_stopped : (named : List Named) (o : Option Files) (which : Stop) → IfSome o (λ files. Stopped which (fetched_of files named).found) → IfSome o (λ files. Stopped which (named_reading files (map named_view named)).found)
named_stopped named o which read =
    each_some (λ files. Stopped which (fetched_of files named).found) (λ files. Stopped which (named_reading files (map named_view named)).found) o
    (λ files stopped.
    stops which (fetched_of files named).found (named_reading files (map named_view named)).found
    (λ cause refused. then_refused (fetched_of files named).fetches (fetched_of files named).found judged_of cause refused) stopped) read

pub named_calls : (named : List Named) (o : Option Files) (before now : Option ℕ) → IfSome o (λ files. CallsWithin (fetched_of files named).fetches before now) →
    IfSome o (λ files. CallsWithin (named_reading files (map named_view named)).fetches before now)
named_calls named o before now few =
    each_some (λ files. CallsWithin (fetched_of files named).fetches before now) (λ files. CallsWithin (named_reading files (map named_view named)).fetches before now) o
    (λ files within.
    within_more (fetched_of files named).fetches (named_reading files (map named_view named)).fetches before now within
    (then_more (fetched_of files named).fetches (fetched_of files named).found judged_of)) few

-- ---- once all names are judged, the files are fetched
module _ (words : List (List ℕ)) (named : List NamedTile) (o : Option Files) (good : (each_of name_reading words).found ≡ Ok named) where
  pub tiles_found : (result : Result Inputs Stop) → IfSome o (λ files. Finds inputs_view result (named_reading files named).found) → IfSome o (λ files. Finds inputs_view result (tiles_reading words files).found)
  tiles_found result read =
      each_some (λ files. Finds inputs_view result (named_reading files named).found) (λ files. Finds inputs_view result (tiles_reading words files).found) o
      (λ files finds.
      let Meant : Result InputsView Cause → Type 0 = λ meant. Finds inputs_view result meant in
      subst Meant (sym (then_found (each_of name_reading words).fetches (each_of name_reading words).found (named_reading files) named good)) finds) read

  pub tiles_calls : (before now : Option ℕ) → IfSome o (λ files. CallsWithin (named_reading files named).fetches before now) → IfSome o (λ files. CallsWithin (tiles_reading words files).fetches before now)
  tiles_calls before now few =
      each_some (λ files. CallsWithin (named_reading files named).fetches before now) (λ files. CallsWithin (tiles_reading words files).fetches before now) o
      (λ files within.
      within_more (named_reading files named).fetches (tiles_reading words files).fetches before now within
      (omega (arith, then_fetches (each_of name_reading words).fetches (each_of name_reading words).found (named_reading files) named good))) few

pub tiles_stopped : (words : List (List ℕ)) (o : Option Files) (which : Stop) → Stopped which (each_of name_reading words).found → IfSome o (λ files. Stopped which (tiles_reading words files).found)
tiles_stopped words o which stopped =
    always_some (λ files. Stopped which (tiles_reading words files).found) o
    (λ files. stops which (each_of name_reading words).found (tiles_reading words files).found
    (λ cause refused. then_refused (each_of name_reading words).fetches (each_of name_reading words).found (named_reading files) cause refused) stopped)
