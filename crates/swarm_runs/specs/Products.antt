-- What comes of a swarm: the files that it puts, and the text that it writes then.
use Rattle.std.specs.Prelude.{◌≡◌, ℕ, ◌+◌, ◌≤◌, ◌⊎◌, List, [], ◌∷◌, ◌++◌, map, length, Result, Ok, Err}
use Rattle.std.specs.List.Sorted.{IsPermutation}
use Rattle.outer_shelf.specs.Outside.{ShelfTold, SinkTold}
use Rattle.terrain_model.specs.Terrain.{Terrain}
use Rattle.plan_model.specs.Histories.{IsLegalHistory}
use Rattle.plan_model.specs.declared.events.Entry.{Entry}
use Rattle.swarm_laws.specs.Runs.{Orders, IsSwarmRun, IsCutRun}
use Rattle.swarm_passes.specs.Frames.{FrameView, AreFramesOf}
use Rattle.clip_script.specs.Scripts.{Swarm, play_of}
use Rattle.clip_desk.specs.Frames.{frame_name}
use Rattle.clip_desk.specs.Plays.{play_actions}
use Rattle.run_actions.specs.Actions.{Action, Put, Write, Content, Same, content_after, content_of, put_count}
use Rattle.run_actions.specs.Runs.{Leaving, HaltedIn, RefusedWrite, CallsWithin}
use Rattle.run_actions.specs.declared.halt.Halt.{Halt}
use Rattle.run_actions.specs.declared.halt.Halt.TheVariants as halt
use Rattle.swarm_plays.specs.Journals.{journal_text, play_of_history, steps_of}
use Rattle.swarm_plays.specs.Puts.{puts_in}

-- what is put and written: the status of it, the files in their order, and the text that is written behind them
pub record Product : Type 0 where
  pub status : ℕ
  pub files : List Action
  pub text : List ℕ

abbrev pub actions_of : Product → List Action
actions_of product = product.files ++ Write product.text ∷ []

-- ---- of a swarm

-- what a script asks of so many workers and renderers
abbrev pub orders_of : Swarm → ℕ → ℕ → Orders
orders_of script workers renderers = record {
  workers = workers;
  renderers = renderers;
  claims = script.claims;
  begins = script.begins;
  moves = script.moves;
}

-- each frame under its number
abbrev pub frame_put : List ℕ → FrameView → Action
frame_put name frame = Put (frame_name name frame.number) frame.bytes

abbrev pub frame_puts : List ℕ → List FrameView → List Action
frame_puts name frames = map (frame_put name) frames

-- status 0 says that a history is a whole run, and 6 that it was cut since the journal was full
abbrev pub IsRunWith : ℕ → Orders → List Entry → Type 0
IsRunWith status orders log =
    ((status ≡ 0) × IsSwarmRun orders log) ⊎ ((status ≡ 6) × (IsCutRun orders log × (1048575 ≤ length log)))

-- this may come of a swarm with these orders over a terrain, under a name: of a legal history that is a whole or a cut
-- run, the frames that it closes are put, by rising number, and its play script is written. The script is read as a
-- play of the history's events, and what that play puts is the same files
pub record MayCome (orders : Orders) (terrain : Terrain) (k levels : ℕ) (name : List ℕ) (product : Product)
    : Type 0 where
  pub log : List Entry
  pub legal : IsLegalHistory k levels log
  pub run : IsRunWith product.status orders log
  pub frames : List FrameView
  pub closed : AreFramesOf terrain k levels log frames
  pub files : product.files ≡ frame_puts name frames
  pub text : product.text ≡ journal_text k levels log
  pub read : play_of product.text ≡ Ok (play_of_history k levels log)
  pub played : IsPermutation (puts_in (play_actions terrain k levels (steps_of log) name)) product.files

-- ---- what is done of a product

-- all of it, with its status; or a front of its files and what the refusal of the next put left; or all files and a
-- front of the text
abbrev pub CameTo : Leaving → Product → Result ℕ Halt → Content → Content → Type 0
CameTo leaves product (Ok status) before now =
    (status ≡ product.status) × Same (content_after (actions_of product) before) now
CameTo leaves product (Err halt.ShelfFailed) before now = HaltedIn leaves halt.ShelfFailed product.files before now
CameTo leaves product (Err halt.SinkFailed) before now =
    RefusedWrite product.text (content_after product.files before) now
CameTo leaves product (Err halt.NoMemory) before now = HaltedIn leaves halt.NoMemory (actions_of product) before now

-- a run came to a product of this kind after so many fetches, by a call for each of its files and one for its text
pub record Came (leaves : Leaving) (IsOne : Product → Type 0) (fetches : ℕ) (result : Result ℕ Halt)
    (shelf shelf' : ShelfTold) (sink sink' : SinkTold) : Type 0 where
  pub product : Product
  pub one : IsOne product
  pub did : CameTo leaves product result (content_of shelf sink) (content_of shelf' sink')
  pub shelf_calls : CallsWithin (fetches + put_count product.files) shelf.calls shelf'.calls
  pub sink_calls : CallsWithin 1 sink.calls sink'.calls

-- the shelf failed or memory was wanting before anything was put or written
abbrev pub IsStopped : Result ℕ Halt → Type 0
IsStopped (Ok status) = ⊥
IsStopped (Err halt.ShelfFailed) = Unit {0}
IsStopped (Err halt.SinkFailed) = ⊥
IsStopped (Err halt.NoMemory) = Unit {0}

pub record StoppedAtOnce (fetches : ℕ) (result : Result ℕ Halt) (shelf shelf' : ShelfTold)
    (sink sink' : SinkTold) : Type 0 where
  pub stopped : IsStopped result
  pub same : Same (content_of shelf sink) (content_of shelf' sink')
  pub shelf_calls : CallsWithin fetches shelf.calls shelf'.calls
  pub sink_calls : CallsWithin 0 sink.calls sink'.calls

-- how a run ends: at once, or by a product of this kind
abbrev pub Ends : Leaving → (Product → Type 0) → ℕ → Result ℕ Halt → ShelfTold → ShelfTold → SinkTold → SinkTold → Type 0
Ends leaves IsOne fetches result shelf shelf' sink sink' =
    StoppedAtOnce fetches result shelf shelf' sink sink' ⊎ Came leaves IsOne fetches result shelf shelf' sink sink'
