-- What is true of the histories of swarms as play scripts, as statements: each is the contract of a law of this crate.
use Rattle.std.specs.Prelude.{◌≡◌, ℕ, ◌≤◌, List, length, map, Ok}
use Rattle.terrain_model.specs.Terrain.{Terrain}
use Rattle.plan_model.specs.Histories.{IsLegalHistory}
use Rattle.plan_model.specs.declared.events.Entry.{Entry}
use Rattle.swarm_laws.specs.Closings.{closings_in}
use Rattle.clip_script.specs.Ranges.{AreSizes}
use Rattle.clip_script.specs.Scripts.{play_of}
use Rattle.clip_desk.specs.Plays.{play_actions}
use Rattle.swarm_plays.specs.Journals.{journal_text, steps_of, play_of_history}
use Rattle.swarm_plays.specs.Puts.{puts_in, closing_put}

-- the text of a legal history, which a journal can hold, is read as a play script: its steps are the history's events
abbrev pub JournalsArePlayScripts : Type 0
JournalsArePlayScripts =
    (k levels : ℕ) (log : List Entry) → AreSizes k levels → IsLegalHistory k levels log → length log ≤ 1048576 →
    play_of (journal_text k levels log) ≡ Ok (play_of_history k levels log)

-- a play of a history puts the frames that the history closes, and nothing else
abbrev pub PlaysPutWhatHistoriesClose : Type 0
PlaysPutWhatHistoriesClose =
    (terrain : Terrain) (k levels : ℕ) (name : List ℕ) (log : List Entry) →
    puts_in (play_actions terrain k levels (steps_of log) name)
    ≡ map (closing_put terrain k name) (closings_in k levels log)
