-- What a command does to the outside, one action after another.
use Rattle.std.specs.Prelude.{◌≡◌, ℕ, ◌+◌, List, [], ◌∷◌, ◌++◌, Option, option_map}
use Rattle.outer_shelf.specs.Outside.{Files, ShelfTold, SinkTold, files_with}

-- a file put under a name, or bytes written to the output
pub data Action : Type 0 where
  Put : List ℕ → List ℕ → Action
  Write : List ℕ → Action

-- the content of the outside: the files of the shelf and the bytes written to the sink, each where it is told
pub record Content : Type 0 where
  pub files : Option Files
  pub written : Option (List ℕ)

-- the content that a shelf and a sink tell
abbrev pub content_of : ShelfTold → SinkTold → Content
content_of shelf sink = record { files = shelf.files; written = sink.written }

-- the content is as before
pub record Same (before now : Content) : Type 0 where
  pub files : now.files ≡ before.files
  pub written : now.written ≡ before.written

-- the content after an action
abbrev pub act : Action → Content → Content
act (Put name bytes) content =
    record { files = option_map (files_with name bytes) content.files; written = content.written }
act (Write piece) content =
    record { files = content.files; written = option_map (λ bytes. bytes ++ piece) content.written }

-- the content after some actions, each in its turn
abbrev pub content_after : List Action → Content → Content
content_after [] content = content
content_after (action ∷ actions) content = content_after actions (act action content)

-- how many of some actions put a file, and how many write
abbrev pub put_count : List Action → ℕ
put_count [] = 0
put_count (Put _ _ ∷ actions) = 1 + put_count actions
put_count (Write _ ∷ actions) = put_count actions

abbrev pub write_count : List Action → ℕ
write_count [] = 0
write_count (Put _ _ ∷ actions) = write_count actions
write_count (Write _ ∷ actions) = 1 + write_count actions
