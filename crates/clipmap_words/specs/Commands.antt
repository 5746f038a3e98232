-- Which command the words are.
use Rattle.std.specs.Prelude.{ℕ, Option, None, List, [], ◌∷◌, if◌then◌else◌, codes, ⊤}
use Rattle.std.specs.Option.{option_map}
use Rattle.std.specs.Str.{bytes_eq}
use Rattle.clipmap_words.specs.Check.{CheckView, check_of, check_view}
use Rattle.clipmap_words.specs.Demo.{DemoView, demo_of, demo_view}
use Rattle.clipmap_words.specs.Fly.{FlyView, IsFlyInRange, fly_of, fly_view}
use Rattle.clipmap_words.specs.Frame.{FrameView, IsFrameInRange, frame_of, frame_view}
use Rattle.clipmap_words.specs.Info.{InfoView, IsInfoInRange, info_of, info_view}
use Rattle.clipmap_words.specs.Pack.{PackView, IsPackInRange, pack_of, pack_view}
use Rattle.clipmap_words.specs.PackBy.{PackByView, IsPackByInRange, pack_by_of, pack_by_view}
use Rattle.clipmap_words.specs.Play.{PlayView, IsPlayInRange, play_of, play_view}
use Rattle.clipmap_words.specs.declared.command.Command.{Command}
use Rattle.clipmap_words.specs.declared.command.Command.TheVariants as command

-- a command: each has a record of its words
pub data CommandView : Type 0 where
  Check : CheckView → CommandView
  Demo : DemoView → CommandView
  Fly : FlyView → CommandView
  Frame : FrameView → CommandView
  Info : InfoView → CommandView
  Pack : PackView → CommandView
  PackBy : PackByView → CommandView
  Play : PlayView → CommandView

-- the command of a name, with these words
abbrev pub command_named : List ℕ → List (List ℕ) → Option CommandView
command_named name words =
    if bytes_eq name (codes "check") then option_map Check (check_of words)
    else if bytes_eq name (codes "demo") then option_map Demo (demo_of words)
    else if bytes_eq name (codes "fly") then option_map Fly (fly_of words)
    else if bytes_eq name (codes "frame") then option_map Frame (frame_of words)
    else if bytes_eq name (codes "info") then option_map Info (info_of words)
    else if bytes_eq name (codes "pack") then option_map Pack (pack_of words)
    else if bytes_eq name (codes "packq") then option_map PackBy (pack_by_of words)
    else if bytes_eq name (codes "play") then option_map Play (play_of words)
    else None

-- the command that the words are: the first names it, and the others are its own
abbrev pub command_of : List (List ℕ) → Option CommandView
command_of [] = None
command_of (name ∷ words) = command_named name words

-- a command as contracts see it
abbrev pub view_of : Command → CommandView
view_of (command.Check check) = Check (check_view check)
view_of (command.Demo demo) = Demo (demo_view demo)
view_of (command.Fly fly) = Fly (fly_view fly)
view_of (command.Frame frame) = Frame (frame_view frame)
view_of (command.Info info) = Info (info_view info)
view_of (command.Pack pack) = Pack (pack_view pack)
view_of (command.PackBy pack) = PackBy (pack_by_view pack)
view_of (command.Play play) = Play (play_view play)

-- the numbers of a command are in range. A `check` has none, and a `demo` any of 64 bits
abbrev pub IsInRange : CommandView → Type 0
IsInRange (Check check) = ⊤
IsInRange (Demo demo) = ⊤
IsInRange (Fly fly) = IsFlyInRange fly
IsInRange (Frame frame) = IsFrameInRange frame
IsInRange (Info info) = IsInfoInRange info
IsInRange (Pack pack) = IsPackInRange pack
IsInRange (PackBy pack) = IsPackByInRange pack
IsInRange (Play play) = IsPlayInRange play
