-- What scripts and logs write.
use Rattle.std.specs.Prelude.{ℕ, ℤ, List, ◌++◌, ◌==◌, codes, decimal, if◌then◌else◌}
use Rattle.std.specs.Fmt.{signed_decimal}
use Rattle.clip_regions.specs.declared.region.Region.{Region}
use Rattle.plan_model.specs.declared.tiles.TileId.{TileId}
use Rattle.plan_model.specs.declared.events.Event.{Event}
use Rattle.plan_model.specs.declared.events.Event.TheVariants.{Move, Claim, Finish, Publish, Begin, End}
use Rattle.plan_model.specs.declared.events.Answer.{Answer}
use Rattle.plan_model.specs.declared.events.Answer.TheVariants.{Moved, Job, Idle, Ripe, Busy, Held, HasWork, Kept, Stale, Grown, Waiting, Whole, Frame, Closed, NoFrame}

-- the word of an event
abbrev pub word_of : Event → List ℕ
word_of (Move x y a) = codes "move"
word_of Claim = codes "claim"
word_of Finish = codes "finish"
word_of (Publish level) = codes "publish"
word_of Begin = codes "begin"
word_of End = codes "end"

-- the place of a viewer, and the place with the altitude
abbrev pub place_text : ℤ → ℤ → List ℕ
place_text x y = signed_decimal x ++ codes " " ++ signed_decimal y

abbrev pub raised_text : ℤ → ℤ → ℕ → List ℕ
raised_text x y a = signed_decimal x ++ codes " " ++ (signed_decimal y ++ codes " " ++ decimal a)

-- the numbers after the word, with the event's pass where it counts: an altitude of 0 isn't written
abbrev pub numbers_of : ℕ → Event → List ℕ
numbers_of p (Move x y a) = if a == 0 then place_text x y else raised_text x y a
numbers_of p Claim = decimal p
numbers_of p Finish = decimal p
numbers_of p (Publish level) = decimal level
numbers_of p Begin = decimal p
numbers_of p End = decimal p

-- an event's line, as a script and a log write it
abbrev pub event_text : ℕ → Event → List ℕ
event_text p event = word_of event ++ codes " " ++ numbers_of p event

-- a region by its four corners
abbrev pub region_text : Region → List ℕ
region_text r =
    signed_decimal r.x0 ++ codes " " ++ signed_decimal r.y0 ++ codes " " ++ signed_decimal r.x1 ++ codes " "
    ++ signed_decimal r.y1

-- a tile of a level
abbrev pub tile_text : ℕ → TileId → List ℕ
tile_text level tile =
    codes "level " ++ decimal level ++ codes " tile " ++ decimal tile.tx ++ codes " " ++ decimal tile.ty

-- what an event without anything to do is answered: a pass that gives a piece back had none
abbrev pub idle_text : Event → List ℕ
idle_text (Move x y a) = codes "idle"
idle_text Claim = codes "idle"
idle_text Finish = codes "nojob"
idle_text (Publish level) = codes "idle"
idle_text Begin = codes "idle"
idle_text End = codes "idle"

-- the answer of an event
abbrev pub answer_text : Event → Answer → List ℕ
answer_text event Moved = codes "moved"
answer_text event (Job level bx by cells plan) =
    codes "job level " ++ decimal level ++ codes " block " ++ signed_decimal bx ++ codes " " ++ signed_decimal by
    ++ codes " cells " ++ region_text cells ++ codes " plan " ++ decimal plan
answer_text event Idle = idle_text event
answer_text event (Ripe level) = codes "ripe " ++ decimal level
answer_text event (Busy level tile frame) = codes "busy " ++ tile_text level tile ++ codes " frame " ++ decimal frame
answer_text event (Held level tile pass) = codes "held " ++ tile_text level tile ++ codes " pass " ++ decimal pass
answer_text event HasWork = codes "haswork"
answer_text event Kept = codes "kept"
answer_text event (Stale plan now) = codes "stale " ++ decimal plan ++ codes " now " ++ decimal now
answer_text event (Grown region) = codes "grown " ++ region_text region
answer_text event (Waiting pieces) = codes "waiting " ++ decimal pieces
answer_text event Whole = codes "whole"
answer_text event (Frame number) = codes "frame " ++ decimal number
answer_text event (Closed number) = codes "closed " ++ decimal number
answer_text event NoFrame = codes "noframe"

-- the script line of an event of a pass, with its line feed
unfoldable pub step_line : ℕ → Event → List ℕ
step_line p event = event_text p event ++ codes "\n"

-- the log line of an event of a pass and its answer, with its line feed
unfoldable pub log_line : ℕ → Event → Answer → List ℕ
log_line p event answer = event_text p event ++ codes ": " ++ answer_text event answer ++ codes "\n"

-- the pass of which a written event is read: lines of moves and publications name none, and are taken as pass 0's
abbrev pub read_pass : ℕ → Event → ℕ
read_pass p (Move x y a) = 0
read_pass p Claim = p
read_pass p Finish = p
read_pass p (Publish level) = 0
read_pass p Begin = p
read_pass p End = p
