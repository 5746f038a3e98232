-- The pieces of a level's current strip, each with a bit: whether it is finished.
use Rattle.std.specs.Prelude.{◌≡◌, ℕ, ◌<◌, ◌≤◌, Bool, false, true, not, ◌||◌, List, [], map, filter, length, slice_index_or}
use Rattle.std.specs.List.{AllPairs}
use Rattle.clip_regions.specs.declared.region.Region.{Region}
use Rattle.clip_regions.specs.Regions.{empty_region}
use Rattle.plan_model.specs.Blocks.{same_block}
use Rattle.plan_model.specs.States.{Level}
use Rattle.plan_model.specs.declared.tiles.Piece.{Piece}
use Rattle.book_plan.specs.declared.slots.Slot.{Slot}

-- the slot's piece isn't finished
abbrev pub is_open : Slot → Bool
is_open slot = not slot.finished

-- the pieces of some slots, those that are finished, and those that aren't
abbrev pub all_pieces : List Slot → List Piece
all_pieces slots = map (λ slot. slot.piece) slots

abbrev pub finished_pieces : List Slot → List Piece
finished_pieces slots = map (λ slot. slot.piece) (filter (λ slot. slot.finished) slots)

abbrev pub open_pieces : List Slot → List Piece
open_pieces slots = map (λ slot. slot.piece) (filter is_open slots)

-- the slot of a piece that isn't finished
abbrev pub fresh_slot : Piece → Slot
fresh_slot piece = record { piece = piece; finished = false }

-- a slot once a piece is finished
abbrev pub marked_slot : Piece → Slot → Slot
marked_slot piece slot = record { piece = slot.piece; finished = same_block slot.piece piece || slot.finished }

-- the blocks of some slots differ
abbrev pub HaveDifferentBlocks : List Slot → Type 0
HaveDifferentBlocks slots = AllPairs (λ p q. same_block p q ≡ false) (all_pieces slots)

-- the number is that of the first slot that is open: all before it are finished
pub record IsFirstOpen (slots : List Slot) (first : ℕ) : Type 0 where
  pub inside : first ≤ length slots
  pub before : (n : ℕ) (d : Slot) → n < first → (slice_index_or slots n d).finished ≡ true
  pub this : (d : Slot) → first < length slots → (slice_index_or slots first d).finished ≡ false

-- the number is that of the first slot from another on whose piece lies in the block of a piece
pub record IsFirstOfBlock (slots : List Slot) (from : ℕ) (piece : Piece) (n : ℕ) : Type 0 where
  pub inside : n ≤ length slots
  pub before : (m : ℕ) (d : Slot) → from ≤ m → m < n → same_block (slice_index_or slots m d).piece piece ≡ false
  pub this : (d : Slot) → n < length slots → same_block (slice_index_or slots n d).piece piece ≡ true

-- a level: its filled region, its plan number, and the slots of its current strip in the strip's order
pub record Shelf : Type 0 where
  pub filled : Region
  pub plan : ℕ
  pub slots : List Slot

abbrev pub empty_shelf : Shelf
empty_shelf = record { filled = empty_region; plan = 0; slots = [] }

-- the level of the plan
abbrev pub level_of : Shelf → Level
level_of shelf = record { filled = shelf.filled; finished = finished_pieces shelf.slots; plan = shelf.plan }

-- the level with one more finished piece
abbrev pub marked_shelf : Piece → Shelf → Shelf
marked_shelf piece shelf = record shelf { slots = map (marked_slot piece) shelf.slots }
