-- What is true of every plan, as statements: each is the contract of a law of this crate.
use Rattle.std.specs.Prelude.{◌≡◌, ℕ, ◌+◌, ◌-◌, ◌^◌, ◌≤◌, Bool, true, false, ◌||◌, ◌⊎◌, IsTrue, ℤ, pos, List, [], ◌∷◌, Some, count_by, if◌then◌else◌}
use Rattle.clip_regions.specs.declared.region.Region.{Region}
use Rattle.clip_regions.specs.FloorDivision.{floor_div}
use Rattle.clip_regions.specs.Regions.{contains, is_empty, erode, halve, holds, HasEvenCorners}
use Rattle.plan_model.specs.Window.{margin, window}
use Rattle.plan_model.specs.Blocks.{tile_of, tile_of_cell, wrapped_place}
use Rattle.plan_model.specs.Strips.{strips, current_strip, hull, pieces}
use Rattle.plan_model.specs.Actives.{actives}
use Rattle.plan_model.specs.States.{State}
use Rattle.plan_model.specs.Steps.{step}
use Rattle.plan_model.specs.declared.events.Event.{Event}
use Rattle.plan_model.specs.declared.events.Answer.{Answer}
use Rattle.plan_model.specs.declared.events.Answer.TheVariants.{Moved, Job, Idle, Ripe, Busy, Held, HasWork, Kept, Stale, Grown, Waiting, Whole, Frame, Closed, NoFrame}

-- the corners of every window are even
abbrev pub EvenWindows : Type 0
EvenWindows = (k level : ℕ) (x y : ℤ) → 2 ≤ k → HasEvenCorners (window k level x y)

-- half of a finer window lies at least 2^(K - 2) - 1 cells inside the coarser window
abbrev pub NestedWindows : Type 0
NestedWindows =
    (k level : ℕ) (x y : ℤ) → 2 ≤ k
    → IsTrue (holds (erode (window k (level + 1) x y) (pos (2 ^ (k - 2) - 1))) (halve (window k level x y)))

-- the filled region is empty or lies in the window
abbrev pub IsFilledIn : Region → Region → Type 0
IsFilledIn filled window = (is_empty filled ≡ true) ⊎ IsTrue (holds window filled)

-- each cell of a window lies in its filled region or in one of its strips, and in no two of them, and no other cell
-- does
abbrev pub StripsPartition : Type 0
StripsPartition =
    (filled window : Region) → IsFilledIn filled window → (i j : ℤ)
    → count_by (λ r. contains r i j) (filled ∷ strips filled window) ≡ (if contains window i j then 1 else 0)

-- each cell of a region lies in exactly one of its pieces, and no other cell does
abbrev pub PiecesPartition : Type 0
PiecesPartition =
    (r : Region) (i j : ℤ) → count_by (λ piece. contains piece.cells i j) (pieces r) ≡ (if contains r i j then 1 else 0)

-- a filled region and its first strip are together one rectangle
abbrev pub GrowsToRectangle : Type 0
GrowsToRectangle =
    (filled window strip : Region) → IsFilledIn filled window → current_strip filled window ≡ Some strip → (i j : ℤ)
    → contains (hull filled strip) i j ≡ (contains filled i j || contains strip i j)

-- the tile of a cell is that of its block
abbrev pub OneTileABlock : Type 0
OneTileABlock = (k : ℕ) (i j : ℤ) → 3 ≤ k → tile_of_cell k i j ≡ tile_of k (floor_div i 8) (floor_div j 8)

-- two cells of one window that have one wrapped place are one cell
abbrev pub DistinctPlaces : Type 0
DistinctPlaces =
    (k level : ℕ) (x y i j i' j' : ℤ) → 2 ≤ k
    → IsTrue (contains (window k level x y) i j)
    → IsTrue (contains (window k level x y) i' j')
    → wrapped_place k i j ≡ wrapped_place k i' j'
    → (i ≡ i') × (j ≡ j')

-- the region is empty or has even corners
abbrev pub IsEvenOrEmpty : Region → Type 0
IsEvenOrEmpty r = (is_empty r ≡ true) ⊎ HasEvenCorners r

-- all regions of a list are so
abbrev pub AllEvenOrEmpty : List Region → Type 0
AllEvenOrEmpty [] = Unit {0}
AllEvenOrEmpty (r ∷ rest) = IsEvenOrEmpty r × AllEvenOrEmpty rest

-- the active regions of filled regions with even corners have even corners
abbrev pub EvenActives : Type 0
EvenActives = (k finest : ℕ) (filled : List Region) → AllEvenOrEmpty filled → AllEvenOrEmpty (actives k finest filled)

-- of a list of regions, the finest first, half of each that isn't empty lies e cells inside the coarser one
abbrev pub AreNested : ℕ → List Region → Type 0
AreNested e [] = Unit {0}
AreNested e (finer ∷ []) = Unit {0}
AreNested e (finer ∷ coarser ∷ rest) =
    (is_empty finer ≡ false → IsTrue (holds (erode coarser (pos e)) (halve finer))) × AreNested e (coarser ∷ rest)

-- half of a finer active region lies at least a margin inside the coarser one
abbrev pub NestedActives : Type 0
NestedActives = (k finest : ℕ) (filled : List Region) → AreNested (margin k) (actives k finest filled)

-- of two lists of regions, each of the second lies in that of the first
abbrev pub AllIn : List Region → List Region → Type 0
AllIn [] [] = Unit {0}
AllIn [] (r ∷ rest) = ⊥
AllIn (r ∷ rest) [] = ⊥
AllIn (filled ∷ filleds) (active ∷ actives) = IsTrue (holds filled active) × AllIn filleds actives

-- each active region lies in its filled region
abbrev pub ActivesAreFilled : Type 0
ActivesAreFilled = (k finest : ℕ) (filled : List Region) → AllIn filled (actives k finest filled)

-- the answer refuses its event
abbrev pub is_refusal : Answer → Bool
is_refusal Moved = false
is_refusal (Job level bx by cells plan) = false
is_refusal Idle = true
is_refusal (Ripe level) = true
is_refusal (Busy level tile frame) = true
is_refusal (Held level tile pass) = true
is_refusal HasWork = true
is_refusal Kept = false
is_refusal (Stale plan now) = false
is_refusal (Grown region) = false
is_refusal (Waiting pieces) = true
is_refusal Whole = true
is_refusal (Frame number) = false
is_refusal (Closed number) = false
is_refusal NoFrame = true

-- a refused event changes nothing
abbrev pub RefusalsChangeNothing : Type 0
RefusalsChangeNothing =
    (st : State) (p : ℕ) (event : Event) → is_refusal (step st p event).answer ≡ true → (step st p event).state ≡ st
