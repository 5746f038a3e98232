-- What is true of the coarser cells that a region needs, as statements: each is the contract of a law of this crate.
use Rattle.std.specs.Prelude.{◌≡◌, ℕ, ◌+◌, ◌≤◌, false, IsTrue, ℤ, pos, ◌+ℤ◌, ◌-ℤ◌, ◌*ℤ◌}
use Rattle.std.specs.List.{All}
use Rattle.clip_regions.specs.declared.region.Region.{Region}
use Rattle.clip_regions.specs.Regions.{is_empty, holds}
use Rattle.plan_model.specs.Window.{window}
use Rattle.plan_model.specs.Strips.{pieces, need}

-- a region of some cells needs some cells
abbrev pub NeedsHaveCells : Type 0
NeedsHaveCells = (r : Region) → is_empty r ≡ false → is_empty (need r) ≡ false

-- what a larger region needs holds what a smaller one needs
abbrev pub NeedsAreMonotone : Type 0
NeedsAreMonotone =
    (a b : Region) → is_empty b ≡ false → IsTrue (holds a b) → IsTrue (holds (need a) (need b))

-- what a region in a window needs lies in the next coarser window
abbrev pub NeedsInCoarserWindows : Type 0
NeedsInCoarserWindows =
    (k level : ℕ) (x y : ℤ) (r : Region) → 3 ≤ k → is_empty r ≡ false → IsTrue (holds (window k level x y) r) →
    IsTrue (holds (window k (level + 1) x y) (need r))

-- the patch of a block: seven coarser columns and rows, from 4 bx - 1 to 4 bx + 5 and alike by
unfoldable pub patch_of : ℤ → ℤ → Region
patch_of bx by = record {
  x0 = pos 4 *ℤ bx -ℤ pos 1;
  y0 = pos 4 *ℤ by -ℤ pos 1;
  x1 = pos 4 *ℤ bx +ℤ pos 5;
  y1 = pos 4 *ℤ by +ℤ pos 5;
}

-- what a piece needs lies in the patch of its block
abbrev pub NeedsInPatches : Type 0
NeedsInPatches = (r : Region) → All (λ piece. IsTrue (holds (patch_of piece.bx piece.by) (need piece.cells))) (pieces r)
