-- What is read of a frame.
use Rattle.std.specs.Prelude.{◌≡◌, ℕ, ◌^◌, ℤ, List, length}
use Rattle.clip_regions.specs.declared.region.Region.{Region}
use Rattle.clip_regions.specs.Regions.{IsWithin}
use Rattle.terrain_model.specs.Terrain.{level_height}
use Rattle.plan_holds.specs.Apart.{HasCell}
use Rattle.clip_book.specs.Books.{BookView, Shows}
use Rattle.clip_book.specs.Laws.{StandByPlaces}

-- each cell of a region is shown by the frame of pass p, and its corners are near
pub record IsShown (book : BookView) (p level : ℕ) (r : Region) : Type 0 where
  pub cells : (i j : ℤ) → HasCell r i j → Shows book.plan.state p level i j
  pub near : IsWithin (2 ^ 24) r

-- the first heights of a region's cells, row by row
pub record AreFirst (book : BookView) (level : ℕ) (r : Region) (count : ℕ) (heights : List ℤ) : Type 0 where
  pub many : length heights ≡ count
  pub right : StandByPlaces (level_height book.land.terrain level) r heights
