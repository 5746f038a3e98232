-- The least and the greatest of some heights.
use Rattle.std.specs.Prelude.{ℤ, ◌≤ℤ◌, List, All, Contains}
use Rattle.terrain_model.specs.Terrain.{Terrain, IsTerrain}

-- some height is this one, and none is below it
pub record IsLeast (least : ℤ) (heights : List ℤ) : Type 0 where
  pub reached : Contains heights least
  pub none_below : All (λ height. least ≤ℤ height) heights

-- some height is this one, and none is above it
pub record IsGreatest (greatest : ℤ) (heights : List ℤ) : Type 0 where
  pub reached : Contains heights greatest
  pub none_above : All (λ height. height ≤ℤ greatest) heights

-- a terrain whose least and greatest heights are known
pub record IsGrid (terrain : Terrain) (least most : ℤ) : Type 0 where
  pub sound : IsTerrain terrain
  pub lowest : IsLeast least terrain.table
  pub highest : IsGreatest most terrain.table
