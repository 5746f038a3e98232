-- What a shape names.
use Rattle.std.specs.Prelude.{◌≡◌, ℕ, ◌≤◌}
use Rattle.terrain_model.specs.Terrain.{Terrain, IsTerrain}

-- a terrain with its number of levels
pub record Land : Type 0 where
  pub terrain : Terrain
  pub levels : ℕ

-- one to twelve levels of a terrain that the program works on
pub record IsLand (land : Land) : Type 0 where
  pub sound : IsTerrain land.terrain
  pub some_levels : 1 ≤ land.levels
  pub few_levels : land.levels ≤ 12

-- the sides and the number of levels of what is named
pub record HasSides (land : Land) (width height levels : ℕ) : Type 0 where
  pub columns : width ≡ land.terrain.width
  pub rows : height ≡ land.terrain.height
  pub depth : levels ≡ land.levels
  pub named : IsLand land
