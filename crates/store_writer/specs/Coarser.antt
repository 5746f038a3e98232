-- The heights over which a level's codes are written.
use Rattle.std.specs.Prelude.{◌≡◌, ℕ, ℤ}
use Rattle.terrain_model.specs.Terrain.{Terrain, level_height}
use Rattle.store_model.specs.Restored.{restored_height}
use Rattle.store_writer.specs.Tables.{table_height}
use Rattle.store_writer.specs.declared.coarser.Coarser.{Coarser}
use Rattle.store_writer.specs.declared.coarser.Coarser.TheVariants.{Exact, Restored}

-- the heights of the grid's level, or those of a table
abbrev pub coarser_height : Coarser → ℤ → ℤ → ℤ
coarser_height (Exact level) = level_height level.grid.now level.level
coarser_height (Restored table) = table_height table.across table.heights.items

-- these are the restored heights of a level
abbrev pub AreRestored : (ℤ → ℤ → ℤ) → Terrain → ℕ → ℕ → ℕ → Type 0
AreRestored heights terrain levels step level = (i j : ℤ) → heights i j ≡ restored_height terrain levels step level i j
