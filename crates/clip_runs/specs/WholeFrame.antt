-- The frame of whole windows round a viewer: its text, and the line that tells of it.
use Rattle.std.specs.Prelude.{ℕ, ℤ, List, [], ◌∷◌, length}
use Rattle.terrain_model.specs.Terrain.{Terrain}
use Rattle.mesh_model.specs.Text.{frame_text}
use Rattle.grid_frames.specs.Whole.{whole_regions, whole_mesh}
use Rattle.run_actions.specs.Actions.{Action, Put, Write}
use Rattle.clip_desk.specs.Lines.{told_line}

-- the text of that frame, which has number 0
unfoldable pub whole_text : ℕ → ℕ → ℤ → ℤ → Terrain → List ℕ
whole_text k levels x y terrain = frame_text 0 x y (whole_regions k levels x y) (whole_mesh k levels x y terrain)

-- the line that tells of the frame of whole windows
unfoldable pub whole_line : ℕ → ℕ → ℤ → ℤ → Terrain → List ℕ
whole_line k levels x y terrain =
    told_line 0 (length (whole_mesh k levels x y terrain).vertices) (length (whole_mesh k levels x y terrain).triangles)

-- what is done for that frame: its text is put, and its line is written
abbrev pub frame_actions : ℕ → ℕ → ℤ → ℤ → List ℕ → Terrain → List Action
frame_actions k levels x y name terrain =
    Put name (whole_text k levels x y terrain) ∷ Write (whole_line k levels x y terrain) ∷ []
