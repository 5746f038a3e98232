-- A tile of a job after its cells were written.
use Rattle.std.proofs.Common.{◌≡◌, ℤ, pos, List, length, get_or, ap, sym, ◌∙◌}
use Rattle.std.proofs.lemmas.List.{length-map}
use Rattle.clip_regions.specs.Regions.{cells, area}
use Rattle.clip_regions.proofs.Sizes.{length_cells}
use Rattle.terrain_model.specs.Terrain.{level_height}
use Rattle.plan_model.specs.declared.events.JobNote.{JobNote}
use Rattle.terrain_model.specs.Terrain.{Terrain}
use Rattle.torus_grid.specs.Places.{IsWritten, tile_height, place_among}
use Rattle.torus_grid.specs.Laws.{CellsInRows}
use Rattle.book_cells.specs.Cells.{IsPainted}
use Rattle.clip_book.specs.Jobs.{heights_of}

pub as_many : (terrain : Terrain) (note : JobNote) (heights : List ℤ) → heights ≡ heights_of terrain note → length heights ≡ area note.piece.cells
as_many terrain note heights e =
    let listed : length (heights_of terrain note) ≡ length (cells note.piece.cells) = length-map (cells note.piece.cells) (λ (c : ℤ × ℤ). level_height terrain note.level c.0 c.1) in
    ap (λ (hs : List ℤ). length hs) e ∙ listed ∙ sym (length_cells note.piece.cells)

pub painted : CellsInRows → (terrain : Terrain) (note : JobNote) (heights old start new : List ℤ) → heights ≡ heights_of terrain note → start ≡ old → IsWritten start note.piece.cells heights new → IsPainted terrain note.level note.piece.cells old new
painted law terrain note heights old start new e same w = record {
  written = λ i j t. w.written i j t ∙ (ap (λ (hs : List ℤ). get_or hs (place_among note.piece.cells i j) (pos 0)) e ∙ law note.piece.cells (λ (c : ℤ × ℤ). level_height terrain note.level c.0 c.1) i j t);
  others = λ i j free. w.others i j free ∙ ap (λ (hs : List ℤ). tile_height hs i j) same;
}
