-- What an event does to a book that stands.
use Rattle.std.proofs.Common.{◌≡◌, ℕ, zero, suc, ◌+◌, ◌*◌, ◌-◌, ◌<◌, ◌≤◌, true, ℤ, List, [], ◌∷◌, length, replicate, get_or, Option, Some, None, is_some, refl, ap, sym, ◌∙◌, subst, inl, inr, arith}
use Rattle.std.specs.Int.{w32}
use Rattle.std.proofs.lemmas.Int.{to_z-of_z}
use Rattle.std.proofs.lemmas.Bool.{cases_lt}
use mathlib.Core.Path.{ap₂}
use mir.Val.{SFits, to_z, of_z}
use Rattle.clip_regions.specs.declared.region.Region.{Region}
use Rattle.clip_regions.specs.Regions.{empty_region, contains}
use Rattle.terrain_model.specs.Terrain.{level_height}
use Rattle.plan_model.specs.Limits.{IsSize}
use Rattle.plan_model.specs.Blocks.{tile_of, tile_of_cell}
use Rattle.plan_model.specs.declared.events.JobNote.{JobNote}
use Rattle.book_cells.proofs.Claims.{block_there}
use Rattle.plan_model.specs.States.{State, OpenFrame, Pass, start_state, pass_at, frame_of}
use Rattle.plan_model.specs.Sound.{IsSound, IsSoundPass}
use Rattle.plan_model.specs.declared.events.Work.TheVariants.{Free, Fills, Draws}
use Rattle.plan_model.specs.declared.events.Event.TheVariants.{Move, Finish}
use Rattle.plan_model.specs.declared.events.Answer.TheVariants.{Moved}
use Rattle.plan_holds.proofs.Cells.{no_cell_of_empty}
use Rattle.plan_holds.proofs.Tiles.{frame_there}
use Rattle.plan_holds.proofs.Passes.{some_same}
use Rattle.plan_model.specs.Steps.{move_step}
use Rattle.plan_model.specs.declared.tiles.TileId.{TileId}
use Rattle.plan_model.specs.declared.events.Event.{Event}
use Rattle.plan_model.specs.declared.events.Answer.{Answer}
use Rattle.plan_holds.specs.Kept.{IsKept, HasJob, HasFrame, active_in}
use Rattle.plan_holds.specs.Laws.{ComesAfter, StepsGoOn, StepsKeep, KeptAtTheStart}
use Rattle.book_plan.specs.Books.{PlanView, Does as Plans}
use Rattle.torus_grid.specs.Grids.{Grid, tile_at, is_home, has_tile, height_in, height_at, new_grid, tile_number}
use Rattle.torus_grid.specs.Places.{tile_height}
use Rattle.torus_grid.proofs.TilesAt.{column_of, row_of, at_tile}
use Rattle.plan_model.specs.Blocks.{tiles_per_side}
use Rattle.book_cells.specs.Cells.{HasCells, IsPainted, SameCellsBut, ComesHome}
use Rattle.book_cells.specs.Laws.{MovesNoTile, CellsStay, CellsAtTheStart, CellsComeHome, IsAtHome, DrawnCellsHaveHeights}
use Rattle.terrain_store.specs.Shapes.{Land}
use Rattle.clip_book.specs.Tiles.{Tiles, SameSizes, grid_on, no_grid, handed_to, cells_of}
use Rattle.clip_book.specs.Books.{BookView, IsBook, IsFilledOf, Shows}
use Rattle.clip_book.specs.Jobs.{FilledView}

-- a book after an event, with the tiles that it has then
pub next_stands : (old new : PlanView) (land : Land) (tiles tiles' : Tiles) → ComesAfter old.state new.state → IsKept new.state → SameSizes tiles tiles' → HasCells land.terrain new.state (cells_of tiles') → IsBook old land tiles → IsBook new land tiles'
next_stands old new land tiles tiles' after kept sizes cells book = record {
  levels = after.levels ∙ book.levels;
  kept = kept;
  many = sizes.levels ∙ book.many ∙ sym after.levels;
  size = λ level few. sizes.size level ∙ book.size level (subst (λ (n : ℕ). level < n) after.levels few) ∙ sym after.size;
  passes = sizes.passes ∙ book.passes;
  cells = cells;
}

pub same_sizes : (tiles : Tiles) → SameSizes tiles tiles
same_sizes tiles = record { levels = refl; passes = refl; size = λ level. refl }

pub after_event : StepsGoOn → (p : ℕ) (event : Event) (answer : Answer) (old new : PlanView) → Plans p event answer old new → ComesAfter old.state new.state
after_event goes p event answer old new does =
    subst (ComesAfter old.state) (sym does.state) (goes old.state p event)

pub kept_after : StepsKeep → (p : ℕ) (event : Event) (answer : Answer) (old new : PlanView) → Plans p event answer old new → IsKept old.state → IsKept new.state
kept_after keep p event answer old new does kept =
    subst IsKept (sym does.state) (keep old.state p event kept)

-- an event that moves no tile
pub quiet_stands : StepsKeep → StepsGoOn → CellsStay → (p : ℕ) (event : Event) (answer : Answer) (old new : PlanView) (land : Land) (tiles : Tiles) → MovesNoTile event → Plans p event answer old new → IsBook old land tiles → IsBook new land tiles
quiet_stands keep goes stay p event answer old new land tiles quiet does book =
    next_stands old new land tiles tiles (after_event goes p event answer old new does) (kept_after keep p event answer old new does book.kept) (same_sizes tiles) (subst (λ (st : State). HasCells land.terrain st (cells_of tiles)) (sym does.state) (stay land.terrain old.state p event (cells_of tiles) book.kept quiet book.cells)) book

-- ---- a cell in a tile at home
pub home_of : (grid : Grid) (t : TileId) (heights : List ℤ) → tile_at grid t ≡ Some heights → is_home grid t ≡ true
unfolding is_home
home_of grid t heights e = ap is_some e

pub height_of : (grid : Grid) (i j : ℤ) (heights : List ℤ) → tile_at grid (tile_of_cell grid.k i j) ≡ Some heights → height_at grid i j ≡ tile_height heights i j
unfolding height_at
height_of grid i j heights e = ap (λ (o : Option (List ℤ)). height_in o i j) e

pub cell_home : (plan : PlanView) (land : Land) (tiles : Tiles) (level : ℕ) (i j : ℤ) → IsBook plan land tiles → level < length plan.state.levels → IsAtHome land.terrain plan.state (cells_of tiles) level i j → is_home (grid_on tiles.grids level) (tile_of_cell (grid_on tiles.grids level).k i j) ≡ true
cell_home plan land tiles level i j book few at =
    subst (λ (k : ℕ). is_home (grid_on tiles.grids level) (tile_of_cell k i j) ≡ true) (sym (book.size level few)) (home_of (grid_on tiles.grids level) (tile_of_cell plan.state.k i j) at.heights at.home)

pub cell_height : (plan : PlanView) (land : Land) (tiles : Tiles) (level : ℕ) (i j : ℤ) → IsBook plan land tiles → level < length plan.state.levels → IsAtHome land.terrain plan.state (cells_of tiles) level i j → height_at (grid_on tiles.grids level) i j ≡ level_height land.terrain level i j
cell_height plan land tiles level i j book few at =
    height_of (grid_on tiles.grids level) i j at.heights (subst (λ (k : ℕ). tile_at (grid_on tiles.grids level) (tile_of_cell k i j) ≡ Some at.heights) (sym (book.size level few)) at.home) ∙ at.right

-- ---- the start
abbrev nothing : Option (List ℤ)
nothing = None

get_replicate : {X : Type 0} (n i : ℕ) (x d : X) → i < n → get_or (replicate n x) i d ≡ x
get_replicate zero i x d h = absurd (omega arith)
get_replicate (suc n) zero x d h = refl
get_replicate (suc n) (suc i) x d h = get_replicate n i x d (omega arith)

length_replicate : {X : Type 0} (n : ℕ) (x : X) → length (replicate n x) ≡ n
length_replicate zero x = refl
length_replicate (suc n) x = ap suc (length_replicate n x)

below_square : (n x y : ℕ) → x < n → y < n → n * y + x < n * n
below_square n x y hx hy =
    let rest : n ≡ (y + 1) + (n - (y + 1)) = omega arith in
    let whole : n * n ≡ n * ((y + 1) + (n - (y + 1))) = ap (λ (m : ℕ). n * m) rest in
    grind (arith)

new_home : (k : ℕ) (t : TileId) → has_tile k t ≡ true → is_some (tile_at (new_grid k) t) ≡ true
unfolding new_grid tile_number
new_home k t e =
    ap is_some (at_tile (new_grid k) t e ∙ get_replicate (tiles_per_side k * tiles_per_side k) (tile_number k t) _ None (below_square (tiles_per_side k) t.tx t.ty (column_of k t e) (row_of k t e)))

new_size : (k : ℕ) → (new_grid k).k ≡ k
unfolding new_grid
new_size k = refl

level_count : (k levels : ℕ) → length (start_state k levels).levels ≡ levels
unfolding start_state
level_count k levels = length_replicate levels _

state_size : (k levels : ℕ) → (start_state k levels).k ≡ k
unfolding start_state
state_size k levels = refl

pub start_stands : KeptAtTheStart → CellsAtTheStart → (k levels : ℕ) (land : Land) (plan : PlanView) (tiles : Tiles) → IsSize k → levels ≡ land.levels → plan ≡ record { state = start_state k levels; moves = 0 } → tiles ≡ record { grids = replicate levels (new_grid k); handed = replicate 16 nothing } → IsBook plan land tiles
start_stands kept cells k levels land plan tiles size many e t =
    let grid : (level : ℕ) → level < levels → grid_on tiles.grids level ≡ new_grid k = λ level few. ap (λ (v : Tiles). grid_on v.grids level) t ∙ get_replicate levels level (new_grid k) no_grid few in
    subst (λ (v : PlanView). IsBook v land tiles) (sym e) (record {
      levels = level_count k levels ∙ many;
      kept = kept k levels size;
      many = ap (λ (v : Tiles). length v.grids) t ∙ length_replicate levels (new_grid k) ∙ sym (level_count k levels);
      size = λ level few. ap (λ (g : Grid). g.k) (grid level (subst (λ (n : ℕ). level < n) (level_count k levels) few)) ∙ new_size k ∙ sym (state_size k levels);
      passes = ap (λ (v : Tiles). length v.handed) t ∙ length_replicate 16 nothing;
      cells = cells land.terrain k levels (cells_of tiles) size (λ level t few has. ap (λ (g : Grid). is_some (tile_at g t)) (grid level few) ∙ new_home k t has);
    })

-- ---- a move
pub plain_move : (x y : ℤ) (a : ℕ) (answer : Answer) (old new : PlanView) → SFits w32 x → SFits w32 y → Plans 0 (Move (to_z w32 (of_z w32 x)) (to_z w32 (of_z w32 y)) a) answer old new → Plans 0 (Move x y a) answer old new
plain_move x y a answer old new fx fy does =
    subst (λ (v : ℤ). Plans 0 (Move x v a) answer old new) (to_z-of_z w32 y fy) (subst (λ (v : ℤ). Plans 0 (Move v (to_z w32 (of_z w32 y)) a) answer old new) (to_z-of_z w32 x fx) does)

pub moved : (x y : ℤ) (a : ℕ) (answer : Answer) (old new : PlanView) → Plans 0 (Move x y a) answer old new → Plans 0 (Move x y a) Moved old new
unfolding move_step
moved x y a answer old new does = record { state = does.state; answered = refl; moves = does.moves }

-- ---- a cell that a frame shows is of a level that is there
none_past : {X : Type 0} (xs : List X) (n : ℕ) (d : X) → length xs ≤ n → get_or xs n d ≡ d
none_past [] n d h = refl
none_past (x ∷ xs) zero d h = absurd (omega arith)
none_past (x ∷ xs) (suc n) d h = none_past xs n d (omega arith)

shown_level : (frame : OpenFrame) (level : ℕ) (i j : ℤ) → contains (active_in frame level) i j ≡ true → level < length frame.actives
shown_level frame level i j t =
    elim (cases_lt level (length frame.actives)) [
      | inl few ↦ few
      | inr past ↦ absurd (no_cell_of_empty i j (subst (λ (r : Region). contains r i j ≡ true) (none_past frame.actives level empty_region past) t))
    ]

sound_actives : (k count : ℕ) (pass : Pass) (frame : OpenFrame) → frame_of pass ≡ Some frame → IsSoundPass k count pass → length frame.actives ≡ count
sound_actives k count Free frame e h = absurd (cc)
sound_actives k count (Fills job) frame e h = absurd (cc)
sound_actives k count (Draws other) frame e h =
    ap (λ (f : OpenFrame). length f.actives) (some_same (sym e)) ∙ h.many

pub level_there : (n : ℕ) (st : State) (p : ℕ) (frame : OpenFrame) (level : ℕ) (i j : ℤ) → IsSound n st → HasFrame st p frame → contains (active_in frame level) i j ≡ true → level < length st.levels
level_there n st p frame level i j sound has t =
    let many : length frame.actives ≡ length st.levels = sound_actives st.k (length st.levels) (pass_at st p) frame has (sound.parts p Free (frame_there st p frame has)) in
    subst (λ (m : ℕ). level < m) many (shown_level frame level i j t)

-- ---- what a book reads for a frame
-- the book shows the cell, read from its fields
pub shown : (plan : PlanView) (land : Land) (tiles : Tiles) (n p level : ℕ) (i j : ℤ) → DrawnCellsHaveHeights → IsSound n plan.state → IsBook plan land tiles → Shows plan.state p level i j → (level < length plan.state.levels) × IsAtHome land.terrain plan.state (cells_of tiles) level i j
shown plan land tiles n p level i j law sound book it =
    let few : level < length plan.state.levels = level_there n plan.state p it.frame level i j sound it.has it.cell in
    (few, law land.terrain plan.state (cells_of tiles) p it.frame level i j book.kept book.cells it.has few it.cell)

pub shown_level_there : (plan : PlanView) (land : Land) (tiles : Tiles) (n p level : ℕ) (i j : ℤ) → DrawnCellsHaveHeights → IsSound n plan.state → IsBook plan land tiles → Shows plan.state p level i j → level < length tiles.grids
shown_level_there plan land tiles n p level i j law sound book it =
    subst (λ (m : ℕ). level < m) (sym book.many) (shown plan land tiles n p level i j law sound book it).0

pub shown_home : (plan : PlanView) (land : Land) (tiles : Tiles) (n p level : ℕ) (i j : ℤ) → SFits w32 i → SFits w32 j → DrawnCellsHaveHeights → IsSound n plan.state → IsBook plan land tiles → Shows plan.state p level i j → is_home (grid_on tiles.grids level) (tile_of_cell (grid_on tiles.grids level).k (to_z w32 (of_z w32 i)) (to_z w32 (of_z w32 j))) ≡ true
shown_home plan land tiles n p level i j fi fj law sound book it =
    let at : (level < length plan.state.levels) × IsAtHome land.terrain plan.state (cells_of tiles) level i j = shown plan land tiles n p level i j law sound book it in
    ap₂ (λ (a b : ℤ). is_home (grid_on tiles.grids level) (tile_of_cell (grid_on tiles.grids level).k a b)) (to_z-of_z w32 i fi) (to_z-of_z w32 j fj) ∙ cell_home plan land tiles level i j book at.0 at.1

pub shown_height : (plan : PlanView) (land : Land) (tiles : Tiles) (n p level : ℕ) (i j r : ℤ) → SFits w32 i → SFits w32 j → DrawnCellsHaveHeights → IsSound n plan.state → IsBook plan land tiles → Shows plan.state p level i j → r ≡ height_at (grid_on tiles.grids level) (to_z w32 (of_z w32 i)) (to_z w32 (of_z w32 j)) → r ≡ level_height land.terrain level i j
shown_height plan land tiles n p level i j r fi fj law sound book it e =
    let at : (level < length plan.state.levels) × IsAtHome land.terrain plan.state (cells_of tiles) level i j = shown plan land tiles n p level i j law sound book it in
    e ∙ ap₂ (λ (a b : ℤ). height_at (grid_on tiles.grids level) a b) (to_z-of_z w32 i fi) (to_z-of_z w32 j fj) ∙ cell_height plan land tiles level i j book at.0 at.1

-- ---- a job that is given back
pub job_level : (plan : PlanView) (land : Land) (tiles : Tiles) (p : ℕ) (note : JobNote) → IsBook plan land tiles → HasJob plan.state p note → note.level < length tiles.grids
job_level plan land tiles p note book has =
    subst (λ (m : ℕ). note.level < m) (sym book.many) (book.kept.jobs p note has).level

pub job_tile_there : (plan : PlanView) (land : Land) (tiles : Tiles) (p : ℕ) (note : JobNote) (id : TileId) → IsBook plan land tiles → HasJob plan.state p note → id ≡ tile_of plan.state.k note.piece.bx note.piece.by → has_tile (grid_on tiles.grids note.level).k id ≡ true
job_tile_there plan land tiles p note id book has e =
    ap₂ has_tile (book.size note.level (book.kept.jobs p note has).level) e ∙ block_there plan.state.k note.piece.bx note.piece.by book.kept.size.low

pub given_stands : StepsKeep → StepsGoOn → CellsComeHome → (p : ℕ) (answer : Answer) (old new : PlanView) (land : Land) (tiles tiles' : Tiles) (note : JobNote) (id : TileId) (tile : List ℤ) → HasJob old.state p note → id ≡ tile_of old.state.k note.piece.bx note.piece.by → IsPainted land.terrain note.level note.piece.cells (handed_to tiles.handed p) tile → tile_at (grid_on tiles'.grids note.level) id ≡ Some tile → SameCellsBut note.level id p (cells_of tiles) (cells_of tiles') → SameSizes tiles tiles' → Plans p Finish answer old new → IsBook old land tiles → IsBook new land tiles'
given_stands keep goes home p answer old new land tiles tiles' note id tile has e painted there others sizes does book =
    let comes : ComesHome land.terrain note id p (cells_of tiles) (cells_of tiles') = record { heights = tile; home = there; painted = painted; others = others } in
    let comes' : ComesHome land.terrain note (tile_of old.state.k note.piece.bx note.piece.by) p (cells_of tiles) (cells_of tiles') = subst (λ (t : TileId). ComesHome land.terrain note t p (cells_of tiles) (cells_of tiles')) e comes in
    next_stands old new land tiles tiles' (after_event goes p Finish answer old new does) (kept_after keep p Finish answer old new does book.kept) sizes (subst (λ (st : State). HasCells land.terrain st (cells_of tiles')) (sym does.state) (home land.terrain old.state p note (cells_of tiles) (cells_of tiles') book.kept has comes' book.cells)) book

pub filled_inside : (p : ℕ) (inner v : BookView) (jin j : FilledView) → inner ≡ v → jin ≡ j → IsFilledOf v p j → IsFilledOf inner p jin
filled_inside p inner v jin j e f it =
    subst (λ (b : BookView). IsFilledOf b p jin) (sym e) (subst (λ (k : FilledView). IsFilledOf v p k) (sym f) it)

pub tile_read : (a k : ℕ) (bx by : ℤ) → a ≡ k → SFits w32 bx → SFits w32 by → tile_of a (to_z w32 (of_z w32 bx)) (to_z w32 (of_z w32 by)) ≡ tile_of k bx by
tile_read a k bx by e fx fy =
    ap₂ (λ (x y : ℤ). tile_of a x y) (to_z-of_z w32 bx fx) (to_z-of_z w32 by fy) ∙ ap (λ (n : ℕ). tile_of n bx by) e
