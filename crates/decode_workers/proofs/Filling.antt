-- What decoding asks of a job's block.
use Rattle.std.proofs.Common.{◌≡◌, Bool, true, false, cond, eqb, ℕ, ◌+◌, ◌-◌, ◌*◌, ◌/◌, ◌%◌, ◌^◌, ◌<◌, ◌≤◌, ℤ, pos, neg_ℤ, ◌-ℤ◌, ◌*ℤ◌, List, length, Bor, refl, ap, sym, ◌∙◌, subst, inr, ⊎_elim, arith}
use Rattle.std.proofs.lemmas.Int.{ints}
use Rattle.std.proofs.lemmas.Bool.Decides.{nat_tests}
use Rattle.std.proofs.lemmas.Nat.{div_below, mod_below}
use Rattle.std.proofs.Math.Nat.{div-le_self}
use Rattle.clip_regions.specs.declared.region.Region.{Region}
use Rattle.clip_regions.specs.Regions.{contains, area}
use Rattle.clip_regions.proofs.Cells.{Within, has_cell, within}
use Rattle.terrain_model.specs.Terrain.{level_height}
use Rattle.plan_model.specs.Blocks.{block_cells}
use Rattle.plan_model.specs.Strips.{need}
use Rattle.plan_model.specs.declared.events.JobNote.{JobNote}
use Rattle.four_point.specs.declared.patch.Patch.{Patch}
use Rattle.four_point.specs.Patches.{patch_height}
use Rattle.four_point.specs.Steps.{IsStep}
use Rattle.block_heights.specs.declared.block.Block.{Block}
use Rattle.block_heights.specs.declared.block.Kind.{Kind}
use Rattle.block_heights.specs.declared.block.Kind.TheVariants.{Outside, Plain, Words}
use Rattle.block_heights.specs.declared.block.PieceFault.{PieceFault}
use Rattle.block_heights.specs.Pieces.{IsPieceUpTo}
use Rattle.block_heights.specs.Decoded.{IsNearZero, IsPart, IsPartOf, IsPatchOf, HasKind, HasHeights, HasPieceFault}
use Rattle.store_model.specs.Sizes.{cells_on, blocks_on, block_count, block_column, block_row}
use Rattle.store_model.specs.Format.{IsVersion}
use Rattle.store_laws.proofs.Heads.{side_of_sound}
use Rattle.terrain_store.specs.Shapes.{Land}
use Rattle.terrain_store.specs.Stores.{Stored, IsStored, land_of}
use Rattle.terrain_store.specs.Blocks.{IsStoredBlock, HasBlock}
use Rattle.terrain_store.proofs.Blocks.{decodes}
use Rattle.store_pieces.specs.Laws.{Predicts, IsPieceOf, PiecesAreHeights, PiecesHaveNoFault}
use Rattle.clip_book.specs.Jobs.{JobView, IsJob, needed}
use Rattle.decode_workers.specs.Fills.{HasFewCells, IsBlockOfJob}
use Rattle.decode_workers.proofs.Predicting.{predicted_by_need}

-- ---- the cells of a job
corners : (land : Land) (note : JobNote) (patch : Patch) → IsJob land note patch → Within (block_cells note.piece.bx note.piece.by) note.piece.cells
corners land note patch job = within (block_cells note.piece.bx note.piece.by) note.piece.cells job.block job.some

pub few_cells : (land : Land) (note : JobNote) (patch : Patch) → IsJob land note patch → HasFewCells note.piece.cells
unfolding block_cells
few_cells land note patch job =
    let some = has_cell note.piece.cells job.some in
    let held = corners land note patch job in
    record {
      some_columns = some.across;
      few_columns = (let w = held.west in let e = held.east in omega (arith, ints));
      some_rows = some.along;
      few_rows = (let n = held.north in let s = held.south in omega (arith, ints));
    }

pub part_of_job : (land : Land) (note : JobNote) (patch : Patch) → IsJob land note patch → IsPart note.piece.bx note.piece.by note.piece.cells
unfolding block_cells
part_of_job land note patch job =
    let some = has_cell note.piece.cells job.some in
    let held = corners land note patch job in
    let part : IsPartOf note.piece.bx note.piece.by note.piece.cells =
    record { west = held.west; across = some.across; east = held.east; north = held.north; down = some.along; south = held.south } in
    inr part

pub patch_of_job : (land : Land) (note : JobNote) (patch : Patch) → IsJob land note patch → IsPatchOf note.piece.bx note.piece.by patch
patch_of_job land note patch job = record { column = job.coarser.column; row = job.coarser.row }

-- ---- the patch predicts as the next coarser level does
needs_of : (levels : ℕ) (note : JobNote) → note.level + 1 < levels → needed levels note ≡ need note.piece.cells
needs_of levels note below =
    let other : eqb (note.level + 1) levels ≡ false = grind (arith, nat_tests) in
    ap (λ (t : Bool). cond t (record { x0 = pos 0; y0 = pos 0; x1 = neg_ℤ (pos 1); y1 = neg_ℤ (pos 1) }) (need note.piece.cells)) other

pub predicts : (store : Stored) (land : Land) (note : JobNote) (patch : Patch) → land_of store ≡ land → IsJob land note patch → Predicts patch store note.level note.piece.cells
predicts store land note patch same job = λ i j below inside here.
    let finer : note.level + 1 < land.levels = subst (λ (l : Land). note.level + 1 < l.levels) same below in
    predicted_by_need (patch_height patch) (level_height store.terrain (note.level + 1)) note.piece.cells i j here (λ x y needs.
    job.coarser.there x y (subst (λ (r : Region). contains r x y ≡ true) (sym (needs_of land.levels note finer)) needs)
    ∙ ap (λ (l : Land). level_height l.terrain (note.level + 1) x y) (sym same))

-- ---- the job's piece of the block
pub piece_of : (block : Block) (job : JobView) (b : IsBlockOfJob block job) → IsJob job.land job.note job.patch → IsPieceOf b.store block.kind job.note.level job.note.piece.bx job.note.piece.by block.inside job.note.piece.cells job.patch
piece_of block job b is =
    record {
      stands = b.stands;
      in_store = subst (λ (l : Land). job.note.level < l.levels) (sym b.land) is.level;
      block = subst (λ (y : ℤ). HasBlock block.kind b.store job.note.level job.note.piece.bx y block.inside) b.row (subst (λ (x : ℤ). HasBlock block.kind b.store job.note.level x block.by block.inside) b.column (subst (λ (n : ℕ). HasBlock block.kind b.store n block.bx block.by block.inside) b.level b.content));
      part = part_of_job job.land job.note job.patch is;
      predicts = predicts b.store job.land job.note job.patch b.land is;
    }

pub kind_of_job : (block : Block) (job : JobView) → IsBlockOfJob block job → IsJob job.land job.note job.patch → HasKind block.kind block.bx block.by block.inside job.patch
kind_of_job block job b is =
    decodes block.kind b.store block.level block.bx block.by block.inside b.content job.patch (record { column = is.coarser.column ∙ ap (λ (x : ℤ). pos 4 *ℤ x -ℤ pos 1) (sym b.column); row = is.coarser.row ∙ ap (λ (y : ℤ). pos 4 *ℤ y -ℤ pos 1) (sym b.row) })

-- ---- a store's step, and the blocks that have cells in its terrain
step_of : (version step : ℕ) → IsVersion version step → IsStep step
step_of version step v =
    ⊎_elim
    (λ (one : (version ≡ 1) × (step ≡ 1)). (let e = one.1 in record { odd = ap (λ (n : ℕ). n % 2) e; high = omega arith }))
    (λ (two : (version ≡ 2) × IsStep step). two.1)
    v

pub step_of_job : (block : Block) (job : JobView) → IsBlockOfJob block job → IsStep block.step
step_of_job block job b = subst IsStep (sym b.step) (step_of b.store.head.version b.store.head.step b.stands.sound.version)

few_on : (side level : ℕ) → 1 ≤ side → side ≤ 2 ^ 26 → cells_on side level ≤ 2 ^ 26
unfolding cells_on
few_on side level some few = omega (arith, div-le_self (side - 1) (2 ^ level))

pub near_zero : (store : Stored) (level : ℕ) (bx by : ℤ) (inside : Region) (content : List ℕ) → IsStored store → IsStoredBlock store level bx by inside content → IsNearZero bx by
unfolding block_count block_column block_row blocks_on
near_zero store level bx by inside content stands s =
    let sides = side_of_sound store.head stands.sound in
    let wide : cells_on store.head.width level ≤ 2 ^ 26 = few_on store.head.width level sides.0.0 sides.0.1 in
    let high : cells_on store.head.height level ≤ 2 ^ 26 = few_on store.head.height level sides.1.0 sides.1.1 in
    let across = (cells_on store.head.width level - 1) / 8 + 1 in
    let down = (cells_on store.head.height level - 1) / 8 + 1 in
    let below : s.k < across * down = s.at.below in
    let turned : s.k < down * across = omega arith in
    let column : s.k % across < across = mod_below s.k across (omega arith) in
    let row : s.k / across < down = div_below s.k across down (omega arith) turned in
    let x : bx ≡ pos (s.k % across) = s.at.column in
    let y : by ≡ pos (s.k / across) = s.at.row in
    record {
      west = omega (arith, ints);
      east = omega (arith, ints);
      north = omega (arith, ints);
      south = omega (arith, ints);
    }

near_inside : (block : Block) (job : JobView) (b : IsBlockOfJob block job) (content : List ℕ) → IsStoredBlock b.store block.level block.bx block.by block.inside content → IsNearZero block.bx block.by
near_inside block job b content s = near_zero b.store block.level block.bx block.by block.inside content b.stands s

pub near_plain : (block : Block) (job : JobView) (b : IsBlockOfJob block job) (bytes : Bor (List ℕ)) → block.kind ≡ Plain bytes → IsNearZero block.bx block.by
near_plain block job b bytes is =
    near_inside block job b bytes.now (subst (λ (kind : Kind). HasBlock kind b.store block.level block.bx block.by block.inside) is b.content).1

pub near_words : (block : Block) (job : JobView) (b : IsBlockOfJob block job) (bytes : Bor (List ℕ)) → block.kind ≡ Words bytes → IsNearZero block.bx block.by
near_words block job b bytes is =
    near_inside block job b bytes.now (subst (λ (kind : Kind). HasBlock kind b.store block.level block.bx block.by block.inside) is b.content).1

-- ---- what decoding gives
pub no_fault : PiecesHaveNoFault → (block : Block) (job : JobView) → IsBlockOfJob block job → IsJob job.land job.note job.patch → (patch : Patch) (cells : Region) (n : ℕ) (fault : PieceFault) →
    patch ≡ job.patch → cells ≡ job.note.piece.cells → n ≡ area job.note.piece.cells → HasPieceFault block.kind patch block.step block.inside cells n fault → ⊥
no_fault law block job b is patch cells n fault ep ec size bad =
    law b.store block.kind job.note.level job.note.piece.bx job.note.piece.by block.inside job.note.piece.cells job.patch n fault (piece_of block job b is) size
    (subst (λ (step : ℕ). HasPieceFault block.kind job.patch step block.inside job.note.piece.cells n fault) b.step (subst (λ (p : Patch). HasPieceFault block.kind p block.step block.inside job.note.piece.cells n fault) ep (subst (λ (r : Region). HasPieceFault block.kind patch block.step block.inside r n fault) ec bad)))

pub heights_are : PiecesAreHeights → (block : Block) (job : JobView) → IsBlockOfJob block job → IsJob job.land job.note job.patch → (patch : Patch) (cells : Region) (out : List ℤ) →
    patch ≡ job.patch → cells ≡ job.note.piece.cells → length out ≡ area job.note.piece.cells → HasHeights block.kind patch block.step block.inside cells out →
    IsPieceUpTo (length out) (level_height job.land.terrain job.note.level) job.note.piece.cells out
heights_are law block job b is patch cells out ep ec size has =
    subst (λ (l : Land). IsPieceUpTo (length out) (level_height l.terrain job.note.level) job.note.piece.cells out) b.land
    (law b.store block.kind job.note.level job.note.piece.bx job.note.piece.by block.inside job.note.piece.cells job.patch out (piece_of block job b is) size
    (subst (λ (step : ℕ). HasHeights block.kind job.patch step block.inside job.note.piece.cells out) b.step (subst (λ (p : Patch). HasHeights block.kind p block.step block.inside job.note.piece.cells out) ep (subst (λ (r : Region). HasHeights block.kind patch block.step block.inside r out) ec has))))

pub zeros_are : PiecesAreHeights → (block : Block) (job : JobView) → IsBlockOfJob block job → IsJob job.land job.note job.patch → (cells : Region) (out : List ℤ) → block.kind ≡ Outside →
    cells ≡ job.note.piece.cells → length out ≡ area job.note.piece.cells → IsPieceUpTo (length out) (λ i j. pos 0) cells out →
    IsPieceUpTo (length out) (level_height job.land.terrain job.note.level) job.note.piece.cells out
zeros_are law block job b is cells out none ec size zeros =
    heights_are law block job b is job.patch cells out refl ec size (subst (λ (kind : Kind). HasHeights kind job.patch block.step block.inside cells out) (sym none) zeros)
