-- The rows of a patch that is read from a torus.
use Rattle.std.proofs.Common.{◌≡◌, ℕ, ℤ, pos, negsuc, nat_abs, ◌+◌, ◌<◌, ◌≤◌, ◌+ℤ◌, ◌-ℤ◌, ◌*ℤ◌, ◌≤ℤ◌, Bool, true, false, cond, ◌==◌, List, [], get_or, refl, ap, sym, ◌∙◌, subst, inl, inr, arith}
use Rattle.std.proofs.lemmas.Bool.{cases_Bool, eqb-true}
use Rattle.std.specs.Int.{w16, w32}
use Rattle.std.proofs.lemmas.Int.{ints, to_z-of_z}
use mathlib.Core.Path.{ap₂}
use mir.Val.{SFits, to_z, of_z}
use lib.Signed.{mag}
use Rattle.four_point.specs.declared.patch.Patch.{Patch}
use Rattle.four_point.specs.Patches.{patch_height}
use Rattle.four_point.proofs.AroundLemmas.{read_after}
use Rattle.four_point.proofs.SumLemmas.{height_inside}
use Rattle.clip_regions.specs.declared.region.Region.{Region}
use Rattle.clip_regions.specs.Regions.{contains, holds, empty_region}
use Rattle.clip_regions.proofs.Cells.{Lies, lies, within}
use Rattle.plan_model.specs.Blocks.{block_cells}
use Rattle.plan_model.specs.Strips.{need}
use Rattle.plan_model.specs.declared.tiles.Piece.{Piece}
use Rattle.plan_model.specs.declared.events.JobNote.{JobNote}
use Rattle.plan_laws.specs.Needs.{patch_of}
use Rattle.plan_holds.proofs.Cells.{no_cell_of_empty, held_in}
use Rattle.torus_grid.specs.Grids.{Grid, height_at}
use Rattle.terrain_store.specs.Shapes.{Land}
use Rattle.clip_book.specs.Jobs.{needed, IsPatch}
use Rattle.clip_book.specs.Reading.{IsBlockPlace, IsInBlock, IsSeenPatch, IsReadable}
use Rattle.clip_book.specs.Tiles.{IsCorner, AreHome, seen}

pub place_fits : (z : ℤ) (k : ℕ) → k ≤ 6 → IsCorner z → SFits w32 (z +ℤ pos k)
place_fits z k few p =
    let l = p.low in
    let h = p.high in
    grind (arith, ints)

pub place_itself : (z : ℤ) → IsCorner z → SFits w32 z
place_itself z p =
    let l = p.low in
    let h = p.high in
    grind (arith, ints)

-- a height that was read k columns after the first
pub height_after : (H : ℤ → ℤ → ℤ) (i0 b r : ℤ) (k : ℕ) → k ≤ 6 → IsCorner i0 → SFits w32 b → mag r < 32768 → r ≡ H (to_z w32 (of_z w32 (to_z w32 (of_z w32 i0) +ℤ pos k))) (to_z w32 (of_z w32 b)) → to_z w16 (of_z w16 r) ≡ H (i0 +ℤ pos k) b
height_after H i0 b r k few corner row size e =
    let r_fits : SFits w16 r = record { sfits = size } in
    to_z-of_z w16 r r_fits ∙ e ∙ ap₂ H (read_after i0 k (place_itself i0 corner) (place_fits i0 k few corner)) (to_z-of_z w32 b row)

pub height_first : (H : ℤ → ℤ → ℤ) (i0 b r : ℤ) → IsCorner i0 → SFits w32 b → mag r < 32768 → r ≡ H (to_z w32 (of_z w32 i0)) (to_z w32 (of_z w32 b)) → to_z w16 (of_z w16 r) ≡ H (i0 +ℤ pos 0) b
height_first H i0 b r corner row size e =
    let r_fits : SFits w16 r = record { sfits = size } in
    let none : i0 ≡ i0 +ℤ pos 0 = omega (arith, ints) in
    to_z-of_z w16 r r_fits ∙ e ∙ ap₂ H (to_z-of_z w32 i0 (place_itself i0 corner) ∙ none) (to_z-of_z w32 b row)

-- a row of heights
abbrev pub IsRow : (ℤ → ℤ → ℤ) → ℤ → ℤ → List ℤ → Type 0
IsRow H i0 b row = (a : ℕ) → a < 7 → get_or row a (pos 0) ≡ H (i0 +ℤ pos a) b

pub row_after : (H : ℤ → ℤ → ℤ) (i0 j0 : ℤ) (row : List ℤ) (k : ℕ) → k ≤ 6 → IsCorner i0 → IsCorner j0 → ((a : ℕ) → a < 7 → get_or row a (pos 0) ≡ H (to_z w32 (of_z w32 i0) +ℤ pos a) (to_z w32 (of_z w32 (to_z w32 (of_z w32 j0) +ℤ pos k)))) → IsRow H i0 (j0 +ℤ pos k) row
row_after H i0 j0 row k few column low e = λ a l.
    e a l ∙ ap₂ H (ap (λ (x : ℤ). x +ℤ pos a) (to_z-of_z w32 i0 (place_itself i0 column))) (read_after j0 k (place_itself j0 low) (place_fits j0 k few low))

pub row_first : (H : ℤ → ℤ → ℤ) (i0 j0 : ℤ) (row : List ℤ) → IsCorner i0 → IsCorner j0 → ((a : ℕ) → a < 7 → get_or row a (pos 0) ≡ H (to_z w32 (of_z w32 i0) +ℤ pos a) (to_z w32 (of_z w32 j0))) → IsRow H i0 (j0 +ℤ pos 0) row
row_first H i0 j0 row column low e = λ a l.
    let none : j0 ≡ j0 +ℤ pos 0 = omega (arith, ints) in
    e a l ∙ ap₂ H (ap (λ (x : ℤ). x +ℤ pos a) (to_z-of_z w32 i0 (place_itself i0 column))) (to_z-of_z w32 j0 (place_itself j0 low) ∙ none)

-- a number that is not negative is its size
size_of : (z : ℤ) → pos 0 ≤ℤ z → pos (nat_abs z) ≡ z
size_of (pos n) h = refl
size_of (negsuc n) h = absurd (omega (arith, ints))

-- the heights of a patch by those at its places
pub patch_is : (H : ℤ → ℤ → ℤ) (patch : Patch) (i0 j0 : ℤ) → patch.i0 ≡ i0 → patch.j0 ≡ j0 → ((a b : ℕ) → a < 7 → b < 7 → get_or (get_or patch.h b []) a (pos 0) ≡ H (i0 +ℤ pos a) (j0 +ℤ pos b)) → (a b : ℤ) → i0 ≤ℤ a → a ≤ℤ (i0 +ℤ pos 6) → j0 ≤ℤ b → b ≤ℤ (j0 +ℤ pos 6) → patch_height patch a b ≡ H a b
patch_is H patch i0 j0 e f heights a b al ah bl bh =
    let across : pos (nat_abs (a -ℤ patch.i0)) ≡ a -ℤ patch.i0 = size_of (a -ℤ patch.i0) (omega (arith, ints)) in
    let down : pos (nat_abs (b -ℤ patch.j0)) ≡ b -ℤ patch.j0 = size_of (b -ℤ patch.j0) (omega (arith, ints)) in
    let few_across : nat_abs (a -ℤ patch.i0) < 7 = omega (arith, ints) in
    let few_down : nat_abs (b -ℤ patch.j0) < 7 = omega (arith, ints) in
    let column : i0 +ℤ pos (nat_abs (a -ℤ patch.i0)) ≡ a = omega (arith, ints) in
    let row : j0 +ℤ pos (nat_abs (b -ℤ patch.j0)) ≡ b = omega (arith, ints) in
    sym (height_inside patch a b (H a b) (omega (arith, ints)) (omega (arith, ints)) (sym (heights (nat_abs (a -ℤ patch.i0)) (nat_abs (b -ℤ patch.j0)) few_across few_down ∙ ap₂ H column row)))

-- ---- the patch of a block
pub block_place : (piece : Piece) → SFits w32 piece.cells.x0 → SFits w32 piece.cells.x1 → IsInBlock piece → IsBlockPlace piece.bx
unfolding block_cells
block_place piece f g it =
    let inside = within (block_cells piece.bx piece.by) piece.cells it.held it.some in
    let west : (pos 8 *ℤ piece.bx) ≤ℤ piece.cells.x0 = inside.west in
    let east : piece.cells.x1 ≤ℤ (pos 8 *ℤ piece.bx +ℤ pos 7) = inside.east in
    let a = f.sfits in
    let b = g.sfits in
    record { low = grind (arith, ints); high = grind (arith, ints) }

pub block_row : (piece : Piece) → SFits w32 piece.cells.y0 → SFits w32 piece.cells.y1 → IsInBlock piece → IsBlockPlace piece.by
unfolding block_cells
block_row piece f g it =
    let inside = within (block_cells piece.bx piece.by) piece.cells it.held it.some in
    let north : (pos 8 *ℤ piece.by) ≤ℤ piece.cells.y0 = inside.north in
    let south : piece.cells.y1 ≤ℤ (pos 8 *ℤ piece.by +ℤ pos 7) = inside.south in
    let a = f.sfits in
    let b = g.sfits in
    record { low = grind (arith, ints); high = grind (arith, ints) }

pub place_read : (z : ℤ) → SFits w32 z → IsBlockPlace z → IsBlockPlace (to_z w32 (of_z w32 z))
place_read z f p = subst IsBlockPlace (sym (to_z-of_z w32 z f)) p

pub corner_read : (z r : ℤ) → SFits w32 z → mag r < 2147483648 → r ≡ pos 4 *ℤ to_z w32 (of_z w32 z) -ℤ pos 1 → to_z w32 (of_z w32 r) ≡ pos 4 *ℤ z -ℤ pos 1
corner_read z r f size e =
    let r_fits : SFits w32 r = record { sfits = size } in
    to_z-of_z w32 r r_fits ∙ e ∙ ap (λ (v : ℤ). pos 4 *ℤ v -ℤ pos 1) (to_z-of_z w32 z f)

pub seen_patch : (grid : Grid) (region : Region) (piece : Piece) (patch : Patch) (i0 j0 : ℤ) → i0 ≡ pos 4 *ℤ piece.bx -ℤ pos 1 → j0 ≡ pos 4 *ℤ piece.by -ℤ pos 1 → patch.i0 ≡ i0 → patch.j0 ≡ j0 → ((a b : ℕ) → a < 7 → b < 7 → get_or (get_or patch.h b []) a (pos 0) ≡ seen grid region (i0 +ℤ pos a) (j0 +ℤ pos b)) → IsSeenPatch grid region piece patch
unfolding patch_of
seen_patch grid region piece patch i0 j0 ei ej column row heights = record {
  column = column ∙ ei;
  row = row ∙ ej;
  heights = λ i j t. let at : Lies (patch_of piece.bx piece.by) i j = lies (patch_of piece.bx piece.by) i j t in
      let west : (pos 4 *ℤ piece.bx -ℤ pos 1) ≤ℤ i = at.west in
      let east : i ≤ℤ (pos 4 *ℤ piece.bx +ℤ pos 5) = at.east in
      let north : (pos 4 *ℤ piece.by -ℤ pos 1) ≤ℤ j = at.north in
      let south : j ≤ℤ (pos 4 *ℤ piece.by +ℤ pos 5) = at.south in
      patch_is (seen grid region) patch i0 j0 column row heights i j (omega (arith, ints)) (omega (arith, ints)) (omega (arith, ints)) (omega (arith, ints));
}

-- ---- the patch of a job
needed_last : (land : Land) (note : JobNote) → (note.level + 1 == land.levels) ≡ true → needed land.levels note ≡ empty_region
needed_last land note e = ap (λ (b : Bool). cond b empty_region (need note.piece.cells)) e

needed_finer : (land : Land) (note : JobNote) → (note.level + 1 == land.levels) ≡ false → needed land.levels note ≡ need note.piece.cells
needed_finer land note e = ap (λ (b : Bool). cond b empty_region (need note.piece.cells)) e

pub seen_none : (grid : Grid) (region : Region) (i j : ℤ) → contains region i j ≡ false → seen grid region i j ≡ pos 0
unfolding seen
seen_none grid region i j e = ap (λ (b : Bool). cond b (height_at grid i j) (pos 0)) e

pub seen_some : (grid : Grid) (region : Region) (i j : ℤ) → contains region i j ≡ true → seen grid region i j ≡ height_at grid i j
unfolding seen
seen_some grid region i j e = ap (λ (b : Bool). cond b (height_at grid i j) (pos 0)) e

pub last_patch : (land : Land) (note : JobNote) (patch : Patch) (grid : Grid) → (note.level + 1 == land.levels) ≡ true → IsSeenPatch grid empty_region note.piece patch → IsPatch land note patch
last_patch land note patch grid e it = record {
  column = it.column;
  row = it.row;
  there = λ i j t. absurd (no_cell_of_empty i j (subst (λ (r : Region). contains r i j ≡ true) (needed_last land note e) t));
  elsewhere = λ i j t out. it.heights i j t ∙ seen_none grid empty_region i j (subst (λ (r : Region). contains r i j ≡ false) (needed_last land note e) out);
}

pub finer_patch : (land : Land) (note : JobNote) (patch : Patch) (grid : Grid) → (note.level + 1 == land.levels) ≡ false → holds (patch_of note.piece.bx note.piece.by) (need note.piece.cells) ≡ true → ((i j : ℤ) → contains (needed land.levels note) i j ≡ true → IsReadable land.terrain grid (note.level + 1) i j) → IsSeenPatch grid (need note.piece.cells) note.piece patch → IsPatch land note patch
finer_patch land note patch grid e inside readable it = record {
  column = it.column;
  row = it.row;
  there = λ i j t. let t' : contains (need note.piece.cells) i j ≡ true = subst (λ (r : Region). contains r i j ≡ true) (needed_finer land note e) t in
      it.heights i j (held_in (patch_of note.piece.bx note.piece.by) (need note.piece.cells) i j inside t') ∙ seen_some grid (need note.piece.cells) i j t' ∙ (readable i j t).right;
  elsewhere = λ i j t out. it.heights i j t ∙ seen_none grid (need note.piece.cells) i j (subst (λ (r : Region). contains r i j ≡ false) (needed_finer land note e) out);
}

pub finer_home : (land : Land) (note : JobNote) (grid : Grid) → (note.level + 1 == land.levels) ≡ false → ((i j : ℤ) → contains (needed land.levels note) i j ≡ true → IsReadable land.terrain grid (note.level + 1) i j) → AreHome grid (need note.piece.cells)
finer_home land note grid e readable i j t =
    (readable i j (subst (λ (r : Region). contains r i j ≡ true) (sym (needed_finer land note e)) t)).home

pub none_home : (grid : Grid) → AreHome grid empty_region
none_home grid i j t = absurd (no_cell_of_empty i j t)

pub not_equal : (a b : ℕ) → (a ≡ b → ⊥) → (a == b) ≡ false
not_equal a b other =
    elim (cases_Bool (a == b)) [
      | inl same ↦ absurd (other (eqb-true a b same))
      | inr e ↦ e
    ]
