-- What holds of one level and of one job, whatever the state's form: that it holds after each change of them.
use Rattle.std.proofs.Common.{◌≡◌, ℕ, ◌+◌, ◌≤◌, Bool, true, false, ◌||◌, ℤ, List, [], ◌∷◌, Option, Some, None, refl, sym, ◌∙◌, subst, inl, inr, ◌⊎◌, arith}
use Rattle.std.proofs.lemmas.Bool.{cases_eq, or_cases, true≢false, false_from_ne_true}
use Rattle.std.specs.List.{filter}
use mathlib.Core.Path.{ap₂}
use Rattle.clip_regions.specs.declared.region.Region.{Region}
use Rattle.clip_regions.specs.Regions.{contains, meet, holds}
use Rattle.plan_model.specs.Blocks.{block_cells, tile_of, tile_of_cell, wrapped_place, same_block}
use Rattle.plan_model.specs.Strips.{current_strip, pieces, hull}
use Rattle.plan_model.specs.Claims.{strip_pieces, is_finished}
use Rattle.plan_model.specs.Laws.{IsFilledIn}
use Rattle.plan_model.specs.declared.tiles.TileId.{TileId}
use Rattle.plan_model.specs.declared.tiles.Piece.{Piece}
use Rattle.plan_model.specs.declared.events.JobNote.{JobNote}
use Rattle.plan_holds.specs.Apart.{AreApart}
use Rattle.plan_holds.proofs.Members.{Among, passed, any_from, any_of}
use Rattle.plan_holds.proofs.Cells.{held_in, met}
use Rattle.plan_holds.proofs.Places.{Known, one_block, block_itself, one_block_tile, one_place_tile, block_tile, piece_cell, piece_in_block, one_piece, shared_cell, piece_with, strip_cell, hull_cell, filled_cell, filled_in, hull_in}

-- what a level has, with its window and its current strip
pub record LevelNow : Type 0 where
  pub filled : Region
  pub finished : List Piece
  pub plan : ℕ
  pub window : Region
  pub strip : Option Region

-- two cells of a region with one place are one
abbrev pub IsFit : ℕ → Region → Type 0
IsFit k r =
    (i j i' j' : ℤ) → contains r i j ≡ true → contains r i' j' ≡ true → wrapped_place k i j ≡ wrapped_place k i' j' → (i ≡ i') × (j ≡ j')

-- the strip is the first one, where there is one
abbrev pub IsFirst : LevelNow → Type 0
IsFirst v = (s : Region) → v.strip ≡ Some s → current_strip v.filled v.window ≡ Some s

pub record KeepsLevel (k : ℕ) (v : LevelNow) : Type 0 where
  pub inside : IsFilledIn v.filled v.window
  pub first : IsFirst v
  pub fit : IsFit k v.window
  pub finished : v.finished ≡ filter (is_finished v.finished) (strip_pieces v.strip)

-- the tile of a piece
abbrev pub tile : ℕ → Piece → TileId
tile k q = tile_of k q.bx q.by

pub record KeepsJob (k : ℕ) (v : LevelNow) (job : JobNote) : Type 0 where
  pub in_block : holds (block_cells job.piece.bx job.piece.by) job.piece.cells ≡ true
  pub plan : job.plan ≤ v.plan
  pub fresh : job.plan ≡ v.plan → Among job.piece (strip_pieces v.strip) × (is_finished v.finished job.piece ≡ false)
  pub stale : (job.plan ≡ v.plan → ⊥) → (q : Piece) → Among q v.finished → tile k q ≡ tile k job.piece → ⊥
  pub apart : AreApart k v.filled job.piece.cells

-- ---- finished pieces
pub is_among : (finished : List Piece) (q : Piece) → is_finished finished q ≡ true → (r : Piece) × Among r finished × (same_block q r ≡ true)
unfolding is_finished
is_among finished q t = any_of (same_block q) finished t

pub among_is : (finished : List Piece) (q r : Piece) → Among r finished → same_block q r ≡ true → is_finished finished q ≡ true
unfolding is_finished
among_is finished q r h t = any_from (same_block q) finished r h t

block_trans : (p q r : Piece) → same_block p q ≡ true → same_block q r ≡ true → same_block p r ≡ true
block_trans p q r t u =
    let a : (p.bx ≡ q.bx) × (p.by ≡ q.by) = one_block p q t in
    let b : (q.bx ≡ r.bx) × (q.by ≡ r.by) = one_block q r u in
    block_itself p r (a.0 ∙ b.0) (a.1 ∙ b.1)

-- a finished piece is one of the current strip
pub current_piece : (k : ℕ) (v : LevelNow) (q : Piece) → KeepsLevel k v → Among q v.finished → Among q (strip_pieces v.strip)
current_piece k v q kept h =
    (passed (is_finished v.finished) (strip_pieces v.strip) q (subst (λ (l : List Piece). Among q l) kept.finished h)).0

-- none of the pieces is finished where no piece is
pub none_finished : (all : List Piece) → [] ≡ filter (is_finished []) all
unfolding is_finished
none_finished [] = refl
none_finished (q ∷ all) = none_finished all

-- some of a strip's pieces, in their order, are those that are found finished
found : Known → (strip : Option Region) (finished : List Piece) (test : Piece → Bool) → finished ≡ filter test (strip_pieces strip) → finished ≡ filter (is_finished finished) (strip_pieces strip)
found known None finished test e = e
found known (Some s) finished test e = sym (known.found s finished test e)

-- a strip that has a piece is there
pub strip_of : (strip : Option Region) (q : Piece) → Among q (strip_pieces strip) → (s : Region) × (strip ≡ Some s) × Among q (pieces s)
strip_of None q h = absurd h
strip_of (Some s) q h = (s, refl, h)

-- a piece of the current strip lies in the window and meets no filled cell
current_cell : Known → (k : ℕ) (v : LevelNow) (q : Piece) (i j : ℤ) → KeepsLevel k v → Among q (strip_pieces v.strip) → contains q.cells i j ≡ true → (contains v.window i j ≡ true) × (contains v.filled i j ≡ true → ⊥)
current_cell known k v q i j kept h t =
    let s : (s : Region) × (v.strip ≡ Some s) × Among q (pieces s) = strip_of v.strip q h in
    strip_cell known.strips v.filled v.window s.0 i j kept.inside (kept.first s.0 s.1) (piece_cell known s.0 q i j s.2 t).0

current_block : Known → (strip : Option Region) (q : Piece) → Among q (strip_pieces strip) → holds (block_cells q.bx q.by) q.cells ≡ true
current_block known strip q h = let s : (s : Region) × (strip ≡ Some s) × Among q (pieces s) = strip_of strip q h in piece_in_block known s.0 q s.2

-- two pieces of one strip with a cell are in one block
current_shared : Known → (strip : Option Region) (p q : Piece) (i j : ℤ) → Among p (strip_pieces strip) → Among q (strip_pieces strip) → contains p.cells i j ≡ true → contains q.cells i j ≡ true → same_block p q ≡ true
current_shared known None p q i j h g t u = absurd h
current_shared known (Some s) p q i j h g t u = shared_cell known s p q i j h g t u

-- two pieces of one strip in one block are one
pub current_one : Known → (strip : Option Region) (p q : Piece) → Among p (strip_pieces strip) → Among q (strip_pieces strip) → same_block p q ≡ true → p ≡ q
current_one known None p q h g t = absurd h
current_one known (Some s) p q h g t = one_piece known s p q h g t

-- ---- a piece that is claimed
pub claimed_job : Known → (k l : ℕ) (v : LevelNow) (q : Piece) → KeepsLevel k v → Among q (strip_pieces v.strip) → is_finished v.finished q ≡ false → KeepsJob k v (record { level = l; piece = q; plan = v.plan })
claimed_job known k l v q kept h new = record {
  in_block = current_block known v.strip q h;
  plan = omega arith;
  fresh = λ e. (h, new);
  stale = λ other. absurd (other refl);
  apart = λ i j i' j' here there e.
      let cell : (contains v.window i' j' ≡ true) × (contains v.filled i' j' ≡ true → ⊥) = current_cell known k v q i' j' kept h there in
      let one : (i ≡ i') × (j ≡ j') = kept.fit i j i' j' (filled_cell v.filled v.window i j kept.inside here) cell.0 e in
      cell.1 (sym (ap₂ (contains v.filled) one.0 one.1) ∙ here);
}

-- ---- finished pieces lie apart from a job
pub cell_tile : Known → (k : ℕ) (q : Piece) (i j : ℤ) → 3 ≤ k → holds (block_cells q.bx q.by) q.cells ≡ true → contains q.cells i j ≡ true → tile_of_cell k i j ≡ tile k q
cell_tile known k q i j large h t =
    block_tile known.one_tile k q.bx q.by i j large (held_in (block_cells q.bx q.by) q.cells i j h t)

-- cells of one place lie in one tile, also where they are of different windows
pub one_place : Known → (k : ℕ) (p q : Piece) (i j i' j' : ℤ) → 3 ≤ k → holds (block_cells p.bx p.by) p.cells ≡ true → holds (block_cells q.bx q.by) q.cells ≡ true → contains p.cells i j ≡ true → contains q.cells i' j' ≡ true → wrapped_place k i j ≡ wrapped_place k i' j' → tile k p ≡ tile k q
one_place known k p q i j i' j' large h g t u e =
    sym (cell_tile known k p i j large h t) ∙ one_place_tile k i j i' j' e ∙ cell_tile known k q i' j' large g u

pub finished_apart : Known → (k : ℕ) (v : LevelNow) (job : JobNote) (q : Piece) → 3 ≤ k → KeepsLevel k v → KeepsJob k v job → Among q v.finished → AreApart k q.cells job.piece.cells
finished_apart known k v job q large kept job_kept h i j i' j' here there e =
    let current : Among q (strip_pieces v.strip) = current_piece k v q kept h in
    elim (cases_eq job.plan v.plan) [
      | inl now ↦
          let fresh : Among job.piece (strip_pieces v.strip) × (is_finished v.finished job.piece ≡ false) = job_kept.fresh now in
          let inner : contains v.window i j ≡ true = (current_cell known k v q i j kept current here).0 in
          let other : contains v.window i' j' ≡ true = (current_cell known k v job.piece i' j' kept fresh.0 there).0 in
          let one : (i ≡ i') × (j ≡ j') = kept.fit i j i' j' inner other e in
          let block : same_block job.piece q ≡ true = current_shared known v.strip job.piece q i' j' fresh.0 current there (sym (ap₂ (contains q.cells) one.0 one.1) ∙ here) in
          true≢false (sym (among_is v.finished job.piece q h block) ∙ fresh.1)
      | inr old ↦ job_kept.stale old q h (one_place known k q job.piece i j i' j' large (current_block known v.strip q current) job_kept.in_block here there e)
    ]

-- ---- a job that is given back and kept
-- the level with one more finished piece
abbrev pub one_more : LevelNow → Piece → LevelNow
one_more v q =
    record v { finished = filter (λ other. same_block other q || is_finished v.finished other) (strip_pieces v.strip) }

pub more_kept : Known → (k : ℕ) (v : LevelNow) (q : Piece) → KeepsLevel k v → KeepsLevel k (one_more v q)
more_kept known k v q kept = record {
  inside = kept.inside;
  first = kept.first;
  fit = kept.fit;
  finished = found known v.strip (one_more v q).finished (λ other. same_block other q || is_finished v.finished other) refl;
}

-- a finished piece is in the block of the one that was given back, or in that of an older one
pub more_of : (v : LevelNow) (q p : Piece) → Among p (one_more v q).finished → (same_block p q ≡ true) ⊎ (is_finished v.finished p ≡ true)
more_of v q p h =
    or_cases (same_block p q) (is_finished v.finished p) (passed (λ other. same_block other q || is_finished v.finished other) (strip_pieces v.strip) p h).1

-- a job of another tile stays as it was
pub other_job : (k : ℕ) (v : LevelNow) (q : Piece) (job : JobNote) → (tile k q ≡ tile k job.piece → ⊥) → KeepsJob k v job → KeepsJob k (one_more v q) job
other_job k v q job other kept = record {
  in_block = kept.in_block;
  plan = kept.plan;
  fresh = λ now.
      let fresh : Among job.piece (strip_pieces v.strip) × (is_finished v.finished job.piece ≡ false) = kept.fresh now in (
        fresh.0,
        false_from_ne_true (is_finished (one_more v q).finished job.piece) (λ t.
            let p : (p : Piece) × Among p (one_more v q).finished × (same_block job.piece p ≡ true) = is_among (one_more v q).finished job.piece t in
            elim (more_of v q p.0 p.1) [
              | inl new ↦ other (sym (one_block_tile k p.0 q new) ∙ sym (one_block_tile k job.piece p.0 p.2))
              | inr old ↦
                  let r : (r : Piece) × Among r v.finished × (same_block p.0 r ≡ true) = is_among v.finished p.0 old in
                  true≢false (sym (among_is v.finished job.piece r.0 r.1 (block_trans job.piece p.0 r.0 p.2 r.2)) ∙ fresh.1)
            ]),
      );
  stale = λ past p h e.
      elim (more_of v q p h) [
        | inl new ↦ other (sym (one_block_tile k p q new) ∙ e)
        | inr old ↦
            let r : (r : Piece) × Among r v.finished × (same_block p r ≡ true) = is_among v.finished p old in
            kept.stale past r.0 r.1 (sym (one_block_tile k p r.0 r.2) ∙ e)
      ];
  apart = kept.apart;
}

-- ---- a publication
-- the level grown by its strip; its next strip is another
abbrev pub grown_by : LevelNow → Region → Option Region → LevelNow
grown_by v s next = record { filled = hull v.filled s; finished = []; plan = v.plan; window = v.window; strip = next }

pub grown_kept : Known → (k : ℕ) (v : LevelNow) (s : Region) (next : Option Region) → KeepsLevel k v → v.strip ≡ Some s → IsFirst (grown_by v s next) → KeepsLevel k (grown_by v s next)
grown_kept known k v s next kept e first = record {
  inside = hull_in known v.filled v.window s kept.inside (kept.first s e);
  first = first;
  fit = kept.fit;
  finished = none_finished (strip_pieces next);
}

-- each piece of the strip is finished
abbrev pub AreDone : LevelNow → Region → Type 0
AreDone v s = (q : Piece) → Among q (pieces s) → is_finished v.finished q ≡ true

-- so each of its cells lies in a finished piece
pub done_cell : Known → (k : ℕ) (v : LevelNow) (s : Region) (i j : ℤ) → KeepsLevel k v → v.strip ≡ Some s → AreDone v s → contains s i j ≡ true → (r : Piece) × Among r v.finished × (contains r.cells i j ≡ true)
done_cell known k v s i j kept e done t =
    let q : (q : Piece) × Among q (pieces s) × (contains q.cells i j ≡ true) = piece_with known s i j t in
    let r : (r : Piece) × Among r v.finished × (same_block q.0 r ≡ true) = is_among v.finished q.0 (done q.0 q.1) in
    let there : Among r.0 (pieces s) = subst (λ (o : Option Region). Among r.0 (strip_pieces o)) e (current_piece k v r.0 kept r.1) in
    (r.0, r.1, subst (λ (p : Piece). contains p.cells i j ≡ true) (one_piece known s q.0 r.0 q.1 there r.2) q.2)

pub grown_job : Known → (k : ℕ) (v : LevelNow) (s : Region) (next : Option Region) (job : JobNote) → 3 ≤ k → KeepsLevel k v → v.strip ≡ Some s → AreDone v s → KeepsJob k v job → KeepsJob k (grown_by v s next) job
grown_job known k v s next job large kept e done job_kept = record {
  in_block = job_kept.in_block;
  plan = job_kept.plan;
  fresh = λ now.
      let fresh : Among job.piece (strip_pieces v.strip) × (is_finished v.finished job.piece ≡ false) = job_kept.fresh now in
      absurd (true≢false (sym (done job.piece (subst (λ (o : Option Region). Among job.piece (strip_pieces o)) e fresh.0)) ∙ fresh.1));
  stale = λ past p h. absurd h;
  apart = λ i j i' j' here there same.
      elim (hull_cell known v.filled v.window s i j kept.inside (kept.first s e) here) [
        | inl old ↦ job_kept.apart i j i' j' old there same
        | inr new ↦
            let r : (r : Piece) × Among r v.finished × (contains r.cells i j ≡ true) = done_cell known k v s i j kept e done new in
            finished_apart known k v job r.0 large kept job_kept r.1 i j i' j' r.2 there same
      ];
}

-- ---- a move that changes the level
abbrev pub moved_to : LevelNow → Region → Option Region → LevelNow
moved_to v w next = record { filled = meet v.filled w; finished = []; plan = v.plan + 1; window = w; strip = next }

pub moved_kept : (k : ℕ) (v : LevelNow) (w : Region) (next : Option Region) → IsFit k w → IsFirst (moved_to v w next) → KeepsLevel k (moved_to v w next)
moved_kept k v w next fit first = record {
  inside = filled_in (meet v.filled w) w (λ i j t. (met v.filled w i j t).1);
  first = first;
  fit = fit;
  finished = none_finished (strip_pieces next);
}

pub moved_job : (k : ℕ) (v : LevelNow) (w : Region) (next : Option Region) (job : JobNote) → KeepsJob k v job → KeepsJob k (moved_to v w next) job
moved_job k v w next job kept = record {
  in_block = kept.in_block;
  plan = let before : job.plan ≤ v.plan = kept.plan in omega arith;
  fresh = λ now. let before : job.plan ≤ v.plan = kept.plan in absurd (omega arith);
  stale = λ past q h. absurd h;
  apart = λ i j i' j' here there e. kept.apart i j i' j' (met v.filled w i j here).0 there e;
}
