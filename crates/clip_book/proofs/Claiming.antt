-- What a claim does to a book that stands.
use Rattle.std.proofs.Common.{◌≡◌, ℕ, ◌+◌, ◌<◌, true, false, ◌==◌, ℤ, [], length, cond, Option, Some, None, refl, ap, sym, ◌∙◌, subst, inl, inr, arith}
use Rattle.std.proofs.lemmas.Bool.{cases_Bool, eqb-false}
use Rattle.std.specs.List.{All, Contains}
use Rattle.clip_regions.specs.declared.region.Region.{Region}
use Rattle.clip_regions.specs.Regions.{contains, holds, is_empty, empty_region}
use Rattle.plan_model.specs.Blocks.{tile_of, block_cells}
use Rattle.plan_model.specs.Strips.{pieces, need}
use Rattle.plan_model.specs.States.{State}
use Rattle.plan_model.specs.Claims.{strip_at, strip_pieces}
use Rattle.plan_model.specs.Steps.{step, job_answer}
use Rattle.plan_model.specs.Laws.{is_refusal, RefusalsChangeNothing}
use Rattle.plan_model.specs.declared.tiles.TileId.{TileId}
use Rattle.plan_model.specs.declared.tiles.Piece.{Piece}
use Rattle.plan_model.specs.declared.events.JobNote.{JobNote}
use Rattle.plan_model.specs.declared.events.Event.TheVariants.{Claim}
use Rattle.plan_model.specs.declared.events.Answer.{Answer}
use Rattle.plan_model.specs.declared.events.Answer.TheVariants.{Moved, Job, Idle, Ripe, Busy, Held, HasWork, Kept, Stale, Grown, Waiting, Whole, Frame, Closed, NoFrame}
use Rattle.plan_laws.specs.Needs.{patch_of, NeedsInPatches}
use Rattle.plan_laws.specs.Pieces.{PiecesHaveCells, PiecesInBlocks}
use Rattle.plan_holds.specs.Laws.{StepsGoOn, StepsKeep}
use Rattle.plan_holds.proofs.Cells.{no_cell_of_empty}
use Rattle.plan_holds.proofs.Members.{among, among_all}
use Rattle.plan_holds.proofs.Passes.{some_same}
use Rattle.book_plan.specs.Books.{PlanView, Does as Plans}
use Rattle.torus_grid.specs.Grids.{is_home}
use Rattle.book_cells.specs.Cells.{HasCells, GoesOut}
use Rattle.book_cells.specs.Laws.{IsClaimed, IsGiven, ClaimsGiveJobs, CellsGoOut, NeededCellsHaveHeights, IsAtHome}
use Rattle.book_cells.proofs.Claims.{block_there}
use Rattle.terrain_store.specs.Shapes.{Land}
use Rattle.clip_book.specs.Answers.{told_job, IsClaimAnswer, IsRefusedClaim}
use Rattle.clip_book.specs.Tiles.{Tiles, SameSizes, grid_on, cells_of}
use Rattle.clip_book.specs.Jobs.{needed}
use Rattle.clip_book.specs.Reading.{IsInBlock, IsReadable}
use Rattle.clip_book.specs.Books.{BookView, IsBook, HandsOutWithJob}
use Rattle.clip_book.specs.declared.answers.Claimed.{Claimed}
use Rattle.clip_book.specs.declared.answers.Claimed.TheVariants as C
use Rattle.clip_book.proofs.AnswersOf.{claim_answers, refused_claims}
use Rattle.clip_book.proofs.Standing.{next_stands, same_sizes, after_event, kept_after, cell_home, cell_height}

-- ---- the answer
not_told : (P : Type 0) (note : JobNote) → None ≡ Some note → P
not_told P note e = cc

told_is : (answer : Answer) (note : JobNote) → told_job answer ≡ Some note → answer ≡ job_answer note
told_is Moved note e = not_told _ note e
told_is (Job level bx by cells plan) note e = ap job_answer (some_same e)
told_is Idle note e = not_told _ note e
told_is (Ripe level) note e = not_told _ note e
told_is (Busy level tile frame) note e = not_told _ note e
told_is (Held level tile pass) note e = not_told _ note e
told_is HasWork note e = not_told _ note e
told_is Kept note e = not_told _ note e
told_is (Stale plan now) note e = not_told _ note e
told_is (Grown region) note e = not_told _ note e
told_is (Waiting pieces) note e = not_told _ note e
told_is Whole note e = not_told _ note e
told_is (Frame number) note e = not_told _ note e
told_is (Closed number) note e = not_told _ note e
told_is NoFrame note e = not_told _ note e

refuses : (answer : Answer) → IsRefusedClaim answer → is_refusal answer ≡ true
refuses Moved h = absurd h
refuses (Job level bx by cells plan) h = absurd h
refuses Idle h = refl
refuses (Ripe level) h = refl
refuses (Busy level tile frame) h = refl
refuses (Held level tile pass) h = refl
refuses HasWork h = refl
refuses Kept h = absurd h
refuses (Stale plan now) h = absurd h
refuses (Grown region) h = absurd h
refuses (Waiting pieces) h = absurd h
refuses Whole h = absurd h
refuses (Frame number) h = absurd h
refuses (Closed number) h = absurd h
refuses NoFrame h = absurd h

pub refused : (p : ℕ) (answer : Answer) (old new : PlanView) → Plans p Claim answer old new → told_job answer ≡ None → IsRefusedClaim answer
refused p answer old new does none =
    refused_claims answer (subst IsClaimAnswer does.answered (claim_answers old.state p)) none

pub refused_stands : StepsKeep → StepsGoOn → RefusalsChangeNothing → (p : ℕ) (answer : Answer) (old new : PlanView) (land : Land) (tiles : Tiles) → Plans p Claim answer old new → told_job answer ≡ None → IsBook old land tiles → IsBook new land tiles
refused_stands keep goes same p answer old new land tiles does none book =
    let r : is_refusal (step old.state p Claim).answer ≡ true = ap is_refusal does.answered ∙ refuses answer (refused p answer old new does none) in
    let st : new.state ≡ old.state = does.state ∙ same old.state p Claim r in
    next_stands old new land tiles tiles (after_event goes p Claim answer old new does) (kept_after keep p Claim answer old new does book.kept) (same_sizes tiles) (subst (λ (s : State). HasCells land.terrain s (cells_of tiles)) (sym st) book.cells) book

-- ---- a job that was claimed
pub claimed : (p : ℕ) (answer : Answer) (old new : PlanView) (note : JobNote) → Plans p Claim answer old new → told_job answer ≡ Some note → IsClaimed old.state p note
claimed p answer old new note does told = does.answered ∙ told_is answer note told

pub given_of : ClaimsGiveJobs → (p : ℕ) (answer : Answer) (old new : PlanView) (note : JobNote) → p < 16 → length old.state.passes ≡ 16 → Plans p Claim answer old new → told_job answer ≡ Some note → IsGiven old.state p note
given_of law p answer old new note small many does told =
    law old.state p note (subst (λ (n : ℕ). p < n) (sym many) small) (claimed p answer old new note does told)

pub refused_hands : (said : Claimed) (old new : BookView) → new.handed ≡ old.handed → HandsOutWithJob said old new
refused_hands (C.Job job) old new e = tt
refused_hands C.Idle old new e = e
refused_hands (C.Ripe level) old new e = e
refused_hands (C.Busy level tile frame) old new e = e
refused_hands (C.Held level tile pass) old new e = e
refused_hands C.HasWork old new e = e

of_strip : (P : Piece → Type 0) (strip : Option Region) (piece : Piece) → ((r : Region) → All P (pieces r)) → Contains (strip_pieces strip) piece → P piece
of_strip P None piece all h = absurd (among {X = Piece} [] piece h)
of_strip P (Some strip) piece all h = among_all P (pieces strip) piece (all strip) (among (pieces strip) piece h)

module _ (p : ℕ) (old : PlanView) (land : Land) (tiles : Tiles) (note : JobNote) (book : IsBook old land tiles) (given : IsGiven old.state p note) where
  pub given_level : note.level < land.levels
  given_level = subst (λ (n : ℕ). note.level < n) book.levels given.level

  pub given_grid : note.level < length tiles.grids
  given_grid = subst (λ (n : ℕ). note.level < n) (sym book.many) given.level

  pub given_block : PiecesHaveCells → PiecesInBlocks → IsInBlock note.piece
  given_block some inside = record {
    some = of_strip (λ (q : Piece). is_empty q.cells ≡ false) (strip_at old.state note.level) note.piece some given.piece;
    held = of_strip (λ (q : Piece). holds (block_cells q.bx q.by) q.cells ≡ true) (strip_at old.state note.level) note.piece inside given.piece;
  }

  pub given_patch : NeedsInPatches → holds (patch_of note.piece.bx note.piece.by) (need note.piece.cells) ≡ true
  given_patch law =
      of_strip (λ (q : Piece). holds (patch_of q.bx q.by) (need q.cells) ≡ true) (strip_at old.state note.level) note.piece law given.piece

  pub given_home : (id : TileId) → id ≡ tile_of old.state.k note.piece.bx note.piece.by → is_home (grid_on tiles.grids note.level) id ≡ true
  unfolding is_home
  given_home id e =
      ap (λ (t : TileId). is_home (grid_on tiles.grids note.level) t) e ∙ book.cells.home note.level (tile_of old.state.k note.piece.bx note.piece.by) given.level (block_there old.state.k note.piece.bx note.piece.by book.kept.size.low) given.unheld

  not_last : (note.level + 1 == land.levels) ≡ false → note.level + 1 < length old.state.levels
  not_last e =
      let other : note.level + 1 ≡ land.levels → ⊥ = eqb-false (note.level + 1) land.levels e in
      let below : note.level < land.levels = given_level in
      let many : length old.state.levels ≡ land.levels = book.levels in
      grind (arith)

  pub given_readable : NeededCellsHaveHeights → IsClaimed old.state p note → (i j : ℤ) → contains (needed land.levels note) i j ≡ true → IsReadable land.terrain (grid_on tiles.grids (note.level + 1)) (note.level + 1) i j
  given_readable law is i j t =
      elim (cases_Bool (note.level + 1 == land.levels)) [
        | inl last ↦ absurd (no_cell_of_empty i j (subst (λ (r : Region). contains r i j ≡ true) (ap (λ b. cond b empty_region (need note.piece.cells)) last) t))
        | inr finer ↦
            let few : note.level + 1 < length old.state.levels = not_last finer in
            let t' : contains (need note.piece.cells) i j ≡ true = subst (λ (r : Region). contains r i j ≡ true) (ap (λ b. cond b empty_region (need note.piece.cells)) finer) t in
            let at : IsAtHome land.terrain old.state (cells_of tiles) (note.level + 1) i j = law land.terrain old.state (cells_of tiles) p note i j book.kept book.cells is few t' in
            record { home = cell_home old land tiles (note.level + 1) i j book few at; right = cell_height old land tiles (note.level + 1) i j book few at }
      ]

pub claim_stands : StepsKeep → StepsGoOn → CellsGoOut → (p : ℕ) (answer : Answer) (old new : PlanView) (land : Land) (tiles tiles' : Tiles) (note : JobNote) (id : TileId) → p < length old.state.passes → Plans p Claim answer old new → IsClaimed old.state p note → id ≡ tile_of old.state.k note.piece.bx note.piece.by → GoesOut note.level id p (cells_of tiles) (cells_of tiles') → SameSizes tiles tiles' → IsBook old land tiles → IsBook new land tiles'
claim_stands keep goes out p answer old new land tiles tiles' note id there does is e moves sizes book =
    let moves' : GoesOut note.level (tile_of old.state.k note.piece.bx note.piece.by) p (cells_of tiles) (cells_of tiles') = subst (λ (t : TileId). GoesOut note.level t p (cells_of tiles) (cells_of tiles')) e moves in
    next_stands old new land tiles tiles' (after_event goes p Claim answer old new does) (kept_after keep p Claim answer old new does book.kept) sizes (subst (λ (st : State). HasCells land.terrain st (cells_of tiles')) (sym does.state) (out land.terrain old.state p note (cells_of tiles) (cells_of tiles') book.kept there is moves' book.cells)) book
