-- The heights at the start: no pass has anything, and no cell is done.
use Rattle.std.proofs.Common.{◌≡◌, ℕ, zero, suc, ◌<◌, ℤ, true, replicate, length, get_or, Some, None, refl, ap, sym, ◌∙◌, subst, inl, inr, arith}
use Rattle.clip_regions.specs.Regions.{contains}
use Rattle.plan_model.specs.States.{Level, OpenFrame, empty_level, start_state, level_at, pass_at, job_of, frame_of}
use Rattle.plan_model.specs.declared.events.JobNote.{JobNote}
use Rattle.plan_model.specs.declared.events.Work.TheVariants.{Free}
use Rattle.plan_holds.specs.Kept.{HasJob, HasFrame}
use Rattle.plan_holds.specs.Changes.{IsDone}
use Rattle.plan_holds.proofs.Cells.{no_cell_of_empty}
use Rattle.torus_grid.specs.Grids.{has_tile}
use Rattle.book_cells.specs.Laws.{CellsAtTheStart}

-- a list of one element many times, read with that default
all_one : {X : Type 0} (n i : ℕ) (x : X) → get_or (replicate n x) i x ≡ x
all_one zero i x = refl
all_one (suc n) zero x = refl
all_one (suc n) (suc i) x = all_one n i x

as_many : {X : Type 0} (n : ℕ) (x : X) → length (replicate n x) ≡ n
as_many zero x = refl
as_many (suc n) x = ap suc (as_many n x)

level_empty : (k levels level : ℕ) → level_at (start_state k levels) level ≡ empty_level
unfolding start_state
level_empty k levels level = all_one levels level empty_level

level_count : (k levels : ℕ) → length (start_state k levels).levels ≡ levels
unfolding start_state
level_count k levels = as_many levels empty_level

same_size : (k levels : ℕ) → (start_state k levels).k ≡ k
unfolding start_state
same_size k levels = refl

pass_free : (k levels p : ℕ) → pass_at (start_state k levels) p ≡ Free
unfolding start_state
pass_free k levels p = all_one 16 p Free

no_job : (P : Type 0) (k levels p : ℕ) (job : JobNote) → HasJob (start_state k levels) p job → P
no_job P k levels p job e = let none : None ≡ Some job = sym (ap job_of (pass_free k levels p)) ∙ e in cc

no_frame : (P : Type 0) (k levels p : ℕ) (frame : OpenFrame) → HasFrame (start_state k levels) p frame → P
no_frame P k levels p frame e = let none : None ≡ Some frame = sym (ap frame_of (pass_free k levels p)) ∙ e in cc

nothing_done : (k levels level : ℕ) (i j : ℤ) → IsDone (start_state k levels) level i j → ⊥
nothing_done k levels level i j (inl t) =
    no_cell_of_empty i j (subst (λ (it : Level). contains it.filled i j ≡ true) (level_empty k levels level) t)
nothing_done k levels level i j (inr a) =
    let none : a.0 < 0 = subst (λ (it : Level). a.0 < length it.finished) (level_empty k levels level) a.2 in
    absurd (omega arith)

pub cells_at_the_start : CellsAtTheStart
cells_at_the_start terrain k levels cells size home = record {
  home = λ level t few there none. home level t (subst (λ (n : ℕ). level < n) (level_count k levels) few) (subst (λ (n : ℕ). has_tile n t ≡ true) (same_size k levels) there);
  out = λ p job e. no_job _ k levels p job e;
  done = λ level i j d. absurd (nothing_done k levels level i j d);
  drawn = λ p frame level i j e t. no_frame _ k levels p frame e;
}
