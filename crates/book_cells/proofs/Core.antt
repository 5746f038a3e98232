-- The heights of tiles, whatever jobs there are and whatever cells are to have their heights: what a tile that goes out or comes home leaves.
use Rattle.std.proofs.Common.{◌≡◌, ℕ, ◌<◌, ◌≤◌, true, ℤ, List, Option, Some, None, is_some, refl, ap, sym, ◌∙◌, subst, inl, inr, ◌⊎◌}
use Rattle.std.proofs.lemmas.Bool.{cases_eq, cases_Bool, true≢false}
use mathlib.Core.Path.{ap₂}
use Rattle.clip_regions.specs.Regions.{contains}
use Rattle.terrain_model.specs.Terrain.{Terrain, level_height}
use Rattle.plan_model.specs.Blocks.{tile_of, tile_of_cell, same_tile, wrapped_place}
use Rattle.plan_model.specs.declared.tiles.TileId.{TileId}
use Rattle.plan_model.specs.declared.events.JobNote.{JobNote}
use Rattle.plan_holds.proofs.Places.{one_tile, tile_itself}
use Rattle.torus_grid.specs.Grids.{has_tile}
use Rattle.torus_grid.specs.Places.{tile_height, IsFree}
use Rattle.torus_grid.specs.Laws.{PlacesInTiles}
use Rattle.book_cells.specs.Cells.{Cells, IsOther, GoesOut, ComesHome}

-- the tile of a job
abbrev pub tile_of_job : ℕ → JobNote → TileId
tile_of_job k job = tile_of k job.piece.bx job.piece.by

-- which jobs passes have, and which cells are to have their heights
abbrev pub Jobs : Type 1
Jobs = ℕ → JobNote → Type 0

abbrev pub Marks : Type 1
Marks = ℕ → ℤ → ℤ → Type 0

-- the job has the tile of the level
abbrev pub IsOn : ℕ → JobNote → ℕ → TileId → Type 0
IsOn k job level t = (job.level ≡ level) × (tile_of_job k job ≡ t)

-- no job has it
abbrev pub Unheld : ℕ → Jobs → ℕ → TileId → Type 0
Unheld k jobs level t = (p : ℕ) (job : JobNote) → jobs p job → job.level ≡ level → tile_of_job k job ≡ t → ⊥

pub record Right (terrain : Terrain) (k : ℕ) (jobs : Jobs) (cells : Cells) (level : ℕ) (i j : ℤ) : Type 0 where
  pub home : (heights : List ℤ) → cells.home level (tile_of_cell k i j) ≡ Some heights → tile_height heights i j ≡ level_height terrain level i j
  pub out : (p : ℕ) (job : JobNote) → jobs p job → job.level ≡ level → tile_of_job k job ≡ tile_of_cell k i j → tile_height (cells.handed p) i j ≡ level_height terrain level i j

pub record Sound (terrain : Terrain) (k count : ℕ) (jobs : Jobs) (marked : Marks) (cells : Cells) : Type 0 where
  pub home : (level : ℕ) (t : TileId) → level < count → has_tile k t ≡ true → Unheld k jobs level t → is_some (cells.home level t) ≡ true
  pub out : (p : ℕ) (job : JobNote) → jobs p job → cells.home job.level (tile_of_job k job) ≡ None
  pub right : (level : ℕ) (i j : ℤ) → marked level i j → Right terrain k jobs cells level i j

-- ---- no tile moves
pub stays : (terrain : Terrain) (k count : ℕ) (jobs jobs' : Jobs) (marked marked' : Marks) (cells : Cells) →
    ((p : ℕ) (job : JobNote) → jobs p job → jobs' p job) →
    ((p : ℕ) (job : JobNote) → jobs' p job → jobs p job) →
    ((level : ℕ) (i j : ℤ) → marked' level i j → marked level i j) →
    Sound terrain k count jobs marked cells → Sound terrain k count jobs' marked' cells
stays terrain k count jobs jobs' marked marked' cells there back old sound = record {
  home = λ level t few has unheld. sound.home level t few has (λ p job h l e. unheld p job (there p job h) l e);
  out = λ p job h. sound.out p job (back p job h);
  right = λ level i j m. record {
    home = (sound.right level i j (old level i j m)).home;
    out = λ p job h l e. (sound.right level i j (old level i j m)).out p job (back p job h) l e;
  };
}

none_some : (P : Type 0) {X : Type 0} (x : X) (o : Option X) → o ≡ None → o ≡ Some x → P
none_some P x o e f = cc

some_same : {X : Type 0} (x y : X) → Some x ≡ Some y → x ≡ y
some_same x y e = cc

-- ---- a tile goes out
module _ (terrain : Terrain) (k count : ℕ) (jobs jobs' : Jobs) (marked marked' : Marks) (p : ℕ) (job : JobNote) (cells cells' : Cells)
    (has : jobs' p job)
    (there : (q : ℕ) (one : JobNote) → jobs q one → jobs' q one)
    (back : (q : ℕ) (one : JobNote) → jobs' q one → ((q ≡ p) × (one ≡ job)) ⊎ ((q ≡ p → ⊥) × jobs q one))
    (old : (level : ℕ) (i j : ℤ) → marked' level i j → marked level i j)
    (unheld : Unheld k jobs job.level (tile_of_job k job))
    (moves : GoesOut job.level (tile_of_job k job) p cells cells')
    (sound : Sound terrain k count jobs marked cells) where
  out_home : (level : ℕ) (t : TileId) → level < count → has_tile k t ≡ true → Unheld k jobs' level t → is_some (cells'.home level t) ≡ true
  out_home level t few there' none =
      ap is_some (moves.others.home level t (λ l e. none p job has (sym l) (sym e))) ∙ sound.home level t few there' (λ q one h l e. none q one (there q one h) l e)

  out_out : (q : ℕ) (one : JobNote) → jobs' q one → cells'.home one.level (tile_of_job k one) ≡ None
  out_out q one h =
      elim (back q one h) [
        | inl new ↦ subst (λ (o : JobNote). cells'.home o.level (tile_of_job k o) ≡ None) (sym new.1) moves.out
        | inr was ↦ moves.others.home one.level (tile_of_job k one) (λ l e. unheld q one was.1 l e) ∙ sound.out q one was.1
      ]

  out_right_home : (level : ℕ) (i j : ℤ) → Right terrain k jobs cells level i j → (heights : List ℤ) → cells'.home level (tile_of_cell k i j) ≡ Some heights → tile_height heights i j ≡ level_height terrain level i j
  out_right_home level i j right heights e =
      right.home heights (sym (moves.others.home level (tile_of_cell k i j) (λ l t. none_some ⊥ heights (cells'.home level (tile_of_cell k i j)) (ap₂ cells'.home l t ∙ moves.out) e)) ∙ e)

  out_right_out : (level : ℕ) (i j : ℤ) → Right terrain k jobs cells level i j → (q : ℕ) (one : JobNote) → jobs' q one → one.level ≡ level → tile_of_job k one ≡ tile_of_cell k i j → tile_height (cells'.handed q) i j ≡ level_height terrain level i j
  out_right_out level i j right q one h l e =
      elim (back q one h) [
        | inl new ↦
            let l' : job.level ≡ level = sym (ap (λ (o : JobNote). o.level) new.1) ∙ l in
            let e' : tile_of_job k job ≡ tile_of_cell k i j = sym (ap (tile_of_job k) new.1) ∙ e in
            subst (λ (r : ℕ). tile_height (cells'.handed r) i j ≡ level_height terrain level i j) (sym new.0) (right.home (cells'.handed p) (sym (ap₂ cells.home l' e') ∙ moves.taken))
        | inr was ↦ subst (λ (hs : List ℤ). tile_height hs i j ≡ level_height terrain level i j) (sym (moves.others.handed q was.0)) (right.out q one was.1 l e)
      ]

  pub goes_out : Sound terrain k count jobs' marked' cells'
  goes_out = record {
    home = out_home;
    out = out_out;
    right = λ level i j m. record {
      home = out_right_home level i j (sound.right level i j (old level i j m));
      out = out_right_out level i j (sound.right level i j (old level i j m));
    };
  }

-- ---- a tile comes home
-- a tile of a level is the one or another
one_or_other : (level : ℕ) (t : TileId) (l : ℕ) (u : TileId) → ((l ≡ level) × (u ≡ t)) ⊎ IsOther level t l u
one_or_other level t l u =
    elim (cases_eq l level) [
      | inl same ↦ elim (cases_Bool (same_tile u t)) [
        | inl e ↦ inl (same, one_tile u t e)
        | inr e ↦ inr (λ _ f. true≢false (sym (tile_itself u t f) ∙ e))
      ]
      | inr other ↦ inr (λ f _. other f)
    ]

module _ (terrain : Terrain) (k count : ℕ) (jobs jobs' : Jobs) (marked marked' : Marks) (p : ℕ) (job : JobNote) (cells cells' : Cells)
    (has : jobs p job)
    (only : (one : JobNote) → jobs p one → one ≡ job)
    (there : (q : ℕ) (one : JobNote) → (q ≡ p → ⊥) → jobs q one → jobs' q one)
    (back : (q : ℕ) (one : JobNote) → jobs' q one → (q ≡ p → ⊥) × jobs q one)
    (old : (level : ℕ) (i j : ℤ) → marked' level i j → marked level i j ⊎ ((level ≡ job.level) × (contains job.piece.cells i j ≡ true)))
    (once : (q : ℕ) (one : JobNote) → jobs q one → one.level ≡ job.level → tile_of_job k one ≡ tile_of_job k job → q ≡ p)
    (apart : (i j i' j' : ℤ) → marked job.level i j → contains job.piece.cells i' j' ≡ true → wrapped_place k i j ≡ wrapped_place k i' j' → ⊥)
    (in_tile : (i j : ℤ) → contains job.piece.cells i j ≡ true → tile_of_cell k i j ≡ tile_of_job k job)
    (places : PlacesInTiles) (large : 3 ≤ k)
    (moves : ComesHome terrain job (tile_of_job k job) p cells cells')
    (sound : Sound terrain k count jobs marked cells) where
  not_here : (q : ℕ) (one : JobNote) (level : ℕ) (t : TileId) → IsOther job.level (tile_of_job k job) level t → jobs q one → one.level ≡ level → tile_of_job k one ≡ t → q ≡ p → ⊥
  not_here q one level t other h l e f =
      let same : one ≡ job = only one (subst (λ (r : ℕ). jobs r one) f h) in
      other (sym l ∙ ap (λ (o : JobNote). o.level) same) (sym e ∙ ap (tile_of_job k) same)

  back_home : (level : ℕ) (t : TileId) → level < count → has_tile k t ≡ true → Unheld k jobs' level t → is_some (cells'.home level t) ≡ true
  back_home level t few there' none =
      elim (one_or_other job.level (tile_of_job k job) level t) [
        | inl same ↦ ap is_some (ap₂ cells'.home same.0 same.1 ∙ moves.home)
        | inr other ↦ ap is_some (moves.others.home level t other) ∙ sound.home level t few there' (λ q one h l e. none q one (there q one (not_here q one level t other h l e) h) l e)
      ]

  back_out : (q : ℕ) (one : JobNote) → jobs' q one → cells'.home one.level (tile_of_job k one) ≡ None
  back_out q one h =
      let was : (q ≡ p → ⊥) × jobs q one = back q one h in
      moves.others.home one.level (tile_of_job k one) (λ l e. was.0 (once q one was.1 l e)) ∙ sound.out q one was.1

  -- a cell that is written has no other place than a marked one
  is_free : (i j : ℤ) → marked job.level i j → tile_of_cell k i j ≡ tile_of_job k job → IsFree job.piece.cells i j
  is_free i j m e i' j' t same =
      apart i j i' j' m t (places k i j i' j' large (e ∙ sym (in_tile i' j' t)) same)

  painted_right : (i j : ℤ) → tile_of_cell k i j ≡ tile_of_job k job → marked job.level i j ⊎ (contains job.piece.cells i j ≡ true) → tile_height moves.heights i j ≡ level_height terrain job.level i j
  painted_right i j e (inl m) =
      moves.painted.others i j (is_free i j m e) ∙ (sound.right job.level i j m).out p job has refl (sym e)
  painted_right i j e (inr t) = moves.painted.written i j t

  here_right : (i j : ℤ) → tile_of_cell k i j ≡ tile_of_job k job → marked job.level i j ⊎ (contains job.piece.cells i j ≡ true) → Right terrain k jobs' cells' job.level i j
  here_right i j e m = record {
    home = λ heights f. subst (λ (hs : List ℤ). tile_height hs i j ≡ level_height terrain job.level i j) (some_same moves.heights heights (sym moves.home ∙ (sym (ap (cells'.home job.level) e) ∙ f))) (painted_right i j e m);
    out = λ q one h l f. let was : (q ≡ p → ⊥) × jobs q one = back q one h in absurd (was.0 (once q one was.1 l (f ∙ e)));
  }

  there_right : (level : ℕ) (i j : ℤ) → IsOther job.level (tile_of_job k job) level (tile_of_cell k i j) → Right terrain k jobs cells level i j → Right terrain k jobs' cells' level i j
  there_right level i j other right = record {
    home = λ heights f. right.home heights (sym (moves.others.home level (tile_of_cell k i j) other) ∙ f);
    out = λ q one h l f. let was : (q ≡ p → ⊥) × jobs q one = back q one h in subst (λ (hs : List ℤ). tile_height hs i j ≡ level_height terrain level i j) (sym (moves.others.handed q was.0)) (right.out q one was.1 l f);
  }

  on_level : (level : ℕ) (i j : ℤ) → level ≡ job.level → marked level i j ⊎ ((level ≡ job.level) × (contains job.piece.cells i j ≡ true)) → marked job.level i j ⊎ (contains job.piece.cells i j ≡ true)
  on_level level i j l (inl m) = inl (subst (λ (v : ℕ). marked v i j) l m)
  on_level level i j l (inr new) = inr new.1

  elsewhere : (level : ℕ) (i j : ℤ) → IsOther job.level (tile_of_job k job) level (tile_of_cell k i j) → marked level i j ⊎ ((level ≡ job.level) × (contains job.piece.cells i j ≡ true)) → marked level i j
  elsewhere level i j other (inl m) = m
  elsewhere level i j other (inr new) = absurd (other new.0 (in_tile i j new.1))

  back_right : (level : ℕ) (i j : ℤ) → marked' level i j → Right terrain k jobs' cells' level i j
  back_right level i j m =
      elim (one_or_other job.level (tile_of_job k job) level (tile_of_cell k i j)) [
        | inl same ↦ subst (λ (v : ℕ). Right terrain k jobs' cells' v i j) (sym same.0) (here_right i j same.1 (on_level level i j same.0 (old level i j m)))
        | inr other ↦ there_right level i j other (sound.right level i j (elsewhere level i j other (old level i j m)))
      ]

  pub comes_home : Sound terrain k count jobs' marked' cells'
  comes_home = record { home = back_home; out = back_out; right = back_right }
