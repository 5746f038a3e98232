-- A level with one more finished piece, and a level that has grown.
use Rattle.std.proofs.Common.{◌≡◌, ℕ, zero, suc, ◌<◌, ◌||◌, Bool, true, false, not, cond, nat_le, List, [], ◌∷◌, map, filter, length, set, Option, Some, None, refl, ap, sym, ◌∙◌, subst, inl, inr, arith, get_or-set_other, get_or-set_same}
use mathlib.Core.Path.{ap₂}
use Rattle.std.proofs.lemmas.Bool.{cases_Bool, cases_eq}
use Rattle.std.proofs.lemmas.List.{length-map, length-set}
use Rattle.std.specs.List.{AllPairs}
use Rattle.clip_regions.specs.declared.region.Region.{Region}
use Rattle.plan_model.specs.Window.{window}
use Rattle.plan_model.specs.Blocks.{same_block}
use Rattle.plan_model.specs.Strips.{current_strip, hull}
use Rattle.plan_model.specs.States.{Level, State, Pass, level_at, window_at, with_level, is_used, filled_at, finest_used}
use Rattle.plan_model.specs.Claims.{pieces_at, strip_pieces, strip_at, is_finished, unfinished_pieces}
use Rattle.plan_model.specs.Steps.{finished_level, kept_job, grown_level}
use Rattle.plan_model.specs.declared.tiles.Piece.{Piece}
use Rattle.plan_model.specs.declared.events.JobNote.{JobNote}
use Rattle.plan_model.specs.declared.events.Work.TheVariants.{Free}
use Rattle.plan_laws.specs.Pieces.{DifferentBlocks}
use Rattle.book_plan.specs.declared.slots.Slot.{Slot}
use Rattle.book_plan.specs.Slots.{Shelf, empty_shelf, level_of, all_pieces, finished_pieces, open_pieces, marked_slot, marked_shelf, HaveDifferentBlocks}
use Rattle.book_plan.specs.Desks.{Desk, state_of, shelf_at, HaveSlots}
use Rattle.book_plan.specs.Moves.{strip_where, filled_shelf}
use Rattle.book_plan.proofs.Shelves.{level_is}
use Rattle.book_plan.proofs.Moved.{used_on, window_on, pieces_are, all_fresh, filled_level}
use Rattle.book_plan.proofs.Flags.{open_are, marks_are}

-- the blocks of a level's slots differ
some_differ : DifferentBlocks → (strip : Option Region) → AllPairs (λ p q. same_block p q ≡ false) (strip_pieces strip)
some_differ law None i j d before inside = absurd (omega arith)
some_differ law (Some strip) i j d before inside = law strip i j d before inside

pub differ : DifferentBlocks → (d : Desk) (level : ℕ) → HaveSlots d → level < length d.levels → HaveDifferentBlocks (shelf_at d level).slots
differ law d level slots h =
    subst (AllPairs (λ p q. same_block p q ≡ false)) (sym (slots level h)) (some_differ law (strip_at (state_of d) level))

-- the unfinished pieces of a level are those of its open slots
pub unfinished_are : DifferentBlocks → (d : Desk) (level : ℕ) → HaveSlots d → level < length d.levels → unfinished_pieces (state_of d) level ≡ open_pieces (shelf_at d level).slots
unfolding unfinished_pieces
unfinished_are law d level slots h =
    ap (λ (it : Level). filter (λ piece. not (is_finished it.finished piece)) (pieces_at (state_of d) level)) (level_is d.levels level)
    ∙ ap (λ (ps : List Piece). filter (λ piece. not (is_finished (finished_pieces (shelf_at d level).slots) piece)) ps) (sym (slots level h))
    ∙ open_are (shelf_at d level).slots (differ law d level slots h)

-- ---- one level in the place of another
pub map_set : {X Y : Type 0} (f : X → Y) (xs : List X) (n : ℕ) (x : X) → map f (set xs n x) ≡ set (map f xs) n (f x)
map_set f [] n x = refl
map_set f (y ∷ ys) zero x = refl
map_set {Y = Y} f (y ∷ ys) (suc n) x = ap (λ (zs : List Y). f y ∷ zs) (map_set f ys n x)

-- the desk with another level in the place of one
abbrev pub with_shelf : Desk → ℕ → Shelf → Desk
with_shelf d level new = record d { levels = set d.levels level new }

pub shelf_state : (d : Desk) (level : ℕ) (new : Shelf) → state_of (with_shelf d level new) ≡ with_level (state_of d) level (level_of new)
shelf_state d level new =
    ap (λ (ls : List Level). let s : State = record (state_of d) { levels = ls } in s) (map_set level_of d.levels level new)

-- its slots, where those of the new level are right
pub shelf_slots : (d : Desk) (level : ℕ) (new : Shelf) → HaveSlots d → level < length d.levels → all_pieces new.slots ≡ strip_pieces (strip_where (used_on d level) new.filled (window_on d level)) → HaveSlots (with_shelf d level new)
shelf_slots d level new slots h e l b =
    let count : length (set d.levels level new) ≡ length d.levels = length-set d.levels level new in
    let there : l < length d.levels = omega (arith, b, count) in
    sym (pieces_are (with_shelf d level new) l ∙ ap (λ (n : ℕ). strip_pieces (strip_where (nat_le (finest_used d.k n d.altitude) l) (shelf_at (with_shelf d level new) l).filled (window_on d l))) count ∙ elim (cases_eq l level) [
      | inl same ↦
          ap (λ (i : ℕ). strip_pieces (strip_where (used_on d i) (shelf_at (with_shelf d level new) i).filled (window_on d i))) same ∙ ap (λ (s : Shelf). strip_pieces (strip_where (used_on d level) s.filled (window_on d level))) (get_or-set_same d.levels level new empty_shelf h) ∙ sym e ∙ ap (λ (s : Shelf). all_pieces s.slots) (sym (get_or-set_same d.levels level new empty_shelf h)) ∙ ap (λ (i : ℕ). all_pieces (shelf_at (with_shelf d level new) i).slots) (sym same)
      | inr other ↦
          ap (λ (s : Shelf). strip_pieces (strip_where (used_on d l) s.filled (window_on d l))) (get_or-set_other d.levels level l new empty_shelf other) ∙ sym (pieces_are d l) ∙ sym (slots l there) ∙ ap (λ (s : Shelf). all_pieces s.slots) (sym (get_or-set_other d.levels level l new empty_shelf other))
    ])

-- ---- a piece that is marked
all_kept : (piece : Piece) (slots : List Slot) → all_pieces (map (marked_slot piece) slots) ≡ all_pieces slots
all_kept piece [] = refl
all_kept piece (s ∷ slots) = ap (λ (ps : List Piece). s.piece ∷ ps) (all_kept piece slots)

abbrev pub marked_desk : Desk → ℕ → Piece → Desk
marked_desk d level piece = with_shelf d level (marked_shelf piece (shelf_at d level))

pub marked_slots : (d : Desk) (level : ℕ) (piece : Piece) → HaveSlots d → level < length d.levels → HaveSlots (marked_desk d level piece)
marked_slots d level piece slots h =
    shelf_slots d level (marked_shelf piece (shelf_at d level)) slots h (all_kept piece (shelf_at d level).slots ∙ slots level h ∙ pieces_are d level)

pub marked_level : DifferentBlocks → (d : Desk) (level : ℕ) (piece : Piece) → HaveSlots d → level < length d.levels → level_of (marked_shelf piece (shelf_at d level)) ≡ finished_level (pieces_at (state_of d) level) (level_at (state_of d) level) piece
unfolding finished_level
marked_level law d level piece slots h =
    ap (λ (ps : List Piece). let it : Level = record { filled = (shelf_at d level).filled; finished = ps; plan = (shelf_at d level).plan } in it)
    (sym (marks_are piece (shelf_at d level).slots (differ law d level slots h)) ∙ ap (λ (ps : List Piece). filter (λ other. same_block other piece || is_finished (finished_pieces (shelf_at d level).slots) other) ps) (slots level h))
    ∙ ap (λ (it : Level). let l : Level = record it { finished = filter (λ other. same_block other piece || is_finished it.finished other) (pieces_at (state_of d) level) } in l) (sym (level_is d.levels level))

-- ---- a level that has grown
pub grown_slots : (d : Desk) (level : ℕ) (filled window : Region) (plan : ℕ) → HaveSlots d → level < length d.levels → used_on d level ≡ true → window ≡ window_on d level → HaveSlots (with_shelf d level (filled_shelf true filled plan window))
grown_slots d level filled window plan slots h used same =
    shelf_slots d level (filled_shelf true filled plan window) slots h (all_fresh (strip_pieces (strip_where true filled window)) ∙ ap₂ (λ (b : Bool) (w : Region). strip_pieces (strip_where b filled w)) (sym used) same)

-- ---- what the passes have
pub passes_slots : (d : Desk) (passes : List Pass) (begun : ℕ) → HaveSlots d → HaveSlots (record d { passes = passes; begun = begun })
passes_slots d passes begun slots l h =
    slots l h ∙ pieces_are d l ∙ sym (pieces_are (record d { passes = passes; begun = begun }) l)

pub kept_state : DifferentBlocks → (d : Desk) (p : ℕ) (job : JobNote) → HaveSlots d → job.level < length d.levels → state_of (record (marked_desk d job.level job.piece) { passes = set d.passes p Free }) ≡ (kept_job (state_of d) p job).state
kept_state law d p job slots h =
    ap (λ (s : State). let t : State = record s { passes = set d.passes p Free } in t)
    (shelf_state d job.level (marked_shelf job.piece (shelf_at d job.level)) ∙ ap (with_level (state_of d) job.level) (marked_level law d job.level job.piece slots h))

pub grown_state : (d : Desk) (level : ℕ) (strip filled window : Region) → filled ≡ hull (filled_at (state_of d) level) strip → state_of (with_shelf d level (filled_shelf true filled (shelf_at d level).plan window)) ≡ with_level (state_of d) level (grown_level (level_at (state_of d) level) strip)
grown_state d level strip filled window e =
    shelf_state d level (filled_shelf true filled (shelf_at d level).plan window)
    ∙ ap (with_level (state_of d) level) (filled_level true filled (shelf_at d level).plan window ∙ ap (λ (r : Region). let it : Level = record { filled = r; finished = []; plan = (shelf_at d level).plan } in it) e ∙ ap (λ (old : Level). let it : Level = record { filled = hull (filled_at (state_of d) level) strip; finished = []; plan = old.plan } in it) (sym (level_is d.levels level)))

-- a level that has a strip is in use, and the strip is that of its filled region in its window
pub strip_used : (d : Desk) (level : ℕ) (strip : Region) → strip_at (state_of d) level ≡ Some strip → (used_on d level ≡ true) × (current_strip (filled_at (state_of d) level) (window_at (state_of d) level) ≡ Some strip)
unfolding strip_at is_used
strip_used d level strip e =
    let used : is_used (state_of d) level ≡ used_on d level = ap (λ (n : ℕ). nat_le (finest_used d.k n d.altitude) level) (length-map d.levels level_of) in
    elim (cases_Bool (is_used (state_of d) level)) [
      | inl t ↦ (sym used ∙ t, sym (ap (λ (b : Bool). cond b (current_strip (filled_at (state_of d) level) (window_at (state_of d) level)) None) t) ∙ e)
      | inr f ↦
          let none : None ≡ Some strip = sym (ap (λ (b : Bool). cond b (current_strip (filled_at (state_of d) level) (window_at (state_of d) level)) None) f) ∙ e in
          absurd (cc)
    ]
