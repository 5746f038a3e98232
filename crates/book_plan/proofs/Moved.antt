-- The levels of a desk after a move.
use Rattle.std.proofs.Common.{◌≡◌, ◌≢◌, ℕ, ◌+◌, ◌<◌, ◌≤◌, ◌&&◌, Bool, true, false, cond, nat_le, ℤ, List, [], ◌∷◌, map, length, get_or, set, None, refl, ap, sym, ◌∙◌, arith, below_more, get_or-set_other, get_or-set_same}
use mathlib.Core.Path.{ap₂}
use Rattle.std.specs.List.{range_with_len}
use Rattle.std.specs.Bool.{beq}
use Rattle.std.proofs.lemmas.Int.{ints}
use Rattle.std.proofs.lemmas.Bool.{and_parts}
use Rattle.std.proofs.lemmas.List.{get_or_default, same_lists, length-map}
use Rattle.std.proofs.lemmas.List.FromFn.{length-map-range_with_len, get_or-map-range_with_len}
use Rattle.clip_regions.specs.declared.region.Region.{Region}
use Rattle.clip_regions.specs.Regions.{holds, meet}
use Rattle.plan_model.specs.Window.{window}
use Rattle.plan_model.specs.Strips.{current_strip}
use Rattle.plan_model.specs.States.{Level, State, level_at, window_at, is_used, same_region, finest_used}
use Rattle.plan_model.specs.Steps.{seen_from, stays, moved_level, move_step}
use Rattle.plan_model.specs.Claims.{pieces_at, strip_pieces, strip_at}
use Rattle.plan_model.specs.declared.tiles.Piece.{Piece}
use Rattle.plan_model.specs.Sound.{IsInside}
use Rattle.plan_laws.specs.Hulls.{InsideIsHeld}
use Rattle.plan_sound.specs.Laws.{WindowsHaveCells}
use Rattle.book_plan.specs.declared.viewers.Viewer.{Viewer}
use Rattle.book_plan.specs.Slots.{Shelf, empty_shelf, level_of, all_pieces, finished_pieces, fresh_slot}
use Rattle.book_plan.specs.Desks.{Desk, state_of, shelf_at, HaveSlots}
use Rattle.book_plan.specs.Moves.{used_for, stays_for, strip_where, filled_shelf, moved_shelf, moved_from, viewer_of, moved_desk}
use Rattle.book_plan.proofs.Shelves.{level_is}

-- levels that are made one by one in the place of others
pub record IsMade (g : ℕ → Shelf) (start levels : List Shelf) (l : ℕ) : Type 0 where
  pub done : (i : ℕ) → i < l → get_or levels i empty_shelf ≡ g i
  pub rest : (i : ℕ) → l ≤ i → get_or levels i empty_shelf ≡ get_or start i empty_shelf

pub made_more : (g : ℕ → Shelf) (start levels : List Shelf) (l : ℕ) (level : Shelf) → l < length levels → level ≡ g l → IsMade g start levels l → IsMade g start (set levels l level) (l + 1)
made_more g start levels l level h e made = record {
  done = below_more _ _
      (λ k b. let ne : k ≢ l = omega arith in rw get_or-set_other (made.done k b))
      (rw get_or-set_same e);
  rest = λ i b.
      let ne : i ≢ l = omega arith in
      let after : l ≤ i = omega arith in
      rw get_or-set_other (made.rest i after);
}

pub made_all : (g : ℕ → Shelf) (start levels : List Shelf) (l n : ℕ) → length levels ≡ n → n ≤ l → IsMade g start levels l → levels ≡ map g (range_with_len 0 n)
made_all g start levels l n e h made =
    same_lists levels (map g (range_with_len 0 n)) (e ∙ sym (length-map-range_with_len g 0 n))
    (λ k d b.
    let below : k < l = omega arith in
    let inside : k < n = omega arith in
    get_or_default levels k d empty_shelf b ∙ made.done k below ∙ sym (get_or-map-range_with_len g 0 n k k d inside (omega arith)))

-- ---- slots of which none is finished
pub none_fresh : (ps : List Piece) → finished_pieces (map fresh_slot ps) ≡ []
none_fresh [] = refl
none_fresh (p ∷ ps) = none_fresh ps

pub all_fresh : (ps : List Piece) → all_pieces (map fresh_slot ps) ≡ ps
all_fresh [] = refl
all_fresh (p ∷ ps) = ap (λ (qs : List Piece). p ∷ qs) (all_fresh ps)

-- the level of the plan that a filled level is
pub filled_level : (used : Bool) (filled : Region) (plan : ℕ) (window : Region) → level_of (filled_shelf used filled plan window) ≡ record { filled = filled; finished = []; plan = plan }
filled_level used filled plan window =
    ap (λ (ps : List Piece). let level : Level = record { filled = filled; finished = ps; plan = plan } in level) (none_fresh (strip_pieces (strip_where used filled window)))

level_moved : (stays used : Bool) (window : Region) (old : Shelf) → level_of (moved_shelf stays used window old) ≡ moved_level stays window (level_of old)
unfolding moved_shelf moved_level
level_moved true used window old = refl
level_moved false used window old = filled_level used (meet old.filled window) (old.plan + 1) window

-- ---- the pieces of a desk's level
-- whether a level is in use, its window, and the pieces of its strip
abbrev pub used_on : Desk → ℕ → Bool
used_on d level = nat_le (finest_used d.k (length d.levels) d.altitude) level

abbrev pub window_on : Desk → ℕ → Region
window_on d level = window d.k level d.x d.y

pub pieces_are : (d : Desk) (level : ℕ) → pieces_at (state_of d) level ≡ strip_pieces (strip_where (used_on d level) (shelf_at d level).filled (window_on d level))
unfolding strip_at is_used strip_where
pieces_are d level =
    ap (λ (n : ℕ). strip_pieces (cond (nat_le (finest_used d.k n d.altitude) level) (current_strip (level_at (state_of d) level).filled (window_on d level)) None)) (length-map d.levels level_of) ∙ ap (λ (it : Level). strip_pieces (cond (used_on d level) (current_strip it.filled (window_on d level)) None)) (level_is d.levels level)

-- ---- a level that stays has its window, and is in use or not as before
abbrev corners : ℤ → ℤ → ℤ → ℤ → Region
corners west north east south = record { x0 = west; y0 = north; x1 = east; y1 = south }

same_corners : (r s : Region) → r.x0 ≡ s.x0 → r.y0 ≡ s.y0 → r.x1 ≡ s.x1 → r.y1 ≡ s.y1 → r ≡ s
same_corners r s a b c d =
    ap (λ (v : ℤ). corners v r.y0 r.x1 r.y1) a ∙ ap (λ (v : ℤ). corners s.x0 v r.x1 r.y1) b ∙ ap (λ (v : ℤ). corners s.x0 s.y0 v r.y1) c ∙ ap (λ (v : ℤ). corners s.x0 s.y0 s.x1 v) d

one_region : InsideIsHeld → (a b : Region) → IsInside a a → IsInside b b → same_region a b ≡ true → a ≡ b
unfolding same_region
one_region law a b some other t =
    let parts : (holds a b ≡ true) × (holds b a ≡ true) = and_parts (holds a b) (holds b a) t in
    let outer : IsInside a b = (law a b).1 (((law b b).0 other).0, parts.0) in
    let inner : IsInside b a = (law b a).1 (((law a a).0 some).0, parts.1) in
    same_corners a b (omega (arith, ints, outer.west, inner.west)) (omega (arith, ints, outer.north, inner.north)) (omega (arith, ints, outer.east, inner.east)) (omega (arith, ints, outer.south, inner.south))

same_test : (a b : Bool) → beq a b ≡ true → a ≡ b
same_test true true e = refl
same_test true false e = sym e
same_test false true e = e
same_test false false e = refl

pub same_use : InsideIsHeld → WindowsHaveCells → (k levels : ℕ) (from to : Viewer) (level : ℕ) → stays_for k levels from to level ≡ true → (window k level from.x from.y ≡ window k level to.x to.y) × (used_for k levels from level ≡ used_for k levels to level)
unfolding stays_for
same_use law some k levels from to level t =
    let parts : (same_region (window k level from.x from.y) (window k level to.x to.y) ≡ true) × (beq (used_for k levels from level) (used_for k levels to level) ≡ true) = and_parts (same_region (window k level from.x from.y) (window k level to.x to.y)) (beq (used_for k levels from level) (used_for k levels to level)) t in
    (one_region law (window k level from.x from.y) (window k level to.x to.y) (some k level from.x from.y) (some k level to.x to.y) parts.0, same_test (used_for k levels from level) (used_for k levels to level) parts.1)

-- the slots of a level after a move
slots_moved : (stays used used' : Bool) (window window' : Region) (old : Shelf) → (stays ≡ true → (window ≡ window') × (used ≡ used')) → all_pieces old.slots ≡ strip_pieces (strip_where used old.filled window) → all_pieces (moved_shelf stays used' window' old).slots ≡ strip_pieces (strip_where used' (moved_shelf stays used' window' old).filled window')
unfolding moved_shelf
slots_moved true used used' window window' old same e =
    e ∙ ap₂ (λ (b : Bool) (w : Region). strip_pieces (strip_where b old.filled w)) (same refl).1 (same refl).0
slots_moved false used used' window window' old same e =
    all_fresh (strip_pieces (strip_where used' (meet old.filled window') window'))

moved_at : (d : Desk) (to : Viewer) (level : ℕ) → level < length d.levels → shelf_at (moved_desk d to) level ≡ moved_from d.k (viewer_of d) to d.levels level
moved_at d to level h =
    get_or-map-range_with_len (moved_from d.k (viewer_of d) to d.levels) 0 (length d.levels) level level empty_shelf h (omega arith)

moved_count : (d : Desk) (to : Viewer) → length (moved_desk d to).levels ≡ length d.levels
moved_count d to = length-map-range_with_len (moved_from d.k (viewer_of d) to d.levels) 0 (length d.levels)

pub moved_slots : InsideIsHeld → WindowsHaveCells → (d : Desk) (to : Viewer) → HaveSlots d → HaveSlots (moved_desk d to)
moved_slots law some d to slots level h =
    let there : level < length d.levels = omega (arith, h, moved_count d to) in
    let at : shelf_at (moved_desk d to) level ≡ moved_from d.k (viewer_of d) to d.levels level = moved_at d to level there in
    ap (λ (s : Shelf). all_pieces s.slots) at
    ∙ slots_moved (stays_for d.k (length d.levels) (viewer_of d) to level) (used_on d level) (used_for d.k (length d.levels) to level) (window_on d level) (window d.k level to.x to.y) (shelf_at d level) (same_use law some d.k (length d.levels) (viewer_of d) to level) (slots level there ∙ pieces_are d level)
    ∙ ap (λ (s : Shelf). strip_pieces (strip_where (used_for d.k (length d.levels) to level) s.filled (window d.k level to.x to.y))) (sym at)
    ∙ ap (λ (n : ℕ). strip_pieces (strip_where (used_for d.k n to level) (shelf_at (moved_desk d to) level).filled (window d.k level to.x to.y))) (sym (moved_count d to))
    ∙ sym (pieces_are (moved_desk d to) level)

-- where a level stays, in the words of the plan
stays_is : (d : Desk) (to : Viewer) (level : ℕ) → stays_for d.k (length d.levels) (viewer_of d) to level ≡ stays (state_of d) (seen_from (state_of d) to.x to.y to.a) level
unfolding stays stays_for is_used
stays_is d to level =
    ap (λ (n : ℕ). same_region (window d.k level d.x d.y) (window d.k level to.x to.y) && beq (nat_le (finest_used d.k n d.altitude) level) (nat_le (finest_used d.k n to.a) level)) (sym (length-map d.levels level_of))

pub map_map : {X Y Z : Type 0} (g : Y → Z) (f : X → Y) (h : X → Z) (xs : List X) → ((x : X) → g (f x) ≡ h x) → map g (map f xs) ≡ map h xs
map_map g f h [] e = refl
map_map {Z = Z} g f h (x ∷ xs) e = ap₂ (λ (y : Z) (ys : List Z). y ∷ ys) (e x) (map_map g f h xs e)

each_moved : (d : Desk) (to : Viewer) (level : ℕ) → level_of (moved_from d.k (viewer_of d) to d.levels level) ≡ moved_level (stays (state_of d) (seen_from (state_of d) to.x to.y to.a) level) (window_at (seen_from (state_of d) to.x to.y to.a) level) (level_at (state_of d) level)
each_moved d to level =
    level_moved (stays_for d.k (length d.levels) (viewer_of d) to level) (used_for d.k (length d.levels) to level) (window d.k level to.x to.y) (shelf_at d level)
    ∙ ap₂ (λ (b : Bool) (it : Level). moved_level b (window d.k level to.x to.y) it) (stays_is d to level) (sym (level_is d.levels level))

pub moved_state : (d : Desk) (to : Viewer) → state_of (moved_desk d to) ≡ (move_step (state_of d) to.x to.y to.a).state
unfolding move_step
moved_state d to =
    ap (λ (ls : List Level). let s : State = record (state_of d) { x = to.x; y = to.y; altitude = to.a; levels = ls } in s)
    (map_map level_of (moved_from d.k (viewer_of d) to d.levels) _ (range_with_len 0 (length d.levels)) (each_moved d to)
    ∙ ap (λ (n : ℕ). map (λ level. moved_level (stays (state_of d) (seen_from (state_of d) to.x to.y to.a) level) (window_at (seen_from (state_of d) to.x to.y to.a) level) (level_at (state_of d) level)) (range_with_len 0 n)) (sym (length-map d.levels level_of)))
