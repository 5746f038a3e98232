-- The desk at the start.
use Rattle.std.proofs.Common.{◌≡◌, ℕ, zero, suc, ◌+◌, ◌^◌, Bool, true, false, ◌||◌, ◌==◌, cond, nat_le, pos, List, ◌∷◌, map, filter, length, replicate, unwrap_or, refl, ap, sym, ◌∙◌, arith}
use Rattle.std.specs.List.{range_with_len}
use Rattle.std.proofs.lemmas.List.FromFn.{length-map-range_with_len, get_or-map-range_with_len}
use Rattle.std.proofs.lemmas.Bool.Decides.{nat_tests}
use Rattle.clip_regions.specs.Regions.{empty_region}
use Rattle.plan_model.specs.Window.{window}
use Rattle.plan_model.specs.Strips.{first_of}
use Rattle.plan_model.specs.States.{State, Level, empty_level, start_state, is_seen, finest_used}
use Rattle.plan_model.specs.Claims.{strip_pieces}
use Rattle.plan_model.specs.declared.events.Work.TheVariants.{Free}
use Rattle.book_plan.specs.Slots.{Shelf, empty_shelf, level_of, all_pieces}
use Rattle.book_plan.specs.Desks.{Desk, state_of, shelf_at, HaveSlots}
use Rattle.book_plan.specs.Moves.{strip_where}
use Rattle.book_plan.specs.Starts.{started}
use Rattle.book_plan.proofs.Moved.{used_on, window_on, pieces_are, all_fresh, filled_level, map_map}

-- the desk that is made
abbrev pub start_desk : ℕ → ℕ → Desk
start_desk k levels = record {
  k = k;
  x = pos 0;
  y = pos 0;
  altitude = 0;
  levels = map (started k) (range_with_len 0 levels);
  begun = 0;
  passes = replicate 16 Free;
}

same_each : {X : Type 0} (y : X) (a n : ℕ) → map (λ (i : ℕ). y) (range_with_len a n) ≡ replicate n y
same_each y a zero = refl
same_each {X = X} y a (suc n) = ap (λ (ys : List X). y ∷ ys) (same_each y (a + 1) n)

pub start_is : (k levels : ℕ) → state_of (start_desk k levels) ≡ start_state k levels
unfolding start_state
start_is k levels =
    ap (λ (ls : List Level). let s : State = record { k = k; x = pos 0; y = pos 0; altitude = 0; levels = ls; begun = 0; passes = replicate 16 Free } in s)
    (map_map level_of (started k) (λ (l : ℕ). empty_level) (range_with_len 0 levels) (λ l. filled_level true empty_region 0 (window k l (pos 0) (pos 0))) ∙ same_each empty_level 0 levels)

-- at altitude 0 the finest level is in use
or_true : (b : Bool) → (b || true) ≡ true
or_true true = refl
or_true false = refl

zero_le : (m : ℕ) → nat_le 0 m ≡ true
zero_le m = grind (arith, nat_tests)

seen_low : (k n level : ℕ) → is_seen k n 0 level ≡ true
unfolding is_seen
seen_low k n level = ap (λ (b : Bool). (level + 1 == n) || b) (zero_le (2 ^ (k + level))) ∙ or_true (level + 1 == n)

all_used : (k n : ℕ) → finest_used k n 0 ≡ 0
unfolding finest_used
all_used k zero = refl
all_used k (suc n) =
    ap (λ (b : Bool). unwrap_or (first_of (cond b (0 ∷ filter (is_seen k (suc n) 0) (range_with_len 1 n)) (filter (is_seen k (suc n) 0) (range_with_len 1 n)))) 0) (seen_low k (suc n) 0)

pub start_slots : (k levels : ℕ) → HaveSlots (start_desk k levels)
start_slots k levels l h =
    let count : length (map (started k) (range_with_len 0 levels)) ≡ levels = length-map-range_with_len (started k) 0 levels in
    let at : shelf_at (start_desk k levels) l ≡ started k l = get_or-map-range_with_len (started k) 0 levels l l empty_shelf (omega (arith, h, count)) (omega arith) in
    ap (λ (s : Shelf). all_pieces s.slots) at
    ∙ all_fresh (strip_pieces (strip_where true empty_region (window k l (pos 0) (pos 0))))
    ∙ ap (λ (b : Bool). strip_pieces (strip_where b empty_region (window k l (pos 0) (pos 0)))) (sym (ap (λ (n : ℕ). nat_le n l) (all_used k (length (map (started k) (range_with_len 0 levels)))) ∙ zero_le l))
    ∙ ap (λ (s : Shelf). strip_pieces (strip_where (used_on (start_desk k levels) l) s.filled (window_on (start_desk k levels) l))) (sym at)
    ∙ sym (pieces_are (start_desk k levels) l)
