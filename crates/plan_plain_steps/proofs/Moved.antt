-- The levels of a state, one level more at a time.
use Rattle.std.proofs.Common.{◌≡◌, ◌≢◌, ℕ, ◌+◌, ◌<◌, ◌≤◌, ◌^◌, Bool, ℤ, List, [], ◌∷◌, map, length, get_or, set, refl, ap, sym, ◌∙◌, arith, below_more, get_or-set_other, get_or-set_same}
use mathlib.Core.Path.{ap₂}
use Rattle.std.specs.List.{range_with_len}
use Rattle.std.proofs.lemmas.Int.{ints}
use Rattle.std.proofs.lemmas.List.{get_or_default, same_lists}
use Rattle.std.proofs.lemmas.List.FromFn.{length-map-range_with_len, get_or-map-range_with_len}
use Rattle.clip_regions.specs.declared.region.Region.{Region}
use Rattle.clip_regions.specs.Regions.{IsWithin}
use Rattle.plan_model.specs.Window.{window}
use Rattle.plan_model.specs.States.{Level, State, empty_level, level_at, window_at, is_used}
use Rattle.plan_model.specs.Steps.{seen_from, stays, moved_level, move_step}
use Rattle.plan_plain_steps.specs.declared.moves.Viewer.{Viewer}
use Rattle.plan_plain_steps.specs.Moves.{stays_for}

-- levels that are made one by one in the place of others
pub record IsMade (g : ℕ → Level) (start levels : List Level) (l : ℕ) : Type 0 where
  pub done : (i : ℕ) → i < l → get_or levels i empty_level ≡ g i
  pub rest : (i : ℕ) → l ≤ i → get_or levels i empty_level ≡ get_or start i empty_level

pub made_more : (g : ℕ → Level) (start levels : List Level) (l : ℕ) (level : Level) → l < length levels → level ≡ g l → IsMade g start levels l → IsMade g start (set levels l level) (l + 1)
made_more g start levels l level h e made = record {
  done = below_more _ _
      (λ k b. let ne : k ≢ l = omega arith in rw get_or-set_other (made.done k b))
      (rw get_or-set_same e);
  rest = λ i b.
      let ne : i ≢ l = omega arith in
      let after : l ≤ i = omega arith in
      rw get_or-set_other (made.rest i after);
}

pub made_all : (g : ℕ → Level) (start levels : List Level) (l n : ℕ) → length levels ≡ n → n ≤ l → IsMade g start levels l → levels ≡ map g (range_with_len 0 n)
made_all g start levels l n e h made =
    same_lists levels (map g (range_with_len 0 n)) (e ∙ sym (length-map-range_with_len g 0 n))
    (λ k d b.
    let below : k < l = omega arith in
    let inside : k < n = omega arith in
    get_or_default levels k d empty_level b ∙ made.done k below ∙ sym (get_or-map-range_with_len g 0 n k k d inside (omega arith)))

pub farther : (r : Region) → IsWithin (2 ^ 24) r → IsWithin (2 ^ 28) r
farther r w = record {
  x0_low = omega (arith, ints, w.x0_low);
  x0_high = omega (arith, ints, w.x0_high);
  y0_low = omega (arith, ints, w.y0_low);
  y0_high = omega (arith, ints, w.y0_high);
  x1_low = omega (arith, ints, w.x1_low);
  x1_high = omega (arith, ints, w.x1_high);
  y1_low = omega (arith, ints, w.y1_low);
  y1_high = omega (arith, ints, w.y1_high);
}

map_each : (f g : ℕ → Level) (xs : List ℕ) → ((x : ℕ) → f x ≡ g x) → map f xs ≡ map g xs
map_each f g [] e = refl
map_each f g (x ∷ xs) e = ap₂ (λ (y : Level) (ys : List Level). y ∷ ys) (e x) (map_each f g xs e)

-- where a level stays, by the state before a move and the one with the other viewer
stays_is : (st : State) (from to : Viewer) (level : ℕ) → from.x ≡ st.x → from.y ≡ st.y → from.a ≡ st.altitude → stays_for st.k (length st.levels) from to level ≡ stays st (seen_from st to.x to.y to.a) level
unfolding stays is_used
stays_is st from to level ex ey ea =
    ap (λ (z : ℤ). let v : Viewer = record { x = z; y = from.y; a = from.a } in stays_for st.k (length st.levels) v to level) ex
    ∙ ap (λ (z : ℤ). let v : Viewer = record { x = st.x; y = z; a = from.a } in stays_for st.k (length st.levels) v to level) ey
    ∙ ap (λ (a : ℕ). let v : Viewer = record { x = st.x; y = st.y; a = a } in stays_for st.k (length st.levels) v to level) ea

-- each level after a move
abbrev pub moved_by : State → Viewer → Viewer → ℕ → Level
moved_by st from to level = moved_level (stays_for st.k (length st.levels) from to level) (window st.k level to.x to.y) (get_or st.levels level empty_level)

moved_is : (st : State) (from to : Viewer) (level : ℕ) → from.x ≡ st.x → from.y ≡ st.y → from.a ≡ st.altitude → moved_by st from to level ≡ moved_level (stays st (seen_from st to.x to.y to.a) level) (window_at (seen_from st to.x to.y to.a) level) (level_at st level)
moved_is st from to level ex ey ea =
    ap (λ (b : Bool). moved_level b (window st.k level to.x to.y) (get_or st.levels level empty_level)) (stays_is st from to level ex ey ea)

-- the state after a move
pub moved_state : (st : State) (x y : ℤ) (a : ℕ) (from to : Viewer) (levels : List Level) → from.x ≡ st.x → from.y ≡ st.y → from.a ≡ st.altitude → to.x ≡ x → to.y ≡ y → to.a ≡ a → levels ≡ map (moved_by st from to) (range_with_len 0 (length st.levels)) → record st { x = to.x; y = to.y; altitude = to.a; levels = levels } ≡ (move_step st x y a).state
unfolding move_step
moved_state st x y a from to levels ox oy oa ex ey ea e =
    ap (λ (ls : List Level). let s : State = record st { x = to.x; y = to.y; altitude = to.a; levels = ls } in s) (e ∙ map_each (moved_by st from to) (λ (level : ℕ). moved_level (stays st (seen_from st to.x to.y to.a) level) (window_at (seen_from st to.x to.y to.a) level) (level_at st level)) (range_with_len 0 (length st.levels)) (λ level. moved_is st from to level ox oy oa))
    ∙ ap (λ (z : ℤ). (move_step st z to.y to.a).state) ex
    ∙ ap (λ (z : ℤ). (move_step st x z to.a).state) ey
    ∙ ap (λ (b : ℕ). (move_step st x y b).state) ea
