-- The filled regions of a desk's levels, as its frames take them.
use Rattle.std.proofs.Common.{◌≡◌, ℕ, ◌+◌, ◌<◌, ◌≤◌, true, List, [], ◌∷◌, ◌++◌, map, take, length, get_or, set, Option, Some, None, unwrap_or, refl, ap, sym, ◌∙◌, subst, inl, inr, ◌⊎◌, arith, get_or-set_same, get_or-set_other}
use Rattle.std.specs.Option.{option_map}
use Rattle.std.specs.List.{flat_map}
use Rattle.std.proofs.lemmas.Bool.{cases_eq}
use Rattle.std.proofs.lemmas.List.{same_lists, get_or-take, get_or-map, get_or_default, length-map, length-take-le}
use mathlib.Core.Path.{ap₂}
use Rattle.clip_regions.specs.declared.region.Region.{Region}
use Rattle.clip_regions.specs.Regions.{empty_region, is_empty}
use Rattle.active_region.specs.Active.{AreFilled}
use Rattle.plan_model.specs.Strips.{first_of}
use Rattle.plan_model.specs.States.{State, Level, filled_regions, from_coarsest}
use Rattle.plan_model.specs.Sound.{IsShown}
use Rattle.plan_model.specs.Claims.{held_tiles, held_answer}
use Rattle.plan_model.specs.Steps.{LevelTile, held_under, frame_begun}
use Rattle.plan_model.specs.declared.events.Answer.{Answer}
use Rattle.plan_model.specs.declared.events.Answer.TheVariants.{Idle}
use Rattle.book_plan.specs.Slots.{Shelf, empty_shelf, level_of}
use Rattle.book_plan.specs.Desks.{Desk, state_of, IsStanding}
use Rattle.book_plan.specs.Found.{answers_under}
use Rattle.book_plan.proofs.Lists.{first_mapped}
use Rattle.book_plan.proofs.Moved.{map_map}
use Rattle.book_plan.proofs.Placed.{shelf_sound}

-- one more region
pub one_more : (filled : List Region) (levels : List Shelf) (l : ℕ) (r : Region) → l < length filled → r ≡ (get_or levels l empty_shelf).filled → ((i : ℕ) → i < l → get_or filled i empty_region ≡ (get_or levels i empty_shelf).filled) → (i : ℕ) → i < l + 1 → get_or (set filled l r) i empty_region ≡ (get_or levels i empty_shelf).filled
one_more filled levels l r inside e done i h =
    elim (cases_eq i l) [
      | inl same ↦
          ap (λ (j : ℕ). get_or (set filled l r) j empty_region) same ∙ get_or-set_same filled l r empty_region inside ∙ e ∙ ap (λ (j : ℕ). (get_or levels j empty_shelf).filled) (sym same)
      | inr other ↦ get_or-set_other filled l i r empty_region other ∙ done i (omega (arith, h, other))
    ]

pub all_filled : (filled : List Region) (levels : List Shelf) (n : ℕ) → length levels ≤ length filled → length levels ≤ n → ((i : ℕ) → i < n → get_or filled i empty_region ≡ (get_or levels i empty_shelf).filled) → take (length levels) filled ≡ map (λ level. level.filled) levels
all_filled filled levels n few reached done =
    let long : length (take (length levels) filled) ≡ length levels = length-take-le (length levels) filled few in
    same_lists (take (length levels) filled) (map (λ (s : Shelf). s.filled) levels) (long ∙ sym (length-map levels (λ (s : Shelf). s.filled)))
    (λ k d b.
    let inside : k < length levels = omega (arith, b, long) in
    get_or-take (length levels) filled k d inside ∙ get_or_default filled k d empty_region (omega arith) ∙ done k (omega arith) ∙ sym (get_or-map (λ (s : Shelf). s.filled) levels k empty_shelf d inside))

-- each is empty or lies in a window
pub shelves_filled : (d : Desk) → IsStanding d → AreFilled d.k (map (λ s. s.filled) d.levels)
shelves_filled d h level b =
    let there : level < length d.levels = omega (arith, b, length-map d.levels (λ (s : Shelf). s.filled)) in
    subst (λ (r : Region). (is_empty r ≡ true) ⊎ IsShown d.k level r) (sym (get_or-map (λ (s : Shelf). s.filled) d.levels level empty_shelf empty_region there))
    (inr (record { x = d.x; y = d.y; column = h.viewer.column; row = h.viewer.row; part = (shelf_sound d level h there).filled }))

pub regions_are : (d : Desk) → map (λ s. s.filled) d.levels ≡ filled_regions (state_of d)
regions_are d = sym (map_map (λ (it : Level). it.filled) level_of (λ (s : Shelf). s.filled) d.levels (λ s. refl))

-- ---- what is answered where a tile under a frame is held
abbrev pub told : State → LevelTile → Answer
told st held = unwrap_or (held_answer st held.level held.tile) Idle

map_append : {X Y : Type 0} (f : X → Y) (xs ys : List X) → map f (xs ++ ys) ≡ map f xs ++ map f ys
map_append f [] ys = refl
map_append {Y = Y} f (x ∷ xs) ys = ap (λ (zs : List Y). f x ∷ zs) (map_append f xs ys)

pub map_flat : {X Y Z : Type 0} (h : Y → Z) (f : X → List Y) (g : X → List Z) (xs : List X) → ((x : X) → map h (f x) ≡ g x) → map h (flat_map f xs) ≡ flat_map g xs
map_flat h f g [] e = refl
map_flat {Z = Z} h f g (x ∷ xs) e =
    map_append h (f x) (flat_map f xs) ∙ ap₂ (λ (us vs : List Z). us ++ vs) (e x) (map_flat h f g xs e)

pub told_are : (st : State) (active : List Region) → option_map (told st) (first_of (held_under st active)) ≡ first_of (flat_map (answers_under st active) (from_coarsest st))
unfolding held_under
told_are st active =
    sym (first_mapped (told st) (flat_map (λ level. map (λ t. let lt : LevelTile = record { level = level; tile = t } in lt) (held_tiles st level (get_or active level empty_region))) (from_coarsest st)))
    ∙ ap first_of (map_flat (told st) (λ level. map (λ t. let lt : LevelTile = record { level = level; tile = t } in lt) (held_tiles st level (get_or active level empty_region))) (answers_under st active) (from_coarsest st) (λ level. map_map (told st) (λ t. let lt : LevelTile = record { level = level; tile = t } in lt) (λ t. unwrap_or (held_answer st level t) Idle) (held_tiles st level (get_or active level empty_region)) (λ t. refl)))

pub begun_some : (st : State) (p : ℕ) (o : Option LevelTile) (answer : Answer) → option_map (told st) o ≡ Some answer → (answer ≡ (frame_begun st p o).answer) × (st ≡ (frame_begun st p o).state)
begun_some st p None answer e = absurd (cc)
begun_some st p (Some held) answer e = (cc, refl)

pub begun_none : (st : State) (p : ℕ) (o : Option LevelTile) → option_map (told st) o ≡ None → frame_begun st p None ≡ frame_begun st p o
begun_none st p None e = refl
begun_none st p (Some held) e = absurd (cc)
