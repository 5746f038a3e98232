-- Which levels are ripe: none that was just published or moved, and none that isn't there.
use Rattle.std.proofs.Common.{◌≡◌, ℕ, ◌<◌, ◌≤◌, ◌==◌, Bool, true, false, not, cond, ◌&&◌, List, [], ◌∷◌, length, Option, Some, None, refl, ap, sym, ◌∙◌, inl, inr, arith}
use Rattle.std.proofs.lemmas.Bool.{cases_Bool, cases_lt, and_parts, true≢false, eqb-true, ne_eqb}
use Rattle.std.proofs.lemmas.List.{get_or-set_same, get_or-set_other, get_or_past}
use Rattle.std.specs.List.{filter}
use Rattle.std.specs.Option.{is_some}
use Rattle.clip_regions.specs.declared.region.Region.{Region}
use Rattle.clip_regions.specs.Regions.{is_empty}
use Rattle.plan_model.specs.Strips.{current_strip, pieces}
use Rattle.plan_model.specs.States.{State, Level, empty_level, level_at, filled_at, window_at, is_used}
use Rattle.plan_model.specs.Claims.{strip_at, strip_pieces, is_finished, unfinished_pieces}
use Rattle.plan_model.specs.Steps.{Step, unchanged, grown_level, grown, published, publish_step}
use Rattle.plan_model.specs.Sound.{IsPartOf}
use Rattle.plan_model.specs.Rounds.{is_ripe}
use Rattle.plan_model.specs.declared.tiles.Piece.{Piece}
use Rattle.plan_model.specs.declared.events.Answer.TheVariants.{Waiting}
use Rattle.plan_flights.specs.Below.{LawsBelow}
use Rattle.plan_flights.proofs.Parts.{IsSomeSound}

-- ---- the strip of a level
-- a level that has a strip is in use, and the strip is that of its filled region
pub strip_is : (st : State) (level : ℕ) (strip : Region) → strip_at st level ≡ Some strip → (is_used st level ≡ true) × (current_strip (filled_at st level) (window_at st level) ≡ Some strip)
unfolding strip_at
strip_is st level strip e =
    elim (cases_Bool (is_used st level)) [
      | inl u ↦ (u, sym (ap (λ (b : Bool). cond b (current_strip (filled_at st level) (window_at st level)) None) u) ∙ e)
      | inr u ↦
          let none : Some strip ≡ None = sym e ∙ ap (λ (b : Bool). cond b (current_strip (filled_at st level) (window_at st level)) None) u in
          absurd (cc)
    ]

-- ---- a level of which nothing is finished
all_unfinished : (ps : List Piece) → filter (λ (piece : Piece). not (is_finished [] piece)) ps ≡ ps
unfolding is_finished
all_unfinished [] = refl
all_unfinished (p ∷ ps) = ap (λ (rest : List Piece). p ∷ rest) (all_unfinished ps)

some_unfinished : LawsBelow → (st : State) (level : ℕ) (strip : Option Region) → strip_at st level ≡ strip → IsPartOf (window_at st level) (filled_at st level) → (is_some strip && (length (filter (λ (piece : Piece). not (is_finished [] piece)) (strip_pieces strip)) == 0)) ≡ false
some_unfinished known st level None at part = refl
some_unfinished known st level (Some strip) at part =
    let cell : is_empty strip ≡ false = (known.strips st.k level st.x st.y (filled_at st level) strip (known.filled_in (window_at st level) (filled_at st level) part) (strip_is st level strip at).1).0 in
    let many : 1 ≤ length (pieces strip) = known.some_piece strip cell in
    ap (λ (ps : List Piece). length ps == 0) (all_unfinished (pieces strip)) ∙ ne_eqb (length (pieces strip)) 0 (λ (e : length (pieces strip) ≡ 0). omega arith)

pub fresh_not_ripe : LawsBelow → (st : State) (level : ℕ) → (level_at st level).finished ≡ [] → IsPartOf (window_at st level) (filled_at st level) → is_ripe st level ≡ false
unfolding is_ripe unfinished_pieces
fresh_not_ripe known st level e part =
    ap (λ (finished : List Piece). is_some (strip_at st level) && (length (filter (λ (piece : Piece). not (is_finished finished piece)) (strip_pieces (strip_at st level))) == 0)) e ∙ some_unfinished known st level (strip_at st level) refl part

pub part_at : (st : State) (level : ℕ) → IsSomeSound st → IsPartOf (window_at st level) (filled_at st level)
part_at st level s =
    elim (cases_lt level (length st.levels)) [
      | inl h ↦ (s.sound.levels level h).filled
      | inr h ↦ inl (ap (λ (l : Level). l.filled) (get_or_past st.levels level empty_level h))
    ]

-- a ripe level is there
pub ripe_there : LawsBelow → (st : State) (level : ℕ) → IsSomeSound st → is_ripe st level ≡ true → level < length st.levels
ripe_there known st level s e =
    elim (cases_lt level (length st.levels)) [
      | inl h ↦ h
      | inr h ↦ absurd (true≢false (sym e ∙ fresh_not_ripe known st level (ap (λ (l : Level). l.finished) (get_or_past st.levels level empty_level h)) (part_at st level s)))
    ]

-- ---- a publication of a ripe level
pub record IsRipe (st : State) (level : ℕ) : Type 0 where
  pub strip : Region
  pub at : strip_at st level ≡ Some strip
  pub none_left : length (unfinished_pieces st level) ≡ 0

ripe_from : (st : State) (level : ℕ) (strip : Option Region) → strip_at st level ≡ strip → is_some strip ≡ true → length (unfinished_pieces st level) ≡ 0 → IsRipe st level
ripe_from st level None at e z = absurd (true≢false (sym e))
ripe_from st level (Some strip) at e z = record { strip = strip; at = at; none_left = z }

pub ripe_is : (st : State) (level : ℕ) → is_ripe st level ≡ true → IsRipe st level
unfolding is_ripe
ripe_is st level e =
    let parts : (is_some (strip_at st level) ≡ true) × ((length (unfinished_pieces st level) == 0) ≡ true) = and_parts (is_some (strip_at st level)) (length (unfinished_pieces st level) == 0) e in
    ripe_from st level (strip_at st level) refl parts.0 (eqb-true (length (unfinished_pieces st level)) 0 parts.1)

pub publish_is : (st : State) (level : ℕ) (ripe : IsRipe st level) → publish_step st level ≡ grown st level ripe.strip
unfolding publish_step
publish_is st level ripe =
    ap (published st level) ripe.at ∙ ap (λ (n : ℕ). cond (n == 0) (grown st level ripe.strip) (unchanged st (Waiting n))) ripe.none_left

pub published_level : (st : State) (level : ℕ) (ripe : IsRipe st level) → level < length st.levels → level_at (publish_step st level).state level ≡ grown_level (level_at st level) ripe.strip
published_level st level ripe h =
    ap (λ (next : Step). level_at next.state level) (publish_is st level ripe) ∙ get_or-set_same st.levels level _ empty_level h

pub other_published : (st : State) (level m : ℕ) (ripe : IsRipe st level) → (m ≡ level → ⊥) → level_at (publish_step st level).state m ≡ level_at st m
other_published st level m ripe apart =
    ap (λ (next : Step). level_at next.state m) (publish_is st level ripe) ∙ get_or-set_other st.levels level m _ empty_level apart
