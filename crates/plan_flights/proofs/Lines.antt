-- Every line of a flight leaves a state at rest at rest.
use Rattle.std.proofs.Common.{◌≡◌, ℕ, zero, suc, ◌<◌, ◌≤◌, Bool, true, false, not, cond, ◌&&◌, ◌==◌, ℤ, List, [], ◌∷◌, replicate, length, get_or, Option, None, refl, ap, sym, ◌∙◌, inl, inr, arith}
use Rattle.std.proofs.lemmas.Int.{ints}
use Rattle.std.proofs.lemmas.Bool.{cond_both, cond-true, cond-false, cases_Bool, cases_lt, and_parts, true≢false}
use Rattle.std.proofs.lemmas.List.Elements.{All-head, All-tail}
use Rattle.std.proofs.lemmas.List.FromFn.{length-map-range_with_len, get_or-map-range_with_len}
use Rattle.std.specs.Bool.{beq}
use Rattle.std.specs.List.{All, fold, filter}
use Rattle.std.specs.Option.{is_some}
use mathlib.Core.Path.{ap₂}
use Rattle.clip_regions.specs.declared.region.Region.{Region}
use Rattle.clip_regions.specs.Regions.{is_empty, holds}
use Rattle.plan_model.specs.Limits.{IsSize, IsLevelCount, IsViewer}
use Rattle.plan_model.specs.Strips.{current_strip}
use Rattle.plan_model.specs.States.{State, Level, Pass, empty_level, start_state, level_at, filled_at, window_at, pass_at, is_used, same_region, frame_of}
use Rattle.plan_model.specs.Claims.{strip_at, strip_pieces, is_finished, unfinished_pieces}
use Rattle.plan_model.specs.Steps.{seen_from, stays, moved_level, moved_levels, move_step}
use Rattle.plan_model.specs.Sound.{IsInside}
use Rattle.plan_model.specs.Histories.{Run, run_from, then_step}
use Rattle.plan_model.specs.Rounds.{frame_pass, is_ripe, round, is_settled, rounds, cells_to_fill, settle, fly_line, flight}
use Rattle.plan_model.specs.declared.tiles.Piece.{Piece}
use Rattle.plan_model.specs.declared.events.Event.TheVariants.{Move, Begin}
use Rattle.plan_model.specs.declared.events.FlyLine.{FlyLine}
use Rattle.plan_model.specs.declared.events.FlyLine.TheVariants.{Move as FlyMove, Frame as FlyFrame, Settle}
use Rattle.plan_model.specs.declared.events.Work.TheVariants.{Free}
use Rattle.plan_flights.specs.Flights.{IsFlyable, IsAtRest, LinesKeepRest, FlightsEndAtRest}
use Rattle.plan_flights.specs.Below.{LawsBelow}
use Rattle.plan_flights.proofs.Parts.{IsSomeSound, sound_after}
use Rattle.plan_flights.proofs.Views.{SameView, ripe_same}
use Rattle.plan_flights.proofs.Ripe.{part_at, fresh_not_ripe}
use Rattle.plan_flights.proofs.Still.{IsUnframed, round_rests, unframed_at_rest, not_there}
use Rattle.clip_regions.proofs.Cells.{same_corners}
use Rattle.plan_histories.proofs.PassLaws.{no_work, all_free}

-- ---- a level that stays where the viewer moves
same_flag : (a b : Bool) → beq a b ≡ true → a ≡ b
same_flag true true e = refl
same_flag true false e = absurd (true≢false (sym e))
same_flag false true e = absurd (true≢false (sym e))
same_flag false false e = refl

inside_both : (a b : Region) → IsInside a b → IsInside b a → a ≡ b
inside_both a b h k = same_corners a b (omega (arith, ints)) (omega (arith, ints)) (omega (arith, ints)) (omega (arith, ints))

same_window : LawsBelow → (a b : State) (level : ℕ) → same_region (window_at a level) (window_at b level) ≡ true → window_at a level ≡ window_at b level
unfolding same_region
same_window known a b level e =
    let parts : (holds (window_at a level) (window_at b level) ≡ true) × (holds (window_at b level) (window_at a level) ≡ true) = and_parts (holds (window_at a level) (window_at b level)) (holds (window_at b level) (window_at a level)) e in
    let some_a : is_empty (window_at a level) ≡ false = ((known.held (window_at a level) (window_at a level)).0 (known.windows a.k level a.x a.y)).0 in
    let some_b : is_empty (window_at b level) ≡ false = ((known.held (window_at b level) (window_at b level)).0 (known.windows b.k level b.x b.y)).0 in
    inside_both (window_at a level) (window_at b level) ((known.held (window_at a level) (window_at b level)).1 (some_b, parts.0)) ((known.held (window_at b level) (window_at a level)).1 (some_a, parts.1))

strip_stays : LawsBelow → (st after : State) (level : ℕ) → stays st after level ≡ true → filled_at after level ≡ filled_at st level → strip_at after level ≡ strip_at st level
unfolding stays strip_at
strip_stays known st after level e f =
    let parts : (same_region (window_at st level) (window_at after level) ≡ true) × (beq (is_used st level) (is_used after level) ≡ true) = and_parts (same_region (window_at st level) (window_at after level)) (beq (is_used st level) (is_used after level)) e in
    ap₂ (λ (used : Bool) (strip : Option Region). cond used strip None) (sym (same_flag (is_used st level) (is_used after level) parts.1)) (ap₂ current_strip f (sym (same_window known st after level parts.0)))

ripe_stays : LawsBelow → (st after : State) (level : ℕ) → stays st after level ≡ true → level_at after level ≡ level_at st level → is_ripe after level ≡ is_ripe st level
unfolding is_ripe unfinished_pieces
ripe_stays known st after level e same =
    ap₂ (λ (strip : Option Region) (l : Level). is_some strip && (length (filter (λ (piece : Piece). not (is_finished l.finished piece)) (strip_pieces strip)) == 0)) (strip_stays known st after level e (ap (λ (l : Level). l.filled) same)) same

-- ---- a move
moved_count : (st after : State) → length (moved_levels st after) ≡ length st.levels
moved_count st after =
    length-map-range_with_len (λ (level : ℕ). moved_level (stays st after level) (window_at after level) (level_at st level)) 0 (length st.levels)

moved_at : (st : State) (x y : ℤ) (a level : ℕ) → level < length st.levels → level_at (move_step st x y a).state level ≡ moved_level (stays st (seen_from st x y a) level) (window_at (seen_from st x y a) level) (level_at st level)
unfolding move_step
moved_at st x y a level there =
    get_or-map-range_with_len (λ (m : ℕ). moved_level (stays st (seen_from st x y a) m) (window_at (seen_from st x y a) m) (level_at st m)) 0 (length st.levels) level level empty_level there (omega arith)

moved_view : (st : State) (x y : ℤ) (a : ℕ) → SameView (seen_from st x y a) (move_step st x y a).state
unfolding move_step
moved_view st x y a = record { k = refl; x = refl; y = refl; altitude = refl; count = moved_count st (seen_from st x y a) }

-- a level that stays is ripe as before, and of another nothing is finished
stayed : LawsBelow → (st : State) (x y : ℤ) (a level : ℕ) → level < length st.levels → stays st (seen_from st x y a) level ≡ true → is_ripe (move_step st x y a).state level ≡ is_ripe st level
unfolding moved_level
stayed known st x y a level there e =
    let same : level_at (move_step st x y a).state level ≡ level_at st level = moved_at st x y a level there ∙ cond-true (stays st (seen_from st x y a) level) (level_at st level) _ e in
    ripe_same (seen_from st x y a) (move_step st x y a).state level (moved_view st x y a) same ∙ ripe_stays known st (seen_from st x y a) level e refl

left_fresh : (st : State) (x y : ℤ) (a level : ℕ) → level < length st.levels → stays st (seen_from st x y a) level ≡ false → (level_at (move_step st x y a).state level).finished ≡ []
unfolding moved_level
left_fresh st x y a level there e =
    ap (λ (l : Level). l.finished) (moved_at st x y a level there ∙ cond-false (stays st (seen_from st x y a) level) (level_at st level) _ e)

moved_not_ripe : LawsBelow → (st : State) (x y : ℤ) (a level : ℕ) → IsSomeSound (move_step st x y a).state → is_ripe st level ≡ false → level < length st.levels → is_ripe (move_step st x y a).state level ≡ false
moved_not_ripe known st x y a level s before there =
    elim (cases_Bool (stays st (seen_from st x y a) level)) [
      | inl e ↦ stayed known st x y a level there e ∙ before
      | inr e ↦ fresh_not_ripe known (move_step st x y a).state level (left_fresh st x y a level there e) (part_at (move_step st x y a).state level s)
    ]

move_rests : LawsBelow → (st : State) (x y : ℤ) (a : ℕ) → IsViewer x y a → IsAtRest st → IsAtRest (move_step st x y a).state
move_rests known st x y a viewer rest =
    let s : IsSomeSound (move_step st x y a).state = sound_after known st 0 (Move x y a) viewer (record { bound = rest.bound; sound = rest.sound }) in
    record {
      bound = s.bound;
      sound = s.sound;
      free = λ (p : ℕ). ap (λ (ps : List Pass). get_or ps p Free) (known.moves_leave st 0 x y a) ∙ rest.free p;
      published = λ (level : ℕ). at s level;
    }
  where
    at : IsSomeSound (move_step st x y a).state → (level : ℕ) → is_ripe (move_step st x y a).state level ≡ false
    at s level =
        elim (cases_lt level (length st.levels)) [
          | inl there ↦ moved_not_ripe known st x y a level s (rest.published level) there
          | inr past ↦
              let count : length (move_step st x y a).state.levels ≡ length st.levels = (moved_view st x y a).count in
              not_there known (move_step st x y a).state level s (omega (arith, count, past))
        ]

-- ---- a frame and a settle
begun_unframed : LawsBelow → (r : Run) → IsAtRest r.state → IsUnframed (then_step r frame_pass Begin)
unfolding then_step
begun_unframed known r rest = record {
  sound = sound_after known r.state frame_pass Begin tt (record { bound = rest.bound; sound = rest.sound });
  unframed = λ (q : ℕ) (apart : q ≡ frame_pass → ⊥). ap frame_of (known.others_keep r.state frame_pass q Begin (λ (e : frame_pass ≡ q). apart (sym e)) ∙ rest.free q);
}

rounds_rest : LawsBelow → (n workers : ℕ) (r : Run) → workers ≤ 15 → IsAtRest r.state → IsAtRest (rounds n workers r).state
rounds_rest known zero workers r few rest = rest
rounds_rest known (suc n) workers r few rest =
    cond_both (is_settled r.state) r (rounds n workers (round workers r)) (λ (next : Run). IsAtRest next.state) (λ _. rest) (λ _. rounds_rest known n workers (round workers r) few (round_rests known workers r few (unframed_at_rest r rest)))

pub lines_keep_rest : LawsBelow → LinesKeepRest
unfolding then_step settle
lines_keep_rest known workers r (FlyMove x y a) few viewer rest = move_rests known r.state x y a viewer rest
lines_keep_rest known workers r FlyFrame few ok rest = round_rests known workers (then_step r frame_pass Begin) few (begun_unframed known r rest)
lines_keep_rest known workers r Settle few ok rest = rounds_rest known (cells_to_fill r.state) workers r few rest

-- ---- a flight
all_empty : (n level : ℕ) → get_or (replicate n empty_level) level empty_level ≡ empty_level
all_empty zero level = refl
all_empty (suc n) zero = refl
all_empty (suc n) (suc level) = all_empty n level

start_level : (k levels level : ℕ) → level_at (start_state k levels) level ≡ empty_level
unfolding start_state
start_level k levels level = all_empty levels level

start_pass : (k levels p : ℕ) → pass_at (start_state k levels) p ≡ Free
unfolding start_state no_work
start_pass k levels p = all_free 16 p

start_rests : LawsBelow → (k levels : ℕ) → IsSize k → IsLevelCount levels → IsAtRest (start_state k levels)
start_rests known k levels size many =
    let s : IsSomeSound (start_state k levels) = record { bound = 0; sound = known.sound_starts k levels size many } in
    record {
      bound = 0;
      sound = known.sound_starts k levels size many;
      free = λ (p : ℕ). start_pass k levels p;
      published = λ (level : ℕ). fresh_not_ripe known (start_state k levels) level (ap (λ (l : Level). l.finished) (start_level k levels level)) (part_at (start_state k levels) level (record { bound = 0; sound = known.sound_starts k levels size many }));
    }

script_rests : LawsBelow → (workers : ℕ) (script : List FlyLine) (r : Run) → workers ≤ 15 → All IsFlyable script → IsAtRest r.state → IsAtRest (fold (fly_line workers) r script).state
script_rests known workers [] r few lines rest = rest
script_rests known workers (line ∷ script) r few lines rest =
    script_rests known workers script (fly_line workers r line) few (All-tail IsFlyable line script lines) (lines_keep_rest known workers r line few (All-head IsFlyable line script lines) rest)

pub flights_end_at_rest : LawsBelow → FlightsEndAtRest
unfolding flight
flights_end_at_rest known k levels workers script h =
    script_rests known workers script (run_from (start_state k levels)) h.few h.lines (start_rests known k levels h.size h.many)
