-- How much of a level is left to do: its unfilled cells beside the current strip, and the strip's unfinished pieces. No step of a round raises it, and it is at most the unfilled cells.
use Rattle.std.proofs.Common.{◌≡◌, ℕ, ◌+◌, ◌-◌, ◌<◌, ◌≤◌, ◌||◌, Bool, true, false, not, List, [], length, Option, Some, None, refl, ap, sym, ◌∙◌, subst, arith}
use Rattle.std.proofs.lemmas.Bool.{or_left, or_right}
use Rattle.std.proofs.lemmas.List.{length-set, get_or-set_same, get_or-set_other}
use Rattle.std.proofs.lemmas.List.Filters.{length-filter_both}
use Rattle.std.proofs.lemmas.List.Sums.{length-filter, count_by-le-length}
use Rattle.std.specs.List.{filter, Contains, sum_by}
use mathlib.Core.Path.{ap₂}
use Rattle.clip_regions.specs.declared.region.Region.{Region}
use Rattle.clip_regions.specs.Regions.{area}
use Rattle.plan_model.specs.Blocks.{same_number, same_block}
use Rattle.plan_model.specs.Strips.{current_strip, hull, pieces}
use Rattle.plan_model.specs.States.{State, Level, empty_level, level_at, filled_at, window_at, levels_used, finest_at}
use Rattle.plan_model.specs.Claims.{strip_at, strip_pieces, pieces_at, is_finished, unfinished_pieces}
use Rattle.plan_model.specs.Steps.{grown_level, publish_step, finished_level, kept_job}
use Rattle.plan_model.specs.Sound.{IsPartOf, IsEvenInside}
use Rattle.plan_model.specs.Rounds.{unfilled_cells, cells_to_fill}
use Rattle.plan_model.specs.declared.tiles.Piece.{Piece}
use Rattle.plan_model.specs.declared.events.JobNote.{JobNote}
use Rattle.plan_flights.specs.Below.{LawsBelow}
use Rattle.plan_flights.proofs.Lists.{filter_at_most, filter_fewer, sum_at_most}
use Rattle.plan_flights.proofs.Parts.{IsSomeSound}
use Rattle.plan_flights.proofs.Views.{SameView, window_same, strip_same, unfinished_same, unfilled_same, view_publish}
use Rattle.plan_flights.proofs.Ripe.{strip_is, part_at, IsRipe, published_level}

-- ---- the measure
abbrev pub strip_cells : Option Region → ℕ
strip_cells None = 0
strip_cells (Some strip) = area strip

unfoldable pub left : State → ℕ → ℕ
left st level = unfilled_cells st level - strip_cells (strip_at st level) + length (unfinished_pieces st level)

unfoldable pub total : State → ℕ
total st = sum_by (left st) (levels_used st)

-- ---- cells of a strip
strip_fits : LawsBelow → (st : State) (level : ℕ) (strip : Region) → IsSomeSound st → strip_at st level ≡ Some strip → area strip ≤ unfilled_cells st level
strip_fits known st level strip s at =
    let part : IsPartOf (window_at st level) (filled_at st level) = part_at st level s in
    let c : current_strip (filled_at st level) (window_at st level) ≡ Some strip = (strip_is st level strip at).1 in
    let size : 2 ≤ st.k = omega (arith, s.sound.size.low) in
    let inside : IsEvenInside (window_at st level) (hull (filled_at st level) strip) = known.hulls st.k level st.x st.y (filled_at st level) strip size part c in
    let few : area (hull (filled_at st level) strip) ≤ area (window_at st level) = known.held_cells (window_at st level) (hull (filled_at st level) strip) ((known.held (window_at st level) (hull (filled_at st level) strip)).0 inside.inside).1 in
    let adds : area (hull (filled_at st level) strip) ≡ area (filled_at st level) + area strip = known.hull_cells st.k level st.x st.y (filled_at st level) strip (known.filled_in (window_at st level) (filled_at st level) part) c in
    let rest : unfilled_cells st level + area (filled_at st level) ≡ area (window_at st level) = known.unfilled st level (known.filled_in (window_at st level) (filled_at st level) part) in
    omega (arith, few, adds, rest)

filter_few : {X : Type 0} (p : X → Bool) (xs : List X) → length (filter p xs) ≤ length xs
filter_few p xs = subst (λ (n : ℕ). n ≤ length xs) (sym (length-filter p xs)) (count_by-le-length p xs)

few_unfinished : (st : State) (level : ℕ) (strip : Option Region) → strip_at st level ≡ strip → length (unfinished_pieces st level) ≤ length (strip_pieces strip)
unfolding unfinished_pieces
few_unfinished st level strip at =
    subst (λ (o : Option Region). length (filter (λ (piece : Piece). not (is_finished (level_at st level).finished piece)) (strip_pieces o)) ≤ length (strip_pieces strip)) (sym at) (filter_few (λ (piece : Piece). not (is_finished (level_at st level).finished piece)) (strip_pieces strip))

bounded : (u a n m : ℕ) → n ≤ m → m ≤ a → a ≤ u → u - a + n ≤ u
bounded u a n m h k l = omega arith

at_most : LawsBelow → (st : State) (level : ℕ) (strip : Option Region) → IsSomeSound st → strip_at st level ≡ strip → unfilled_cells st level - strip_cells strip + length (unfinished_pieces st level) ≤ unfilled_cells st level
at_most known st level None s at = bounded (unfilled_cells st level) 0 (length (unfinished_pieces st level)) 0 (few_unfinished st level None at) (omega arith) (omega arith)
at_most known st level (Some strip) s at =
    bounded (unfilled_cells st level) (area strip) (length (unfinished_pieces st level)) (length (pieces strip)) (few_unfinished st level (Some strip) at) (known.few_pieces strip) (strip_fits known st level strip s at)

pub left_at_most : LawsBelow → (st : State) (level : ℕ) → IsSomeSound st → left st level ≤ unfilled_cells st level
unfolding left
left_at_most known st level s = at_most known st level (strip_at st level) s refl

pub total_at_most : LawsBelow → (st : State) → IsSomeSound st → total st ≤ cells_to_fill st
unfolding total cells_to_fill
total_at_most known st s =
    sum_at_most (left st) (unfilled_cells st) (finest_at st) (length st.levels - finest_at st) (λ level _ _. left_at_most known st level s)

-- ---- a level that stays
pub left_same : (a b : State) (level : ℕ) → SameView a b → level_at b level ≡ level_at a level → left b level ≡ left a level
unfolding left
left_same a b level v e =
    ap₂ (λ (n : ℕ) (strip : Option Region). n - strip_cells strip + length (unfinished_pieces b level)) (unfilled_same a b level v (ap (λ (l : Level). l.filled) e)) (strip_same a b level v (ap (λ (l : Level). l.filled) e)) ∙ ap (λ (ps : List Piece). unfilled_cells a level - strip_cells (strip_at a level) + length ps) (unfinished_same a b level v e)

-- ---- a publication
published_rest : (u' u a n : ℕ) → u' + a ≡ u → n ≤ u' → n ≤ u - a
published_rest u' u a n e h = omega arith

pub left_published : LawsBelow → (st : State) (level : ℕ) → IsRipe st level → IsSomeSound st → IsSomeSound (publish_step st level).state → level < length st.levels → left (publish_step st level).state level ≤ left st level
unfolding left
left_published known st level ripe s t there =
    let next : State = (publish_step st level).state in
    let v : SameView st (publish_step st level).state = view_publish st level in
    let here : level_at (publish_step st level).state level ≡ grown_level (level_at st level) ripe.strip = published_level st level ripe there in
    let part : IsPartOf (window_at st level) (filled_at st level) = part_at st level s in
    let part' : IsPartOf (window_at (publish_step st level).state level) (filled_at (publish_step st level).state level) = part_at (publish_step st level).state level t in
    let c : current_strip (filled_at st level) (window_at st level) ≡ Some ripe.strip = (strip_is st level ripe.strip ripe.at).1 in
    let adds : area (hull (filled_at st level) ripe.strip) ≡ area (filled_at st level) + area ripe.strip = known.hull_cells st.k level st.x st.y (filled_at st level) ripe.strip (known.filled_in (window_at st level) (filled_at st level) part) c in
    let rest : unfilled_cells st level + area (filled_at st level) ≡ area (window_at st level) = known.unfilled st level (known.filled_in (window_at st level) (filled_at st level) part) in
    let rest' : unfilled_cells (publish_step st level).state level + area (filled_at (publish_step st level).state level) ≡ area (window_at (publish_step st level).state level) = known.unfilled (publish_step st level).state level (known.filled_in (window_at (publish_step st level).state level) (filled_at (publish_step st level).state level) part') in
    let grown : area (filled_at (publish_step st level).state level) ≡ area (hull (filled_at st level) ripe.strip) = ap (λ (l : Level). area l.filled) here in
    let window : area (window_at (publish_step st level).state level) ≡ area (window_at st level) = ap area (window_same st (publish_step st level).state level v) in
    let gone : unfilled_cells (publish_step st level).state level + area ripe.strip ≡ unfilled_cells st level = omega (arith, adds, rest, rest', grown, window) in
    let few : left (publish_step st level).state level ≤ unfilled_cells (publish_step st level).state level = left_at_most known (publish_step st level).state level t in
    let fits : left (publish_step st level).state level ≤ unfilled_cells st level - area ripe.strip = published_rest (unfilled_cells (publish_step st level).state level) (unfilled_cells st level) (area ripe.strip) (left (publish_step st level).state level) gone few in
    let strip : strip_cells (strip_at st level) ≡ area ripe.strip = ap strip_cells ripe.at in
    omega (arith, fits, strip)

-- ---- a job that is given back
-- what was finished or is of the job's block
abbrev marks : Level → Piece → Piece → Bool
marks old piece other = same_block other piece || is_finished old.finished other

none_of_none : (test : Piece → Bool) → length (filter test []) + length (filter (λ (piece : Piece). not (is_finished (filter test []) piece)) []) ≡ length {A = Piece} []
none_of_none test = omega arith

counted : LawsBelow → (strip : Option Region) (test : Piece → Bool) → length (filter test (strip_pieces strip)) + length (filter (λ (piece : Piece). not (is_finished (filter test (strip_pieces strip)) piece)) (strip_pieces strip)) ≡ length (strip_pieces strip)
counted known None test = none_of_none test
counted known (Some strip) test = known.together strip (filter test (pieces strip)) test refl

counted_before : (finished : List Piece) (ps : List Piece) → length (filter (is_finished finished) ps) + length (filter (λ (piece : Piece). not (is_finished finished piece)) ps) ≡ length ps
counted_before finished ps = length-filter_both (is_finished finished) (λ (piece : Piece). not (is_finished finished piece)) (λ _. refl) ps

-- the level that keeps the piece of a job, and the job's state
abbrev kept_level : State → JobNote → Level
kept_level st job = finished_level (pieces_at st job.level) (level_at st job.level) job.piece

pieces_with : List Piece → List Piece → List Piece
pieces_with finished ps = filter (λ (piece : Piece). not (is_finished finished piece)) ps

unfinished_is : (st : State) (level : ℕ) → unfinished_pieces st level ≡ pieces_with (level_at st level).finished (pieces_at st level)
unfolding unfinished_pieces pieces_with
unfinished_is st level = refl

kept_view : (st : State) (p : ℕ) (job : JobNote) → SameView st (kept_job st p job).state
kept_view st p job = record { k = refl; x = refl; y = refl; altitude = refl; count = length-set st.levels job.level (kept_level st job) }

kept_at : (st : State) (p : ℕ) (job : JobNote) → job.level < length st.levels → level_at (kept_job st p job).state job.level ≡ kept_level st job
kept_at st p job there = get_or-set_same st.levels job.level (kept_level st job) empty_level there

kept_filled : (st : State) (p : ℕ) (job : JobNote) → job.level < length st.levels → filled_at (kept_job st p job).state job.level ≡ filled_at st job.level
unfolding finished_level
kept_filled st p job there = ap (λ (l : Level). l.filled) (kept_at st p job there)

-- the finished pieces that a job leaves
marked : State → JobNote → List Piece
marked st job = filter (marks (level_at st job.level) job.piece) (pieces_at st job.level)

kept_finished : (st : State) (p : ℕ) (job : JobNote) → job.level < length st.levels → (level_at (kept_job st p job).state job.level).finished ≡ marked st job
unfolding finished_level marked
kept_finished st p job there = ap (λ (l : Level). l.finished) (kept_at st p job there)

after_kept : (st : State) (p : ℕ) (job : JobNote) → job.level < length st.levels → unfinished_pieces (kept_job st p job).state job.level ≡ pieces_with (marked st job) (pieces_at st job.level)
after_kept st p job there =
    unfinished_is (kept_job st p job).state job.level ∙ ap₂ pieces_with (kept_finished st p job there) (ap strip_pieces (strip_same st (kept_job st p job).state job.level (kept_view st p job) (kept_filled st p job there)))

-- those that aren't finished then: as many as the others
rest_after : LawsBelow → (st : State) (job : JobNote) → length (marked st job) + length (pieces_with (marked st job) (pieces_at st job.level)) ≡ length (pieces_at st job.level)
unfolding marked pieces_with
rest_after known st job = counted known (strip_at st job.level) (marks (level_at st job.level) job.piece)

rest_before : (st : State) (level : ℕ) → length (filter (is_finished (level_at st level).finished) (pieces_at st level)) + length (unfinished_pieces st level) ≡ length (pieces_at st level)
unfolding unfinished_pieces
rest_before st level = counted_before (level_at st level).finished (pieces_at st level)

marks_finished : (old : Level) (piece other : Piece) → is_finished old.finished other ≡ true → marks old piece other ≡ true
marks_finished old piece other e = or_right (same_block other piece) (is_finished old.finished other) e

more_marked : (st : State) (job : JobNote) → length (filter (is_finished (level_at st job.level).finished) (pieces_at st job.level)) ≤ length (marked st job)
unfolding marked
more_marked st job =
    filter_at_most (is_finished (level_at st job.level).finished) (marks (level_at st job.level) job.piece) (pieces_at st job.level) (marks_finished (level_at st job.level) job.piece)

fewer_kept : LawsBelow → (st : State) (job : JobNote) → length (pieces_with (marked st job) (pieces_at st job.level)) ≤ length (unfinished_pieces st job.level)
fewer_kept known st job =
    let after : length (marked st job) + length (pieces_with (marked st job) (pieces_at st job.level)) ≡ length (pieces_at st job.level) = rest_after known st job in
    let before : length (filter (is_finished (level_at st job.level).finished) (pieces_at st job.level)) + length (unfinished_pieces st job.level) ≡ length (pieces_at st job.level) = rest_before st job.level in
    let more : length (filter (is_finished (level_at st job.level).finished) (pieces_at st job.level)) ≤ length (marked st job) = more_marked st job in
    omega (arith, after, before, more)

-- a job whose piece is an unfinished one of the strip
pub record IsNew (st : State) (job : JobNote) : Type 0 where
  pub there : job.level < length st.levels
  pub piece : Contains (pieces_at st job.level) job.piece
  pub unfinished : is_finished (level_at st job.level).finished job.piece ≡ false

same_itself : (p : Piece) → same_block p p ≡ true
unfolding same_block same_number
same_itself p = grind arith

marks_itself : (old : Level) (piece : Piece) → marks old piece piece ≡ true
marks_itself old piece = or_left (same_block piece piece) (is_finished old.finished piece) (same_itself piece)

one_more_marked : (st : State) (job : JobNote) → IsNew st job → length (filter (is_finished (level_at st job.level).finished) (pieces_at st job.level)) + 1 ≤ length (marked st job)
unfolding marked
one_more_marked st job new =
    filter_fewer (is_finished (level_at st job.level).finished) (marks (level_at st job.level) job.piece) (pieces_at st job.level) job.piece job.piece new.piece.0 (marks_finished (level_at st job.level) job.piece) new.piece.1 new.piece.2 new.unfinished (marks_itself (level_at st job.level) job.piece)

one_fewer_kept : LawsBelow → (st : State) (job : JobNote) → IsNew st job → length (pieces_with (marked st job) (pieces_at st job.level)) + 1 ≤ length (unfinished_pieces st job.level)
one_fewer_kept known st job new =
    let after : length (marked st job) + length (pieces_with (marked st job) (pieces_at st job.level)) ≡ length (pieces_at st job.level) = rest_after known st job in
    let before : length (filter (is_finished (level_at st job.level).finished) (pieces_at st job.level)) + length (unfinished_pieces st job.level) ≡ length (pieces_at st job.level) = rest_before st job.level in
    let more : length (filter (is_finished (level_at st job.level).finished) (pieces_at st job.level)) + 1 ≤ length (marked st job) = one_more_marked st job new in
    omega (arith, after, before, more)

-- what is left of the job's level
left_kept_is : (st : State) (p : ℕ) (job : JobNote) → job.level < length st.levels → left (kept_job st p job).state job.level ≡ unfilled_cells st job.level - strip_cells (strip_at st job.level) + length (pieces_with (marked st job) (pieces_at st job.level))
unfolding left
left_kept_is st p job there =
    ap₂ (λ (n : ℕ) (strip : Option Region). n - strip_cells strip + length (unfinished_pieces (kept_job st p job).state job.level)) (unfilled_same st (kept_job st p job).state job.level (kept_view st p job) (kept_filled st p job there)) (strip_same st (kept_job st p job).state job.level (kept_view st p job) (kept_filled st p job there)) ∙ ap (λ (ps : List Piece). unfilled_cells st job.level - strip_cells (strip_at st job.level) + length ps) (after_kept st p job there)

pub left_kept : LawsBelow → (st : State) (p : ℕ) (job : JobNote) → job.level < length st.levels → left (kept_job st p job).state job.level ≤ left st job.level
unfolding left
left_kept known st p job there =
    let e : left (kept_job st p job).state job.level ≡ unfilled_cells st job.level - strip_cells (strip_at st job.level) + length (pieces_with (marked st job) (pieces_at st job.level)) = left_kept_is st p job there in
    let few : length (pieces_with (marked st job) (pieces_at st job.level)) ≤ length (unfinished_pieces st job.level) = fewer_kept known st job in
    omega (arith, e, few)

pub left_new : LawsBelow → (st : State) (p : ℕ) (job : JobNote) → IsNew st job → left (kept_job st p job).state job.level + 1 ≤ left st job.level
unfolding left
left_new known st p job new =
    let e : left (kept_job st p job).state job.level ≡ unfilled_cells st job.level - strip_cells (strip_at st job.level) + length (pieces_with (marked st job) (pieces_at st job.level)) = left_kept_is st p job new.there in
    let few : length (pieces_with (marked st job) (pieces_at st job.level)) + 1 ≤ length (unfinished_pieces st job.level) = one_fewer_kept known st job new in
    omega (arith, e, few)

pub other_kept : (st : State) (p m : ℕ) (job : JobNote) → (m ≡ job.level → ⊥) → level_at (kept_job st p job).state m ≡ level_at st m
other_kept st p m job apart = get_or-set_other st.levels job.level m (kept_level st job) empty_level apart
