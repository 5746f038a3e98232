-- In a state at rest that isn't settled a piece can be claimed: no tile is held or pinned, so an unfinished piece of the coarsest level in use that isn't whole can.
use Rattle.std.proofs.Common.{◌≡◌, ℕ, zero, suc, ◌+◌, ◌-◌, ◌<◌, ◌≤◌, ◌==◌, Bool, true, false, not, cond, ◌&&◌, List, [], ◌∷◌, ◌++◌, map, length, get_or, Option, Some, None, refl, ap, sym, ◌∙◌, subst, arith}
use Rattle.std.proofs.lemmas.Int.{ints}
use Rattle.std.proofs.lemmas.Bool.{cond_both, and_parts, and_from, or_left, or_right, true≢false, true_from_ne_false, not_from_false, not-true, eq-eqb, le-leb, cond-true}
use Rattle.std.proofs.lemmas.List.Elements.{All-nil, All-head, All-tail, All-from_get_or, All-map, All-filter, All-contains_itself, filter_passes, filter_agree}
use Rattle.std.specs.List.{All, Contains, fold, filter, flat_map, range_with_len, list_all}
use Rattle.std.specs.Option.{is_some}
use mathlib.Core.Path.{ap₂}
use Rattle.clip_regions.specs.declared.region.Region.{Region}
use Rattle.clip_regions.specs.Regions.{is_empty, holds}
use Rattle.plan_model.specs.Strips.{first_of, current_strip, pieces, need}
use Rattle.plan_model.specs.States.{State, Pass, level_at, filled_at, window_at, pass_at, finest_at, is_used, levels_used, used_from_coarsest, same_region, is_whole, job_of, frame_of}
use Rattle.plan_model.specs.Sound.{IsInside}
use Rattle.plan_model.specs.Tiles.{tiles_met, job_holds, holder, is_held, pins_of, pinning_frames, lesser, pinner, is_pinned}
use Rattle.plan_model.specs.Claims.{strip_at, strip_pieces, pieces_at, is_finished, unfinished_pieces, held_tiles, held_needs, tile_of_piece, is_claimable, is_offered, Offer, offers_of, offers}
use Rattle.plan_model.specs.Rounds.{is_ripe, is_settled}
use Rattle.plan_model.specs.declared.tiles.Piece.{Piece}
use Rattle.plan_model.specs.declared.tiles.TileId.{TileId}
use Rattle.plan_model.specs.declared.events.Work.TheVariants.{Free}
use Rattle.plan_flights.specs.Flights.{IsAtRest}
use Rattle.plan_flights.specs.Below.{LawsBelow}
use Rattle.plan_flights.proofs.Lists.{All-reverse, in_reverse, first_none, each_empty, map_empty}
use Rattle.plan_flights.proofs.Parts.{IsSomeSound, none_of}
use Rattle.plan_flights.proofs.Ripe.{strip_is, part_at}
use Rattle.plan_laws.proofs.Lists.{All-range, All-flat_map}

-- ---- nothing is held or pinned
pub none_pass : {X : Type 0} (test : X → Bool) (xs : List X) → ((x : X) → test x ≡ false) → filter test xs ≡ []
none_pass test [] h = refl
none_pass test (x ∷ xs) h = ap (λ (b : Bool). cond b (x ∷ filter test xs) (filter test xs)) (h x) ∙ none_pass test xs h

nothing_in : {X Y : Type 0} (f : X → List Y) (xs : List X) → All (λ x. f x ≡ []) xs → flat_map f xs ≡ []
nothing_in f [] h = refl
nothing_in f (x ∷ xs) h =
    ap₂ (λ (a b : List _). a ++ b) (All-head (λ y. f y ≡ []) x xs h) (nothing_in f xs (All-tail (λ y. f y ≡ []) x xs h))

only_first : (a h p n : Bool) → h ≡ false → p ≡ false → n ≡ false → ((not a && not h) && (not p && not n)) ≡ not a
only_first true h p n e f g = refl
only_first false h p n e f g = rw (e, f, g) refl

all_pass : {X : Type 0} (p : X → Bool) (xs : List X) → All (λ x. p x ≡ true) xs → list_all p xs ≡ true
all_pass p [] h = refl
all_pass p (x ∷ xs) h =
    and_from (p x) (list_all p xs) (All-head (λ y. p y ≡ true) x xs h) (all_pass p xs (All-tail (λ y. p y ≡ true) x xs h))

module _ (st : State) (free : (p : ℕ) → pass_at st p ≡ Free) where
  pub none_held : (level : ℕ) (t : TileId) → is_held st level t ≡ false
  unfolding is_held holder
  none_held level t =
      ap (λ (ps : List ℕ). is_some (first_of ps)) (none_pass (λ (p : ℕ). job_holds st.k level t (job_of (pass_at st p))) (range_with_len 0 (length st.passes)) (λ (p : ℕ). ap (λ (pass : Pass). job_holds st.k level t (job_of pass)) (free p)))

  none_pinned : (level : ℕ) (t : TileId) → is_pinned st level t ≡ false
  unfolding is_pinned pinner pinning_frames
  none_pinned level t =
      ap (λ (ns : List ℕ). is_some (fold lesser None ns)) (nothing_in (λ (pass : Pass). pins_of st.k level t (frame_of pass)) st.passes (All-from_get_or (λ (pass : Pass). pins_of st.k level t (frame_of pass) ≡ []) st.passes Free (λ (p : ℕ) (_ : p < length st.passes). ap (λ (pass : Pass). pins_of st.k level t (frame_of pass)) (free p))))

  none_needed : (level : ℕ) (piece : Piece) → is_some (first_of (held_needs st level piece)) ≡ false
  unfolding held_tiles
  none_needed level piece =
      ap (λ (ts : List TileId). is_some (first_of ts)) (none_pass (is_held st (level + 1)) (tiles_met st.k (need piece.cells)) (λ (t : TileId). none_held (level + 1) t))

  -- a piece can be claimed where it isn't finished
  claimable_is : (level : ℕ) (piece : Piece) → is_claimable st level piece ≡ not (is_finished (level_at st level).finished piece)
  unfolding is_claimable
  claimable_is level piece =
      only_first (is_finished (level_at st level).finished piece) (is_held st level (tile_of_piece st piece)) (is_pinned st level (tile_of_piece st piece)) (is_some (first_of (held_needs st level piece))) (none_held level (tile_of_piece st piece)) (none_pinned level (tile_of_piece st piece)) (none_needed level piece)

-- ---- offers
-- the offer is of an unfinished piece of the strip of a level in use
pub record IsGood (st : State) (o : Offer) : Type 0 where
  pub used : finest_at st ≤ o.level
  pub there : o.level < length st.levels
  pub piece : Contains (pieces_at st o.level) o.piece
  pub unfinished : is_finished (level_at st o.level).finished o.piece ≡ false

offer_at : ℕ → Piece → Offer
offer_at level piece = record { level = level; piece = piece }

claimable_unfinished : (st : State) (level : ℕ) (piece : Piece) → is_claimable st level piece ≡ true → is_finished (level_at st level).finished piece ≡ false
unfolding is_claimable
claimable_unfinished st level piece e =
    not-true (is_finished (level_at st level).finished piece) (and_parts (not (is_finished (level_at st level).finished piece)) (not (is_held st level (tile_of_piece st piece))) (and_parts (not (is_finished (level_at st level).finished piece) && not (is_held st level (tile_of_piece st piece))) (not (is_pinned st level (tile_of_piece st piece)) && not (is_some (first_of (held_needs st level piece)))) e).0).0

one_good : (st : State) (level : ℕ) (strip : Region) (piece : Piece) → finest_at st ≤ level → level < length st.levels → strip_at st level ≡ Some strip → Contains (pieces strip) piece → is_claimable st level piece ≡ true → IsGood st (offer_at level piece)
unfolding offer_at
one_good st level strip piece low high at inside e = record {
  used = low;
  there = high;
  piece = subst (λ (o : Option Region). Contains (strip_pieces o) piece) (sym at) inside;
  unfinished = claimable_unfinished st level piece e;
}

good_of : (st : State) (level : ℕ) (strip : Option Region) → finest_at st ≤ level → level < length st.levels → strip_at st level ≡ strip → All (IsGood st) (offers_of st level strip)
unfolding offer_at
good_of st level None low high at = All-nil (IsGood st)
good_of st level (Some strip) low high at =
    cond_both (is_offered st level strip) (map (offer_at level) (filter (is_claimable st level) (pieces strip))) [] (All (IsGood st)) (λ _. All-map (IsGood st) (offer_at level) (filter (is_claimable st level) (pieces strip)) (λ k d inside. one_good st level strip (get_or (filter (is_claimable st level) (pieces strip)) k d) low high at (All-filter (is_claimable st level) (Contains (pieces strip)) (pieces strip) (All-contains_itself (pieces strip)) k d inside) (filter_passes (is_claimable st level) (pieces strip) k d inside))) (λ _. All-nil (IsGood st))

pub offers_good : (st : State) → All (IsGood st) (offers st)
unfolding offers
offers_good st =
    All-flat_map (IsGood st) (λ (level : ℕ). offers_of st level (strip_at st level)) (used_from_coarsest st) (All-reverse (λ (level : ℕ). All (IsGood st) (offers_of st level (strip_at st level))) (levels_used st) (All-range (λ (level : ℕ). All (IsGood st) (offers_of st level (strip_at st level))) (finest_at st) (length st.levels - finest_at st) (λ (level : ℕ) (low : finest_at st ≤ level) (high : level < finest_at st + (length st.levels - finest_at st)). good_of st level (strip_at st level) low (omega arith) refl)))

-- ---- where there is no offer, each level in use is whole
inside_then : (a b c : Region) → IsInside a b → IsInside b c → IsInside a c
inside_then a b c h k = record {
  west = omega (arith, ints);
  columns = k.columns;
  east = omega (arith, ints);
  north = omega (arith, ints);
  rows = k.rows;
  south = omega (arith, ints);
}

used_is : (st : State) (level : ℕ) → finest_at st ≤ level → is_used st level ≡ true
unfolding is_used
used_is st level h = le-leb (finest_at st) level h

strip_if_used : (st : State) (level : ℕ) → finest_at st ≤ level → strip_at st level ≡ current_strip (filled_at st level) (window_at st level)
unfolding strip_at
strip_if_used st level h =
    cond-true (is_used st level) (current_strip (filled_at st level) (window_at st level)) None (used_is st level h)

some_strip : LawsBelow → (st : State) (level : ℕ) → IsSomeSound st → finest_at st ≤ level → is_whole st level ≡ false → is_some (strip_at st level) ≡ true
unfolding is_whole
some_strip known st level s low e =
    ap is_some (strip_if_used st level low) ∙ known.unless_whole st.k level st.x st.y (filled_at st level) (known.filled_in (window_at st level) (filled_at st level) (part_at st level s)) ∙ not_from_false (same_region (filled_at st level) (window_at st level)) e

-- a level in use offers nothing
NoOffer : State → ℕ → Type 0
NoOffer st level = offers_of st level (strip_at st level) ≡ []

no_offer_at : (st : State) (level : ℕ) → first_of (offers st) ≡ None → finest_at st ≤ level → level < length st.levels → NoOffer st level
unfolding offers NoOffer
no_offer_at st level none low high =
    in_reverse (λ (m : ℕ). offers_of st m (strip_at st m) ≡ []) (finest_at st) (length st.levels - finest_at st) level low (omega arith) (each_empty (λ (m : ℕ). offers_of st m (strip_at st m)) (used_from_coarsest st) (first_none (offers st) none))

ripe_if_none_left : (st : State) (level : ℕ) (strip : Region) → strip_at st level ≡ Some strip → filter (λ (piece : Piece). not (is_finished (level_at st level).finished piece)) (pieces strip) ≡ [] → is_ripe st level ≡ true
unfolding is_ripe unfinished_pieces
ripe_if_none_left st level strip at none =
    subst (λ (o : Option Region). (is_some o && (length (filter (λ (piece : Piece). not (is_finished (level_at st level).finished piece)) (strip_pieces o)) == 0)) ≡ true) (sym at) (ap (λ (ps : List Piece). length ps == 0) none)

module _ (known : LawsBelow) (st : State) (rest : IsAtRest st) where
  unfinished_none : (level : ℕ) (strip : Region) → strip_at st level ≡ Some strip → is_offered st level strip ≡ true → NoOffer st level → filter (λ (piece : Piece). not (is_finished (level_at st level).finished piece)) (pieces strip) ≡ []
  unfolding NoOffer offer_at
  unfinished_none level strip at offered none =
      let here : map (offer_at level) (filter (is_claimable st level) (pieces strip)) ≡ [] = sym (cond-true (is_offered st level strip) (map (offer_at level) (filter (is_claimable st level) (pieces strip))) [] offered) ∙ sym (ap (offers_of st level) at) ∙ none in
      sym (filter_agree (is_claimable st level) (λ (piece : Piece). not (is_finished (level_at st level).finished piece)) (claimable_is st rest.free level) (pieces strip)) ∙ map_empty (offer_at level) (filter (is_claimable st level) (pieces strip)) here

  stuck : (level : ℕ) (strip : Option Region) → strip_at st level ≡ strip → is_some strip ≡ true → ((r : Region) → strip_at st level ≡ Some r → is_offered st level r ≡ true) → NoOffer st level → ⊥
  stuck level None at e offered none = true≢false (sym e)
  stuck level (Some strip) at e offered none =
      true≢false (sym (ripe_if_none_left st level strip at (unfinished_none level strip at (offered strip at) none)) ∙ rest.published level)

  whole_if_offered : (level : ℕ) → finest_at st ≤ level → level < length st.levels → first_of (offers st) ≡ None → ((r : Region) → strip_at st level ≡ Some r → is_offered st level r ≡ true) → is_whole st level ≡ true
  whole_if_offered level low high none offered =
      true_from_ne_false (is_whole st level) (λ (e : is_whole st level ≡ false). stuck level (strip_at st level) refl (some_strip known st level (record { bound = rest.bound; sound = rest.sound }) low e) offered (no_offer_at st level none low high))

  offered_coarsest : (level : ℕ) (r : Region) → level + 1 ≡ length st.levels → is_offered st level r ≡ true
  unfolding is_offered
  offered_coarsest level r e =
      or_left (level + 1 == length st.levels) (holds (filled_at st (level + 1)) (need r)) (eq-eqb (level + 1) (length st.levels) e)

  pub window_filled : (level : ℕ) → is_whole st level ≡ true → IsInside (filled_at st level) (window_at st level)
  unfolding is_whole same_region
  window_filled level e =
      let parts : (holds (filled_at st level) (window_at st level) ≡ true) × (holds (window_at st level) (filled_at st level) ≡ true) = and_parts (holds (filled_at st level) (window_at st level)) (holds (window_at st level) (filled_at st level)) e in
      let cell : is_empty (window_at st level) ≡ false = ((known.held (window_at st level) (window_at st level)).0 (known.windows st.k level st.x st.y)).0 in
      (known.held (filled_at st level) (window_at st level)).1 (cell, parts.0)

  offered_finer : (level : ℕ) (r : Region) → is_whole st (level + 1) ≡ true → strip_at st level ≡ Some r → is_offered st level r ≡ true
  unfolding is_offered
  offered_finer level r e at =
      let s : IsSomeSound st = record { bound = rest.bound; sound = rest.sound } in
      let part = part_at st level s in
      let strip : (is_empty r ≡ false) × (holds (window_at st level) r ≡ true) = known.strips st.k level st.x st.y (filled_at st level) r (known.filled_in (window_at st level) (filled_at st level) part) (strip_is st level r at).1 in
      let size : 3 ≤ st.k = omega (arith, rest.sound.size.low) in
      let needed : holds (window_at st (level + 1)) (need r) ≡ true = known.needs st.k level st.x st.y r size strip.0 strip.1 in
      let inner : IsInside (window_at st (level + 1)) (need r) = (known.held (window_at st (level + 1)) (need r)).1 (known.need_cells r strip.0, needed) in
      let outer : IsInside (filled_at st (level + 1)) (need r) = inside_then (filled_at st (level + 1)) (window_at st (level + 1)) (need r) (window_filled (level + 1) e) inner in
      or_right (level + 1 == length st.levels) (holds (filled_at st (level + 1)) (need r)) ((known.held (filled_at st (level + 1)) (need r)).0 outer).1

  whole_from : (d level : ℕ) → level + d + 1 ≡ length st.levels → finest_at st ≤ level → first_of (offers st) ≡ None → is_whole st level ≡ true
  whole_from zero level e low none =
      whole_if_offered level low (omega arith) none (λ (r : Region) (_ : strip_at st level ≡ Some r). offered_coarsest level r (omega arith))
  whole_from (suc d) level e low none =
      let coarser : is_whole st (level + 1) ≡ true = whole_from d (level + 1) (omega arith) (omega arith) none in
      whole_if_offered level low (omega arith) none (λ (r : Region) (at : strip_at st level ≡ Some r). offered_finer level r coarser at)

  settled_if_none : first_of (offers st) ≡ None → is_settled st ≡ true
  unfolding is_settled
  settled_if_none none =
      all_pass (is_whole st) (levels_used st) (All-range (λ (level : ℕ). is_whole st level ≡ true) (finest_at st) (length st.levels - finest_at st) (λ (level : ℕ) (low : finest_at st ≤ level) (high : level < finest_at st + (length st.levels - finest_at st)). whole_from (length st.levels - 1 - level) level (omega arith) low none))

  pub some_offer : is_settled st ≡ false → is_some (first_of (offers st)) ≡ true
  some_offer e =
      true_from_ne_false (is_some (first_of (offers st))) (λ (none : is_some (first_of (offers st)) ≡ false). true≢false (sym (settled_if_none (none_of (first_of (offers st)) none)) ∙ e))
