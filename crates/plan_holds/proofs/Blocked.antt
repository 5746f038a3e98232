-- Where nothing can be claimed, something stands in the way of the first unfinished piece, or every level in use is whole.
use Rattle.std.proofs.Common.{◌≡◌, ℕ, zero, suc, ◌+◌, ◌-◌, ◌<◌, ◌≤◌, Bool, true, false, cond, not, ◌&&◌, ◌==◌, List, [], ◌∷◌, ◌++◌, map, reverse, length, Option, Some, None, is_some, unwrap_or, option_map, refl, ap, sym, ◌∙◌, subst, inl, inr, ◌⊎◌, arith}
use Rattle.std.proofs.lemmas.Bool.{cases_Bool, cases_eq, cond_both, cond-false, and_parts, and_from, eq-eqb, or_left, or_right, not-true, not-false, not_from_false, true≢false, true_from_ne_false}
use Rattle.std.proofs.lemmas.List.{reverse-append}
use Rattle.std.specs.List.{filter, range_with_len, list_all}
use Rattle.std.specs.Option.{option_or, option_and_then}
use Rattle.clip_regions.specs.declared.region.Region.{Region}
use Rattle.clip_regions.specs.Regions.{holds, is_empty}
use Rattle.plan_model.specs.Strips.{first_of, current_strip, pieces, need}
use Rattle.plan_model.specs.States.{State, OpenFrame, Pass, level_at, pass_at, filled_at, window_at, is_used, finest_at, levels_used, used_from_coarsest, same_region, is_whole, job_of, frame_of, has_work}
use Rattle.plan_model.specs.Tiles.{meets_tile, holder, is_held, pinner, is_pinned}
use Rattle.plan_model.specs.Claims.{Offer, strip_at, pieces_at, unfinished_pieces, is_finished, held_needs, held_tiles, tile_of_piece, is_claimable, is_offered, offers_of, offers, held_answer, busy_answer, needed_answer, blocked, ripe_or_blocked, idle_or_stuck, no_offer}
use Rattle.plan_model.specs.Steps.{Step, claimed, claim_step}
use Rattle.plan_model.specs.Rounds.{is_settled}
use Rattle.plan_model.specs.declared.tiles.TileId.{TileId}
use Rattle.plan_model.specs.declared.tiles.Piece.{Piece}
use Rattle.plan_model.specs.declared.events.JobNote.{JobNote}
use Rattle.plan_model.specs.declared.events.Work.TheVariants.{Free, Fills, Draws}
use Rattle.plan_model.specs.declared.events.Answer.{Answer}
use Rattle.plan_model.specs.declared.events.Answer.TheVariants.{Job, Idle, Ripe, Busy, Held}
use Rattle.plan_laws.specs.Needs.{NeedsInCoarserWindows}
use Rattle.plan_laws.specs.Hulls.{StripsInWindows, StripsUnlessWhole}
use Rattle.plan_holds.specs.Kept.{HasJob, HasFrame, HoldsTile, active_in, IsKept}
use Rattle.plan_holds.specs.Stuck.{coarsest_lacking, IsAtRest, StuckPiecesAreBlocked, RestedPiecesAreOffered, IdleWhereSettled}
use Rattle.plan_holds.proofs.Members.{Among, passed, passing, first_among, none_among, mapped, flat, flat_of, ranged_of, reversed, reversed_of}
use Rattle.plan_holds.proofs.Cells.{held_in, holding}
use Rattle.plan_holds.proofs.Parts.{tile, strip_of}
use Rattle.plan_holds.proofs.Tiles.{some_first, held_by_job, holder_of, pinned_by}
use Rattle.plan_holds.proofs.Core.{unfinished, first_strip}
use Rattle.plan_holds.proofs.Passes.{offer_at, used_below}

-- what these proofs stand on
pub record Known : Type 0 where
  pub needs : NeedsInCoarserWindows
  pub strips : StripsInWindows
  pub whole : StripsUnlessWhole

-- ---- the first of a list of levels from the coarsest
range_end : (a n : ℕ) → range_with_len a (suc n) ≡ range_with_len a n ++ (a + n) ∷ []
range_end a zero = ap (λ (i : ℕ). i ∷ []) (let e : a ≡ a + 0 = omega arith in e)
range_end a (suc n) =
    ap (λ (l : List ℕ). a ∷ l) (range_end (a + 1) n ∙ ap (λ (i : ℕ). range_with_len (a + 1) n ++ i ∷ []) (let e : a + 1 + n ≡ a + suc n = omega arith in e))

downwards : (a n : ℕ) → reverse (range_with_len a (suc n)) ≡ (a + n) ∷ reverse (range_with_len a n)
downwards a n = ap reverse (range_end a n) ∙ reverse-append (range_with_len a n) ((a + n) ∷ [])

-- the levels above the first that passes don't pass
above_first : (p : ℕ → Bool) (a n level m : ℕ) → first_of (filter p (reverse (range_with_len a n))) ≡ Some level → level < m → m < a + n → p m ≡ false
above_first p a zero level m e low high = let none : None ≡ Some level = e in absurd (cc)
above_first p a (suc n) level m e low high =
    let first : first_of (cond (p (a + n)) ((a + n) ∷ filter p (reverse (range_with_len a n))) (filter p (reverse (range_with_len a n)))) ≡ Some level = sym (ap (λ (l : List ℕ). first_of (filter p l)) (downwards a n)) ∙ e in
    elim (cases_Bool (p (a + n))) [
      | inl t ↦
          let here : Some (a + n) ≡ Some level = subst (λ (b : Bool). first_of (cond b ((a + n) ∷ filter p (reverse (range_with_len a n))) (filter p (reverse (range_with_len a n)))) ≡ Some level) t first in
          let same : a + n ≡ level = cc in
          absurd (omega arith)
      | inr f ↦
          let later : first_of (filter p (reverse (range_with_len a n))) ≡ Some level = subst (λ (b : Bool). first_of (cond b ((a + n) ∷ filter p (reverse (range_with_len a n))) (filter p (reverse (range_with_len a n)))) ≡ Some level) f first in
          elim (cases_eq m (a + n)) [
            | inl same ↦ subst (λ (i : ℕ). p i ≡ false) (sym same) f
            | inr other ↦ above_first p a n level m later low (omega arith)
          ]
    ]

-- ---- what blocks a piece
neither : {X : Type 0} (a b : Option X) → option_or a b ≡ None → (a ≡ None) × (b ≡ None)
neither None b e = (refl, e)
neither (Some x) b e = cc

no_source : {X Y : Type 0} (f : X → Y) (o : Option X) → option_map f o ≡ None → o ≡ None
no_source f None e = refl
no_source f (Some x) e = cc

unheld : (st : State) (level : ℕ) (t : TileId) → held_answer st level t ≡ None → is_held st level t ≡ false
unfolding is_held
unheld st level t e = ap (λ (o : Option ℕ). is_some o) (no_source (Held level t) (holder st level t) e)

unpinned : (st : State) (level : ℕ) (t : TileId) → busy_answer st level t ≡ None → is_pinned st level t ≡ false
unfolding is_pinned
unpinned st level t e = ap (λ (o : Option ℕ). is_some o) (no_source (Busy level t) (pinner st level t) e)

unneeded_of : (st : State) (level : ℕ) (held : List TileId) → ((t : TileId) → Among t held → is_held st level t ≡ true) → option_and_then (held_answer st level) (first_of held) ≡ None → is_some (first_of held) ≡ false
unneeded_of st level [] each e = refl
unneeded_of st level (t ∷ held) each e = absurd (true≢false (sym (each t (inl refl)) ∙ unheld st level t e))

needs_held : (st : State) (level : ℕ) (r : Region) (t : TileId) → Among t (held_tiles st level r) → is_held st level t ≡ true
unfolding held_tiles
needs_held st level r t h = (passed (is_held st level) _ t h).1

unneeded : (st : State) (level : ℕ) (piece : Piece) → needed_answer st level piece ≡ None → is_some (first_of (held_needs st level piece)) ≡ false
unneeded st level piece e =
    unneeded_of st (level + 1) (held_needs st level piece) (λ t h. needs_held st (level + 1) (need piece.cells) t h) e

unblocked : (st : State) (level : ℕ) (piece : Piece) → is_finished (level_at st level).finished piece ≡ false → blocked st level piece ≡ None → is_claimable st level piece ≡ true
unfolding is_claimable
unblocked st level piece new e =
    let first : (held_answer st level (tile_of_piece st piece) ≡ None) × (option_or (busy_answer st level (tile_of_piece st piece)) (needed_answer st level piece) ≡ None) = neither (held_answer st level (tile_of_piece st piece)) (option_or (busy_answer st level (tile_of_piece st piece)) (needed_answer st level piece)) e in
    let second : (busy_answer st level (tile_of_piece st piece) ≡ None) × (needed_answer st level piece ≡ None) = neither (busy_answer st level (tile_of_piece st piece)) (needed_answer st level piece) first.1 in
    and_from (not (is_finished (level_at st level).finished piece) && not (is_held st level (tile_of_piece st piece))) (not (is_pinned st level (tile_of_piece st piece)) && not (is_some (first_of (held_needs st level piece)))) (and_from (not (is_finished (level_at st level).finished piece)) (not (is_held st level (tile_of_piece st piece))) (not_from_false (is_finished (level_at st level).finished piece) new) (not_from_false (is_held st level (tile_of_piece st piece)) (unheld st level (tile_of_piece st piece) first.0))) (and_from (not (is_pinned st level (tile_of_piece st piece))) (not (is_some (first_of (held_needs st level piece)))) (not_from_false (is_pinned st level (tile_of_piece st piece)) (unpinned st level (tile_of_piece st piece) second.0)) (not_from_false (is_some (first_of (held_needs st level piece))) (unneeded st level piece second.1)))

-- ---- the strip of the coarsest level that isn't whole is offered
whole_holds : (st : State) (level : ℕ) → is_whole st level ≡ true → holds (filled_at st level) (window_at st level) ≡ true
unfolding is_whole same_region
whole_holds st level t = (and_parts (holds (filled_at st level) (window_at st level)) (holds (window_at st level) (filled_at st level)) t).0

holds_both : (a b c : Region) → holds a b ≡ true → holds b c ≡ true → holds a c ≡ true
holds_both a b c h g = holding a c (λ i j t. held_in a b i j h (held_in b c i j g t))

next_whole : (st : State) (level : ℕ) → coarsest_lacking st ≡ Some level → level + 1 < length st.levels → is_whole st (level + 1) ≡ true
next_whole st level e h =
    let both : Among level (used_from_coarsest st) × (not (is_whole st level) ≡ true) = passed (λ n. not (is_whole st n)) (used_from_coarsest st) level (first_among (filter (λ n. not (is_whole st n)) (used_from_coarsest st)) level e) in
    let used : (finest_at st ≤ level) × (level < finest_at st + (length st.levels - finest_at st)) = ranged_of (finest_at st) (length st.levels - finest_at st) level (reversed_of (range_with_len (finest_at st) (length st.levels - finest_at st)) level both.0) in
    let low : finest_at st ≤ level = used.0 in
    not-false (is_whole st (level + 1)) (above_first (λ n. not (is_whole st n)) (finest_at st) (length st.levels - finest_at st) level (level + 1) e (omega arith) (omega arith))

strip_offered : Known → (st : State) (level : ℕ) (s : Region) → IsKept st → level < length st.levels → coarsest_lacking st ≡ Some level → strip_at st level ≡ Some s → is_offered st level s ≡ true
unfolding is_offered
strip_offered known st level s kept h e at =
    elim (cases_eq (level + 1) (length st.levels)) [
      | inl last ↦ or_left (level + 1 == length st.levels) (holds (filled_at st (level + 1)) (need s)) (eq-eqb (level + 1) (length st.levels) last)
      | inr other ↦
          let large : 4 ≤ st.k = kept.size.low in
          let strip : (is_empty s ≡ false) × (holds (window_at st level) s ≡ true) = known.strips st.k level st.x st.y (filled_at st level) s (kept.inside level h) (first_strip st level s at) in
          let needed : holds (window_at st (level + 1)) (need s) ≡ true = known.needs st.k level st.x st.y s (omega arith) strip.0 strip.1 in
          or_right (level + 1 == length st.levels) (holds (filled_at st (level + 1)) (need s)) (holds_both (filled_at st (level + 1)) (window_at st (level + 1)) (need s) (whole_holds st (level + 1) (next_whole st level e (omega arith))) needed)
    ]

offer_there : (st : State) (level : ℕ) (s : Region) (piece : Piece) → is_offered st level s ≡ true → Among piece (pieces s) → is_claimable st level piece ≡ true → Among (offer_at level piece) (offers_of st level (Some s))
offer_there st level s piece o h t =
    subst (λ (b : Bool). Among (offer_at level piece) (cond b (map (offer_at level) (filter (is_claimable st level) (pieces s))) [])) (sym o) (mapped (offer_at level) (filter (is_claimable st level) (pieces s)) piece (passing (is_claimable st level) (pieces s) piece h t))

offer_among : (st : State) (level : ℕ) (offer : Offer) → Among level (used_from_coarsest st) → Among offer (offers_of st level (strip_at st level)) → Among offer (offers st)
unfolding offers
offer_among st level offer h g =
    flat (λ n. offers_of st n (strip_at st n)) (used_from_coarsest st) level offer h g

-- the first unfinished piece of that level is offered, unless something blocks it
unblocked_offer : Known → (st : State) (level : ℕ) (piece : Piece) → IsKept st → coarsest_lacking st ≡ Some level → first_of (unfinished_pieces st level) ≡ Some piece → blocked st level piece ≡ None → Among (offer_at level piece) (offers st)
unblocked_offer known st level piece kept e first none =
    let used : Among level (used_from_coarsest st) = (passed (λ n. not (is_whole st n)) (used_from_coarsest st) level (first_among (filter (λ n. not (is_whole st n)) (used_from_coarsest st)) level e)).0 in
    let new : Among piece (pieces_at st level) × (is_finished (level_at st level).finished piece ≡ false) = unfinished st level piece (first_among (unfinished_pieces st level) piece first) in
    let s : (s : Region) × (strip_at st level ≡ Some s) × Among piece (pieces s) = strip_of (strip_at st level) piece new.0 in
    offer_among st level (offer_at level piece) used (subst (λ (o : Option Region). Among (offer_at level piece) (offers_of st level o)) (sym s.1) (offer_there st level s.0 piece (strip_offered known st level s.0 kept (used_below st level used) e s.1) s.2 (unblocked st level piece new.1 none)))

none_or_some : {X : Type 0} (o : Option X) → (o ≡ None) ⊎ (is_some o ≡ true)
none_or_some None = inl refl
none_or_some (Some x) = inr refl

pub stuck_pieces : Known → StuckPiecesAreBlocked
stuck_pieces known st level piece kept waits stuck =
    elim (none_or_some (blocked st level piece)) [
      | inl free ↦ absurd (stuck (some_first (offers st) (offer_at level piece) (unblocked_offer known st level piece kept waits.lacking waits.first free)))
      | inr t ↦ t
    ]

-- ---- where no pass has work, nothing is held or pinned
no_work : (w : Pass) → has_work w ≡ false → (job_of w ≡ None) × (frame_of w ≡ None)
no_work Free e = (refl, refl)
no_work (Fills job) e = absurd (true≢false e)
no_work (Draws frame) e = absurd (true≢false e)

none_is_held : (st : State) (level : ℕ) (t : TileId) → IsAtRest st → holder st level t ≡ None
unfolding is_held
none_is_held st level t rest =
    elim (none_or_some (holder st level t)) [
      | inl none ↦ none
      | inr held ↦
          let p : (p : ℕ) × HoldsTile st p level t = holder_of st level t held in
          let a : (job : JobNote) × HasJob st p.0 job × (job.level ≡ level) × (tile st.k job.piece ≡ t) = held_by_job st p.0 level t p.1 in
          let none : None ≡ Some a.0 = sym (no_work (pass_at st p.0) (rest p.0)).0 ∙ a.1 in
          absurd (cc)
    ]

none_is_pinned : (st : State) (level : ℕ) (t : TileId) → IsAtRest st → pinner st level t ≡ None
unfolding is_pinned
none_is_pinned st level t rest =
    elim (none_or_some (pinner st level t)) [
      | inl none ↦ none
      | inr pinned ↦
          let q : (q : ℕ) × (frame : OpenFrame) × HasFrame st q frame × (meets_tile st.k (active_in frame level) t ≡ true) = pinned_by st level t pinned in
          let none : None ≡ Some q.1 = sym (no_work (pass_at st q.0) (rest q.0)).1 ∙ q.2 in
          absurd (cc)
    ]

none_needed : (st : State) (level : ℕ) (o : Option TileId) → IsAtRest st → option_and_then (held_answer st level) o ≡ None
none_needed st level None rest = refl
none_needed st level (Some t) rest = ap (option_map (Held level t)) (none_is_held st level t rest)

none_blocked : (st : State) (level : ℕ) (piece : Piece) → IsAtRest st → blocked st level piece ≡ None
none_blocked st level piece rest =
    ap (λ (o : Option ℕ). option_or (option_map (Held level (tile_of_piece st piece)) o) (option_or (busy_answer st level (tile_of_piece st piece)) (needed_answer st level piece))) (none_is_held st level (tile_of_piece st piece) rest) ∙ ap (λ (o : Option ℕ). option_or (option_map (Busy level (tile_of_piece st piece)) o) (needed_answer st level piece)) (none_is_pinned st level (tile_of_piece st piece) rest) ∙ none_needed st (level + 1) (first_of (held_needs st level piece)) rest

pub rested_pieces : Known → RestedPiecesAreOffered
rested_pieces known st level piece kept waits rest =
    some_first (offers st) (offer_at level piece) (unblocked_offer known st level piece kept waits.lacking waits.first (none_blocked st level piece rest))

-- ---- an answer Idle
-- no answer that something blocks a piece is Idle
abbrev IsBlocking : Option Answer → Type 0
IsBlocking o = (answer : Answer) → o ≡ Some answer → answer ≡ Idle → ⊥

held_blocking : (st : State) (level : ℕ) (t : TileId) (o : Option ℕ) → IsBlocking (option_map (Held level t) o)
held_blocking st level t None answer e i = let none : None ≡ Some answer = e in cc
held_blocking st level t (Some p) answer e i = let some : Some (Held level t p) ≡ Some answer = e in cc

busy_blocking : (st : State) (level : ℕ) (t : TileId) (o : Option ℕ) → IsBlocking (option_map (Busy level t) o)
busy_blocking st level t None answer e i = let none : None ≡ Some answer = e in cc
busy_blocking st level t (Some f) answer e i = let some : Some (Busy level t f) ≡ Some answer = e in cc

either_blocking : (a b : Option Answer) → IsBlocking a → IsBlocking b → IsBlocking (option_or a b)
either_blocking None b h g = g
either_blocking (Some x) b h g = h

needed_blocking : (st : State) (level : ℕ) (o : Option TileId) → IsBlocking (option_and_then (held_answer st level) o)
needed_blocking st level None answer e i = let none : None ≡ Some answer = e in cc
needed_blocking st level (Some t) answer e i = held_blocking st level t (holder st level t) answer e i

blocked_blocking : (st : State) (level : ℕ) (piece : Piece) → IsBlocking (blocked st level piece)
blocked_blocking st level piece =
    either_blocking (held_answer st level (tile_of_piece st piece)) (option_or (busy_answer st level (tile_of_piece st piece)) (needed_answer st level piece)) (held_blocking st level (tile_of_piece st piece) (holder st level (tile_of_piece st piece))) (either_blocking (busy_answer st level (tile_of_piece st piece)) (needed_answer st level piece) (busy_blocking st level (tile_of_piece st piece) (pinner st level (tile_of_piece st piece))) (needed_blocking st (level + 1) (first_of (held_needs st level piece))))

blocked_not_idle : (o : Option Answer) → is_some o ≡ true → IsBlocking o → unwrap_or o Idle ≡ Idle → ⊥
blocked_not_idle None t h i = true≢false (sym t)
blocked_not_idle (Some answer) t h i = h answer refl i

stuck_not_idle : Known → (st : State) (level : ℕ) (first : Option Piece) → IsKept st → first_of (offers st) ≡ None → coarsest_lacking st ≡ Some level → first_of (unfinished_pieces st level) ≡ first → ripe_or_blocked st level first ≡ Idle → ⊥
stuck_not_idle known st level None kept none e first i = let ripe : Ripe level ≡ Idle = i in cc
stuck_not_idle known st level (Some piece) kept none e first i =
    blocked_not_idle (blocked st level piece) (stuck_pieces known st level piece kept (record { lacking = e; first = first }) (λ t. true≢false (sym t ∙ ap (λ (o : Option Offer). is_some o) none))) (blocked_blocking st level piece) i

-- every level in use is whole
all_from : {X : Type 0} (p : X → Bool) (xs : List X) → ((x : X) → Among x xs → p x ≡ true) → list_all p xs ≡ true
all_from p [] each = refl
all_from p (x ∷ xs) each = and_from (p x) (list_all p xs) (each x (inl refl)) (all_from p xs (λ y h. each y (inr h)))

all_of : {X : Type 0} (p : X → Bool) (xs : List X) (x : X) → list_all p xs ≡ true → Among x xs → p x ≡ true
all_of p [] x t h = absurd h
all_of p (y ∷ xs) x t (inl e) = sym (ap p e) ∙ (and_parts (p y) (list_all p xs) t).0
all_of p (y ∷ xs) x t (inr h) = all_of p xs x (and_parts (p y) (list_all p xs) t).1 h

settled_from : (st : State) → coarsest_lacking st ≡ None → is_settled st ≡ true
unfolding is_settled
settled_from st e =
    all_from (is_whole st) (levels_used st) (λ level h. true_from_ne_false (is_whole st level) (λ f. none_among (filter (λ n. not (is_whole st n)) (used_from_coarsest st)) level e (passing (λ n. not (is_whole st n)) (used_from_coarsest st) level (reversed (levels_used st) level h) (not_from_false (is_whole st level) f))))

stuck_settled : Known → (st : State) (lacking : Option ℕ) → IsKept st → first_of (offers st) ≡ None → coarsest_lacking st ≡ lacking → idle_or_stuck st lacking ≡ Idle → is_settled st ≡ true
stuck_settled known st None kept none e i = settled_from st e
stuck_settled known st (Some level) kept none e i =
    absurd (stuck_not_idle known st level (first_of (unfinished_pieces st level)) kept none e refl i)

idle_settled : Known → (st : State) (p : ℕ) (offer : Option Offer) → IsKept st → first_of (offers st) ≡ offer → (claimed st p offer).answer ≡ Idle → is_settled st ≡ true
unfolding no_offer
idle_settled known st p None kept e i = stuck_settled known st (coarsest_lacking st) kept e refl i
idle_settled known st p (Some offer) kept e i = let job : Job offer.level offer.piece.bx offer.piece.by offer.piece.cells (level_at st offer.level).plan ≡ Idle = i in cc

-- and where every level in use is whole, there is nothing to claim
whole_in_use : (st : State) (level : ℕ) → is_settled st ≡ true → Among level (used_from_coarsest st) → is_whole st level ≡ true
unfolding is_settled
whole_in_use st level t h = all_of (is_whole st) (levels_used st) level t (reversed_of (levels_used st) level h)

none_from : {X : Type 0} (o : Option X) → is_some o ≡ false → o ≡ None
none_from None e = refl
none_from (Some x) e = absurd (true≢false e)

no_strip : Known → (st : State) (level : ℕ) → IsKept st → level < length st.levels → is_whole st level ≡ true → strip_at st level ≡ None
unfolding strip_at is_whole
no_strip known st level kept h t =
    cond_both (is_used st level) (current_strip (filled_at st level) (window_at st level)) None (λ (o : Option Region). o ≡ None) (λ _. none_from (current_strip (filled_at st level) (window_at st level)) (known.whole st.k level st.x st.y (filled_at st level) (kept.inside level h) ∙ ap not t)) (λ _. refl)

no_offer_of : (st : State) (level : ℕ) (offer : Offer) (strip : Option Region) → strip ≡ None → Among offer (offers_of st level strip) → ⊥
no_offer_of st level offer None e h = h
no_offer_of st level offer (Some s) e h = cc

no_first : {X : Type 0} (xs : List X) → ((x : X) → Among x xs → ⊥) → first_of xs ≡ None
no_first [] none = refl
no_first (x ∷ xs) none = absurd (none x (inl refl))

no_offers : Known → (st : State) → IsKept st → is_settled st ≡ true → first_of (offers st) ≡ None
unfolding offers
no_offers known st kept t =
    no_first (offers st) (λ offer h. let level : (level : ℕ) × Among level (used_from_coarsest st) × Among offer (offers_of st level (strip_at st level)) = flat_of (λ n. offers_of st n (strip_at st n)) (used_from_coarsest st) offer h in no_offer_of st level.0 offer (strip_at st level.0) (no_strip known st level.0 kept (used_below st level.0 level.1) (whole_in_use st level.0 t level.1)) level.2)

none_lacking : (st : State) → is_settled st ≡ true → coarsest_lacking st ≡ None
none_lacking st t =
    no_first (filter (λ n. not (is_whole st n)) (used_from_coarsest st)) (λ level h. let both : Among level (used_from_coarsest st) × (not (is_whole st level) ≡ true) = passed (λ n. not (is_whole st n)) (used_from_coarsest st) level h in true≢false (sym (whole_in_use st level t both.0) ∙ not-true (is_whole st level) both.1))

settled_idle : Known → (st : State) (p : ℕ) → IsKept st → is_settled st ≡ true → (claimed st p (first_of (offers st))).answer ≡ Idle
unfolding no_offer
settled_idle known st p kept t =
    ap (λ (o : Option Offer). (claimed st p o).answer) (no_offers known st kept t) ∙ ap (idle_or_stuck st) (none_lacking st t)

claims_there : (st : State) (p : ℕ) → has_work (pass_at st p) ≡ false → claim_step st p ≡ claimed st p (first_of (offers st))
unfolding claim_step
claims_there st p e = cond-false (has_work (pass_at st p)) _ (claimed st p (first_of (offers st))) e

pub idle_where_settled : Known → IdleWhereSettled
idle_where_settled known st p kept free =
    let same : (claim_step st p).answer ≡ (claimed st p (first_of (offers st))).answer = ap (λ (s : Step). s.answer) (claims_there st p free) in
    (λ i. idle_settled known st p (first_of (offers st)) kept refl (sym same ∙ i), λ t. same ∙ settled_idle known st p kept t)
