-- What a claim that is answered with a job finds, and which heights a book can read.
use Rattle.std.proofs.Math.Pow.{pow_mono}
use Rattle.std.proofs.Common.{◌≡◌, ℕ, ◌+◌, ◌<◌, ◌≤◌, Bool, true, false, cond, not, ◌&&◌, ◌==◌, ℤ, pos, negsuc, ◌^◌, nat_lt, List, [], ◌∷◌, map, length, Option, Some, None, is_some, unwrap_or, option_map, option_and_then, refl, ap, sym, ◌∙◌, subst, inl, inr, arith}
use Rattle.std.proofs.lemmas.Bool.{cases_Bool, or_cases, and_from, cond_both, and_parts, not-true, true≢false, eqb-true}
use Rattle.std.proofs.lemmas.List.{get_or-set_same}
use Rattle.std.specs.Option.{option_or}
use Rattle.std.specs.List.{filter, Contains}
use Rattle.clip_regions.specs.declared.region.Region.{Region}
use Rattle.clip_regions.specs.Regions.{contains, holds, is_empty}
use Rattle.terrain_model.specs.Terrain.{Terrain}
use Rattle.plan_model.specs.Blocks.{tile_of, tile_of_cell, tiles_per_side}
use Rattle.plan_model.specs.Window.{torus_side}
use Rattle.plan_model.specs.Laws.{is_refusal, OneTileABlock}
use Rattle.clip_regions.specs.FloorDivision.{floor_div, floor_rem}
use Rattle.strip_planner.proofs.Rings.{less_of}
use Rattle.plan_model.specs.Strips.{first_of, pieces, need}
use Rattle.plan_model.specs.States.{State, level_at, pass_at, with_pass, used_from_coarsest, is_whole, filled_at, has_work, job_of}
use Rattle.plan_model.specs.Tiles.{is_held, IsHeld, is_pinned, tiles_met, tiles, meets_tile, holder, pinner}
use Rattle.plan_model.specs.Claims.{Offer, strip_at, strip_pieces, tile_of_piece, is_finished, held_tiles, held_needs, is_claimable, is_offered, offers_of, offers, no_offer, idle_or_stuck, ripe_or_blocked, blocked, unfinished_pieces, held_answer, busy_answer, needed_answer}
use Rattle.plan_model.specs.Steps.{Step, step, claimed, claimed_job, claim_step, job_answer}
use Rattle.plan_model.specs.declared.tiles.TileId.{TileId}
use Rattle.plan_model.specs.declared.tiles.Piece.{Piece}
use Rattle.plan_model.specs.declared.events.JobNote.{JobNote}
use Rattle.plan_model.specs.declared.events.Work.TheVariants.{Free, Fills}
use Rattle.plan_model.specs.declared.events.Event.TheVariants.{Claim}
use Rattle.plan_model.specs.declared.events.Answer.{Answer}
use Rattle.plan_model.specs.declared.events.Answer.TheVariants.{Idle, Ripe, Busy, Held, HasWork, Job}
use Rattle.plan_laws.specs.Tiles.{TilesMetByCells}
use Rattle.plan_laws.specs.Needs.{NeedsAreMonotone}
use Rattle.plan_laws.specs.Pieces.{PiecesHaveCells, PiecesInRegion}
use Rattle.plan_holds.specs.Kept.{IsKept}
use Rattle.plan_holds.specs.Changes.{DrawnCellsAtHome, IsPinnedAtHome}
use Rattle.plan_holds.proofs.Members.{Among, passed, passing, first_among, none_among, map_of, flat_of, contained, among_all}
use Rattle.plan_holds.proofs.Passes.{used_below, offer_at}
use Rattle.plan_holds.proofs.Places.{meets, tile_there}
use Rattle.plan_holds.proofs.Cells.{held_in}
use Rattle.torus_grid.specs.Grids.{has_tile}
use Rattle.book_cells.specs.Cells.{Cells, HasHeight, HasCells}
use Rattle.book_cells.specs.Laws.{IsClaimed, ClaimsGiveJobs, IsAtHome, DrawnCellsHaveHeights, NeededCellsHaveHeights}

-- ---- what is offered
record IsOffered (st : State) (offer : Offer) : Type 0 where
  there : offer.level < length st.levels
  strip : Region
  current : strip_at st offer.level ≡ Some strip
  piece : Among offer.piece (pieces strip)
  ready : is_offered st offer.level strip ≡ true
  unheld : is_held st offer.level (tile_of_piece st offer.piece) ≡ false
  unneeded : is_some (first_of (held_needs st offer.level offer.piece)) ≡ false

record IsFree (st : State) (level : ℕ) (q : Piece) : Type 0 where
  unheld : is_held st level (tile_of_piece st q) ≡ false
  unneeded : is_some (first_of (held_needs st level q)) ≡ false

is_free : (st : State) (level : ℕ) (q : Piece) → is_claimable st level q ≡ true → IsFree st level q
unfolding is_claimable
is_free st level q t =
    let halves : ((not (is_finished (level_at st level).finished q) && not (is_held st level (tile_of_piece st q))) ≡ true) × ((not (is_pinned st level (tile_of_piece st q)) && not (is_some (first_of (held_needs st level q)))) ≡ true) = and_parts (not (is_finished (level_at st level).finished q) && not (is_held st level (tile_of_piece st q))) (not (is_pinned st level (tile_of_piece st q)) && not (is_some (first_of (held_needs st level q)))) t in
    let first : (not (is_finished (level_at st level).finished q) ≡ true) × (not (is_held st level (tile_of_piece st q)) ≡ true) = and_parts (not (is_finished (level_at st level).finished q)) (not (is_held st level (tile_of_piece st q))) halves.0 in
    let second : (not (is_pinned st level (tile_of_piece st q)) ≡ true) × (not (is_some (first_of (held_needs st level q))) ≡ true) = and_parts (not (is_pinned st level (tile_of_piece st q))) (not (is_some (first_of (held_needs st level q)))) halves.1 in
    record { unheld = not-true (is_held st level (tile_of_piece st q)) first.1; unneeded = not-true (is_some (first_of (held_needs st level q))) second.1 }

offered_of : (st : State) (level : ℕ) (strip : Option Region) (offer : Offer) → level < length st.levels → strip_at st level ≡ strip → Among offer (offers_of st level strip) → IsOffered st offer
offered_of st level None offer l e h = absurd h
offered_of st level (Some strip) offer l e h =
    elim (cases_Bool (is_offered st level strip)) [
      | inl t ↦
          let listed : Among offer (map (offer_at level) (filter (is_claimable st level) (pieces strip))) = subst (λ (b : Bool). Among offer (cond b (map (offer_at level) (filter (is_claimable st level) (pieces strip))) [])) t h in
          let q : (q : Piece) × Among q (filter (is_claimable st level) (pieces strip)) × (offer_at level q ≡ offer) = map_of (offer_at level) (filter (is_claimable st level) (pieces strip)) offer listed in
          let both : Among q.0 (pieces strip) × (is_claimable st level q.0 ≡ true) = passed (is_claimable st level) (pieces strip) q.0 q.1 in
          let free : IsFree st level q.0 = is_free st level q.0 both.1 in
          subst (IsOffered st) q.2 (record { there = l; strip = strip; current = e; piece = both.0; ready = t; unheld = free.unheld; unneeded = free.unneeded })
      | inr f ↦ absurd (subst (λ (b : Bool). Among offer (cond b (map (offer_at level) (filter (is_claimable st level) (pieces strip))) [])) f h)
    ]

offered : (st : State) (offer : Offer) → first_of (offers st) ≡ Some offer → IsOffered st offer
unfolding offers
offered st offer e =
    let level : (level : ℕ) × Among level (used_from_coarsest st) × Among offer (offers_of st level (strip_at st level)) = flat_of (λ level. offers_of st level (strip_at st level)) (used_from_coarsest st) offer (first_among (offers st) offer e) in
    offered_of st level.0 (strip_at st level.0) offer (used_below st level.0 level.1) refl level.2

-- ---- no refusal is a job
abbrev Refuses : Answer → Type 0
Refuses answer = is_refusal answer ≡ true

-- what holds of each answer that a claim can have where nothing is offered
module _ (P : Answer → Type 0) (idle : P Idle) (ripe : (level : ℕ) → P (Ripe level)) (busy : (level : ℕ) (t : TileId) (frame : ℕ) → P (Busy level t frame)) (held : (level : ℕ) (t : TileId) (p : ℕ) → P (Held level t p)) where
  abbrev OfSome : Option Answer → Type 0
  OfSome None = Unit {0}
  OfSome (Some answer) = P answer

  of_first : (a b : Option Answer) → OfSome a → OfSome b → OfSome (option_or a b)
  of_first None b h l = l
  of_first (Some answer) b h l = h

  of_default : (a : Option Answer) → OfSome a → P (unwrap_or a Idle)
  of_default None h = idle
  of_default (Some other) h = h

  of_made : {X : Type 0} (make : X → Answer) (o : Option X) → ((x : X) → P (make x)) → OfSome (option_map make o)
  of_made make None each = tt
  of_made make (Some x) each = each x

  of_next : {X : Type 0} (make : X → Option Answer) (o : Option X) → ((x : X) → OfSome (make x)) → OfSome (option_and_then make o)
  of_next make None each = tt
  of_next make (Some x) each = each x

  of_held : (st : State) (level : ℕ) (t : TileId) → OfSome (held_answer st level t)
  of_held st level t = of_made (Held level t) (holder st level t) (held level t)

  of_blocked : (st : State) (level : ℕ) (piece : Piece) → OfSome (blocked st level piece)
  of_blocked st level piece =
      of_first (held_answer st level (tile_of_piece st piece)) (option_or (busy_answer st level (tile_of_piece st piece)) (needed_answer st level piece)) (of_held st level (tile_of_piece st piece)) (of_first (busy_answer st level (tile_of_piece st piece)) (needed_answer st level piece) (of_made (Busy level (tile_of_piece st piece)) (pinner st level (tile_of_piece st piece)) (busy level (tile_of_piece st piece))) (of_next (held_answer st (level + 1)) (first_of (held_needs st level piece)) (of_held st (level + 1))))

  of_stuck : (st : State) (level : ℕ) (piece : Option Piece) → P (ripe_or_blocked st level piece)
  of_stuck st level None = ripe level
  of_stuck st level (Some piece) = of_default (blocked st level piece) (of_blocked st level piece)

  of_idle : (st : State) (level : Option ℕ) → P (idle_or_stuck st level)
  of_idle st None = idle
  of_idle st (Some level) = of_stuck st level (first_of (unfinished_pieces st level))

  pub of_no_offer : (st : State) → P (no_offer st)
  unfolding no_offer
  of_no_offer st = of_idle st (first_of (filter (λ level. not (is_whole st level)) (used_from_coarsest st)))

no_offer_refuses : (st : State) → Refuses (no_offer st)
no_offer_refuses st = of_no_offer Refuses refl (λ _. refl) (λ _ _ _. refl) (λ _ _ _. refl) st

no_job_refuses : (P : Type 0) (answer : Answer) (job : JobNote) → Refuses answer → answer ≡ job_answer job → P
no_job_refuses P answer job r e = absurd (true≢false (sym r ∙ ap is_refusal e))

-- the job that an answer tells
abbrev note_of : JobNote → Answer → JobNote
note_of default (Job level bx by cells plan) =
    record { level = level; piece = record { bx = bx; by = by; cells = cells }; plan = plan }
note_of default _ = default

-- ---- what a claim that is answered with a job found
record IsFrom (st : State) (p : ℕ) (job : JobNote) (next : Step) : Type 0 where
  free : has_work (pass_at st p) ≡ false
  offer : Offer
  offered : IsOffered st offer
  same : claimed_job st offer ≡ job
  state : next.state ≡ with_pass st p (Fills job)

from_offer : (st : State) (p : ℕ) (job : JobNote) (offer : Option Offer) → has_work (pass_at st p) ≡ false → first_of (offers st) ≡ offer → (claimed st p offer).answer ≡ job_answer job → IsFrom st p job (claimed st p offer)
from_offer st p job None free first e = no_job_refuses _ (no_offer st) job (no_offer_refuses st) e
from_offer st p job (Some offer) free first e =
    let same : claimed_job st offer ≡ job = ap (note_of job) e in
    record { free = free; offer = offer; offered = offered st offer first; same = same; state = ap (λ (j : JobNote). with_pass st p (Fills j)) same }

from_claim : (st : State) (p : ℕ) (job : JobNote) → IsClaimed st p job → IsFrom st p job (step st p Claim)
unfolding claim_step
from_claim st p job =
    cond_both (has_work (pass_at st p)) _ _ (λ (s : Step). s.answer ≡ job_answer job → IsFrom st p job s) (λ _. λ e. no_job_refuses _ HasWork job refl e) (λ free. from_offer st p job (first_of (offers st)) free refl)

-- an offer by the job that it makes
record IsTold (st : State) (job : JobNote) : Type 0 where
  there : job.level < length st.levels
  strip : Region
  current : strip_at st job.level ≡ Some strip
  piece : Among job.piece (pieces strip)
  ready : is_offered st job.level strip ≡ true
  unheld : is_held st job.level (tile_of_piece st job.piece) ≡ false
  unneeded : is_some (first_of (held_needs st job.level job.piece)) ≡ false

told : (st : State) (p : ℕ) (job : JobNote) (next : Step) → IsFrom st p job next → IsTold st job
told st p job next from =
    let o : IsOffered st from.offer = from.offered in
    subst (IsTold st) from.same (record { there = o.there; strip = o.strip; current = o.current; piece = o.piece; ready = o.ready; unheld = o.unheld; unneeded = o.unneeded })

pub claims_give_jobs : ClaimsGiveJobs
claims_give_jobs st p job there claimed =
    let from : IsFrom st p job (step st p Claim) = from_claim st p job claimed in
    let it : IsTold st job = told st p job (step st p Claim) from in
    record {
      free = from.free;
      level = it.there;
      piece = subst (λ (o : Option Region). Contains (strip_pieces o) job.piece) (sym it.current) (contained (pieces it.strip) job.piece it.piece);
      unheld = λ h. true≢false (sym h ∙ it.unheld);
      has = ap (λ (s : State). job_of (pass_at s p)) from.state ∙ ap job_of (get_or-set_same st.passes p (Fills job) Free there);
    }

-- ---- which heights are there
some_of : {X : Type 0} (o : Option X) → is_some o ≡ true → (x : X) × (o ≡ Some x)
some_of None e = absurd (true≢false (sym e))
some_of (Some x) e = (x, refl)

some_tiles : (k : ℕ) → 4 ≤ k → 0 < tiles_per_side k
unfolding tiles_per_side torus_side
some_tiles k h = let large : 2 ^ 4 ≤ 2 ^ k = pow_mono {i = 4} {j = k} h in omega arith

rem_below : (a : ℤ) (d : ℕ) → 0 < d → floor_rem a d < d
unfolding floor_rem
rem_below (pos n) d h = omega arith
rem_below (negsuc n) d h = omega arith

pub block_there : (k : ℕ) (bx by : ℤ) → 4 ≤ k → has_tile k (tile_of k bx by) ≡ true
unfolding has_tile tile_of
block_there k bx by h =
    and_from (nat_lt (floor_rem bx (tiles_per_side k)) (tiles_per_side k)) (nat_lt (floor_rem by (tiles_per_side k)) (tiles_per_side k)) (less_of (floor_rem bx (tiles_per_side k)) (tiles_per_side k) (rem_below bx (tiles_per_side k) (some_tiles k h))) (less_of (floor_rem by (tiles_per_side k)) (tiles_per_side k) (rem_below by (tiles_per_side k) (some_tiles k h)))

cell_there : OneTileABlock → (k : ℕ) (i j : ℤ) → 4 ≤ k → has_tile k (tile_of_cell k i j) ≡ true
cell_there one k i j h =
    ap (has_tile k) (one k i j (omega arith)) ∙ block_there k (floor_div i 8) (floor_div j 8) h

at_home : OneTileABlock → (terrain : Terrain) (st : State) (cells : Cells) (level : ℕ) (i j : ℤ) → IsKept st → HasCells terrain st cells → level < length st.levels → ¬ IsHeld st level (tile_of_cell st.k i j) → HasHeight terrain st cells level i j → IsAtHome terrain st cells level i j
at_home one terrain st cells level i j kept has few free right =
    let it : (x : List ℤ) × (cells.home level (tile_of_cell st.k i j) ≡ Some x) = some_of (cells.home level (tile_of_cell st.k i j)) (has.home level (tile_of_cell st.k i j) few (cell_there one st.k i j kept.size.low) free) in
    record { heights = it.0; home = it.1; right = right.home it.0 it.1 }

pub drawn_cells_have_heights : OneTileABlock → DrawnCellsAtHome → DrawnCellsHaveHeights
drawn_cells_have_heights one drawn terrain st cells p frame level i j kept has h few t =
    let there : IsPinnedAtHome st level (tile_of_cell st.k i j) = drawn st p frame kept h level i j t in
    at_home one terrain st cells level i j kept has few there.1 (has.drawn p frame level i j h t)

-- ---- what a claimed piece needs
pub record NeedLaws : Type 0 where
  pub one_tile : OneTileABlock
  pub monotone : NeedsAreMonotone
  pub have_cells : PiecesHaveCells
  pub in_region : PiecesInRegion
  pub tiles : TilesMetByCells

first_is : {X : Type 0} (xs : List X) → is_some (first_of xs) ≡ false → first_of xs ≡ None
first_is [] e = refl
first_is (x ∷ xs) e = absurd (true≢false e)

unheld_need : NeedLaws → (st : State) (job : JobNote) (i j : ℤ) → IsKept st → IsTold st job → contains (need job.piece.cells) i j ≡ true → ¬ IsHeld st (job.level + 1) (tile_of_cell st.k i j)
unfolding held_tiles tiles_met
unheld_need laws st job i j kept it t held =
    let t' : TileId = tile_of_cell st.k i j in
    let large : 4 ≤ st.k = kept.size.low in
    let here : Among (tile_of_cell st.k i j) (tiles st.k) = subst (λ (u : TileId). Among u (tiles st.k)) (sym (laws.one_tile st.k i j (omega arith))) (tile_there st.k (floor_div i 8) (floor_div j 8) large) in
    let met : Among (tile_of_cell st.k i j) (tiles_met st.k (need job.piece.cells)) = passing (meets_tile st.k (need job.piece.cells)) (tiles st.k) (tile_of_cell st.k i j) here (meets laws.tiles st.k (need job.piece.cells) (tile_of_cell st.k i j) i j (omega arith) t refl) in
    none_among (held_needs st job.level job.piece) (tile_of_cell st.k i j) (first_is (held_needs st job.level job.piece) it.unneeded) (passing (is_held st (job.level + 1)) (tiles_met st.k (need job.piece.cells)) (tile_of_cell st.k i j) met held)

need_filled : NeedLaws → (st : State) (job : JobNote) (i j : ℤ) → IsTold st job → job.level + 1 < length st.levels → contains (need job.piece.cells) i j ≡ true → contains (filled_at st (job.level + 1)) i j ≡ true
unfolding is_offered
need_filled laws st job i j it few t =
    let some : is_empty job.piece.cells ≡ false = among_all (λ (piece : Piece). is_empty piece.cells ≡ false) (pieces it.strip) job.piece (laws.have_cells it.strip) it.piece in
    let inside : holds it.strip job.piece.cells ≡ true = among_all (λ (piece : Piece). holds it.strip piece.cells ≡ true) (pieces it.strip) job.piece (laws.in_region it.strip) it.piece in
    let in_strip : contains (need it.strip) i j ≡ true = held_in (need it.strip) (need job.piece.cells) i j (laws.monotone it.strip job.piece.cells some inside) t in
    elim (or_cases (job.level + 1 == length st.levels) (holds (filled_at st (job.level + 1)) (need it.strip)) it.ready) [
      | inl last ↦ let e : job.level + 1 ≡ length st.levels = eqb-true (job.level + 1) (length st.levels) last in absurd (omega arith)
      | inr h ↦ held_in (filled_at st (job.level + 1)) (need it.strip) i j h in_strip
    ]

pub needed_cells_have_heights : NeedLaws → NeededCellsHaveHeights
needed_cells_have_heights laws terrain st cells p job i j kept has claimed few t =
    let it : IsTold st job = told st p job (step st p Claim) (from_claim st p job claimed) in
    at_home laws.one_tile terrain st cells (job.level + 1) i j kept has few (unheld_need laws st job i j kept it t) (has.done (job.level + 1) i j (inl (need_filled laws st job i j it few t)))
