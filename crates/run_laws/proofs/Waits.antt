-- A claim that is answered Busy waits for an open frame: by cases of what a claim finds.
use Rattle.std.proofs.Common.{◌≡◌, ℕ, ◌+◌, Bool, true, false, cond, List, [], ◌∷◌, fold, min, Option, Some, None, option_map, unwrap_or, refl, ap, sym, ◌∙◌, subst, inl, inr, ◌⊎◌, arith}
use Rattle.std.proofs.lemmas.Bool.{cases_Bool, cases_lt}
use Rattle.std.proofs.lemmas.List.{get_or_default}
use Rattle.std.specs.List.{Contains, flat_map}
use Rattle.std.specs.Option.{option_or, option_and_then}
use Rattle.plan_model.specs.Strips.{first_of}
use Rattle.plan_model.specs.States.{State, OpenFrame, Pass, frame_of, has_work, pass_at}
use Rattle.plan_model.specs.Tiles.{holder, lesser, meets_tile, pinner, pinning_frames, pins_of}
use Rattle.plan_model.specs.Claims.{Offer, busy_answer, held_answer, held_needs, idle_or_stuck, needed_answer, no_offer, offers, ripe_or_blocked, tile_of_piece, unfinished_pieces}
use Rattle.plan_model.specs.Steps.{claim_step, claimed, claimed_job, job_answer, unchanged}
use Rattle.plan_model.specs.declared.tiles.TileId.{TileId}
use Rattle.plan_model.specs.declared.tiles.Piece.{Piece}
use Rattle.plan_model.specs.declared.events.Answer.{Answer}
use Rattle.plan_model.specs.declared.events.Answer.TheVariants.{Busy, Held, HasWork, Idle, Ripe}
use Rattle.plan_model.specs.declared.events.Work.TheVariants.{Free}
use Rattle.plan_holds.specs.Kept.{active_in}
use Rattle.plan_holds.specs.Stuck.{coarsest_lacking}
use Rattle.plan_holds.proofs.Members.{Among, contained, flat_of}
use Rattle.run_laws.specs.Busy.{BusyClaimsWaitForFrames, IsBusyWith, IsPinnedByFrame}

-- ---- the frame that pins a tile
lesser_is : (m x : ℕ) → (min m x ≡ m) ⊎ (min m x ≡ x)
lesser_is m x =
    elim (cases_lt m x) [
      | inl below ↦ inl (omega (arith, below))
      | inr above ↦ inr (omega (arith, above))
    ]

least_is : (o : Option ℕ) (xs : List ℕ) (n : ℕ) → fold lesser o xs ≡ Some n → (o ≡ Some n) ⊎ Among n xs
least_is o [] n e = inl e
least_is None (x ∷ xs) n e =
    elim (least_is (Some x) xs n e) [
      | inl first ↦ let some : Some x ≡ Some n = first in inr (inl (cc))
      | inr later ↦ inr (inr later)
    ]
least_is (Some m) (x ∷ xs) n e =
    elim (least_is (Some (min m x)) xs n e) [
      | inl first ↦
          let some : Some (min m x) ≡ Some n = first in
          let is : min m x ≡ n = cc in
          elim (lesser_is m x) [
            | inl left ↦ inl (ap Some (sym left ∙ is))
            | inr right ↦ inr (inl (sym right ∙ is))
          ]
      | inr later ↦ inr (inr later)
    ]

frame_pins : (k level : ℕ) (t : TileId) (o : Option OpenFrame) (n : ℕ) → Among n (pins_of k level t o) → (frame : OpenFrame) × (o ≡ Some frame) × (frame.number ≡ n) × (meets_tile k (active_in frame level) t ≡ true)
frame_pins k level t None n h = absurd h
frame_pins k level t (Some frame) n h =
    elim (cases_Bool (meets_tile k (active_in frame level) t)) [
      | inl meets ↦
          elim (subst (λ (b : Bool). Among n (cond b (frame.number ∷ []) [])) meets h) [
            | inl is ↦ (frame, refl, is, meets)
            | inr none ↦ absurd none
          ]
      | inr apart ↦ absurd (subst (λ (b : Bool). Among n (cond b (frame.number ∷ []) [])) apart h)
    ]

pinned_by : (st : State) (level : ℕ) (t : TileId) (n : ℕ) → pinner st level t ≡ Some n → IsPinnedByFrame st level t n
unfolding pinner pinning_frames
pinned_by st level t n e =
    elim (least_is None (flat_map (λ (pass : Pass). pins_of st.k level t (frame_of pass)) st.passes) n e) [
      | inl none ↦ let no : None ≡ Some n = none in absurd (cc)
      | inr among ↦
          let pass : (pass : Pass) × Among pass st.passes × Among n (pins_of st.k level t (frame_of pass)) = flat_of (λ (pass : Pass). pins_of st.k level t (frame_of pass)) st.passes n among in
          let at : Contains st.passes pass.0 = contained st.passes pass.0 pass.1 in
          let frame : (frame : OpenFrame) × (frame_of pass.0 ≡ Some frame) × (frame.number ≡ n) × (meets_tile st.k (active_in frame level) t ≡ true) = frame_pins st.k level t (frame_of pass.0) n pass.2 in
          record {
            pass = at.0;
            frame = frame.0;
            has = ap frame_of (get_or_default st.passes at.0 Free pass.0 at.1 ∙ at.2) ∙ frame.1;
            numbered = frame.2;
            meets = frame.3;
          }
    ]

-- ---- what a claim is answered
-- the answer is that a tile is busy with a frame
abbrev IsBusy : Answer → ℕ → TileId → ℕ → Type 0
IsBusy answer level t n = answer ≡ Busy level t n

-- of a piece that is blocked
module _ (st : State) (at : ℕ) (piece : Piece) (level : ℕ) (t : TileId) (n : ℕ) where
  abbrev Found : Type 0
  Found = (at ≡ level) × (tile_of_piece st piece ≡ t) × (pinner st at (tile_of_piece st piece) ≡ Some n)

  -- where no coarser tile that it needs counts
  held_isnt : (l : ℕ) (tile : TileId) (o : Option ℕ) → IsBusy (unwrap_or (option_map (Held l tile) o) Idle) level t n → ⊥
  held_isnt l tile None e = let no : Idle ≡ Busy level t n = e in cc
  held_isnt l tile (Some q) e = let no : Held l tile q ≡ Busy level t n = e in cc

  needed_isnt : (o : Option TileId) → IsBusy (unwrap_or (option_and_then (held_answer st (at + 1)) o) Idle) level t n → ⊥
  needed_isnt None e = let no : Idle ≡ Busy level t n = e in cc
  needed_isnt (Some tile) e = held_isnt (at + 1) tile (holder st (at + 1) tile) e

  busy_is : (o : Option ℕ) → pinner st at (tile_of_piece st piece) ≡ o → IsBusy (unwrap_or (option_or (option_map (Busy at (tile_of_piece st piece)) o) (needed_answer st at piece)) Idle) level t n → Found
  busy_is None is e = absurd (needed_isnt (first_of (held_needs st at piece)) e)
  busy_is (Some m) is e =
      let same : Busy at (tile_of_piece st piece) m ≡ Busy level t n = e in
      let number : m ≡ n = cc in
      (cc, cc, is ∙ ap Some number)

  blocked_is : (o : Option ℕ) → IsBusy (unwrap_or (option_or (option_map (Held at (tile_of_piece st piece)) o) (option_or (busy_answer st at (tile_of_piece st piece)) (needed_answer st at piece))) Idle) level t n → Found
  blocked_is None e = busy_is (pinner st at (tile_of_piece st piece)) refl e
  blocked_is (Some q) e = let no : Held at (tile_of_piece st piece) q ≡ Busy level t n = e in absurd (cc)

module _ (st : State) (level : ℕ) (t : TileId) (n : ℕ) where
  of_piece : (at : ℕ) → coarsest_lacking st ≡ Some at → (o : Option Piece) → first_of (unfinished_pieces st at) ≡ o → IsBusy (ripe_or_blocked st at o) level t n → IsBusyWith st level t n
  of_piece at lacks None none e = let no : Ripe at ≡ Busy level t n = e in absurd (cc)
  of_piece at lacks (Some piece) first e =
      let found : Found st at piece level t n = blocked_is st at piece level t n (holder st at (tile_of_piece st piece)) e in
      let pinned : IsPinnedByFrame st at (tile_of_piece st piece) n = pinned_by st at (tile_of_piece st piece) n found.2 in
      let there : IsBusyWith st at (tile_of_piece st piece) n = record { piece = piece; waits = record { lacking = lacks; first = first }; tile = refl; pinned = pinned } in
      subst (λ (l : ℕ). IsBusyWith st l t n) found.0 (subst (λ (tile : TileId). IsBusyWith st at tile n) found.1 there)

  of_level : (o : Option ℕ) → coarsest_lacking st ≡ o → IsBusy (idle_or_stuck st o) level t n → IsBusyWith st level t n
  of_level None none e = let no : Idle ≡ Busy level t n = e in absurd (cc)
  of_level (Some at) lacks e = of_piece at lacks (first_of (unfinished_pieces st at)) refl e

  of_offer : (p : ℕ) (o : Option Offer) → IsBusy (claimed st p o).answer level t n → IsBusyWith st level t n
  unfolding no_offer
  of_offer p None e = of_level (coarsest_lacking st) refl e
  of_offer p (Some offer) e = let no : job_answer (claimed_job st offer) ≡ Busy level t n = e in absurd (cc)

  of_work : (p : ℕ) (b : Bool) → IsBusy (cond b (unchanged st HasWork) (claimed st p (first_of (offers st)))).answer level t n → IsBusyWith st level t n
  of_work p true e = let no : HasWork ≡ Busy level t n = e in absurd (cc)
  of_work p false e = of_offer p (first_of (offers st)) e

pub busy_waits : BusyClaimsWaitForFrames
unfolding claim_step
busy_waits st p level t n e = of_work st level t n p (has_work (pass_at st p)) e
