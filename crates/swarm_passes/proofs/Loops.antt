-- Moves, claims and beginnings one after another, and the answers of a claim and of a beginning.
use Rattle.std.proofs.Common.{◌≡◌, ℕ, ◌+◌, ◌<◌, Bool, true, false, List, [], ◌∷◌, ◌++◌, take, drop, length, get_or, refl, sym, ap, ◌∙◌, subst, arith}
use Rattle.std.proofs.Math.Numerals.{add-one}
use Rattle.std.proofs.Math.Seq.{take-suc}
use Rattle.std.proofs.lemmas.List.{take-append-drop}
use Rattle.plan_holds.specs.Laws.{HistoriesGoOn}
use Rattle.plan_model.specs.States.{OpenFrame}
use Rattle.plan_model.specs.declared.events.Event.TheVariants.{Claim, Begin}
use Rattle.plan_model.specs.declared.events.Answer.{Answer}
use Rattle.plan_model.specs.declared.events.Answer.TheVariants.{Idle, Busy, Held, HasWork}
use Rattle.plan_model.specs.declared.events.Work.TheVariants.{Free}
use Rattle.clip_book.specs.Answers.{said_of_claim, said_of_begun}
use Rattle.clip_book.specs.declared.answers.Claimed.{Claimed}
use Rattle.clip_book.specs.declared.answers.Claimed.TheVariants as C
use Rattle.clip_book.specs.declared.answers.Begun.{Begun}
use Rattle.clip_book.specs.declared.answers.Begun.TheVariants as B
use Rattle.gate_rule.specs.Flags.{flag}
use Rattle.clip_gate.specs.Passes.{PassView, part_of}
use Rattle.clip_gate.specs.Calls.{HasMade}
use Rattle.swarm_laws.specs.Runs.{Place}
use Rattle.swarm_laws.specs.Shares.{moves_share, claims_share, begins_share}
use Rattle.swarm_laws.specs.Turns.{IsAfterClaim}
use Rattle.swarm_laws.proofs.Adding.{IsWithin}
use Rattle.swarm_laws.proofs.Blocks.{begin_all}
use Rattle.swarm_passes.specs.Frames.{FrameView}
use Rattle.swarm_passes.specs.Going.{Goes}
use Rattle.swarm_passes.specs.Drawing.{HasOpen, Renders}
use Rattle.swarm_passes.proofs.Since.{made_makes}
use Rattle.swarm_passes.proofs.Events.{goes_then, goes_within, after_claim, plain_claim}
use Rattle.swarm_passes.proofs.Rendering.{after_begin, held_goes, renders_then, renders_within}

-- ---- moves
one_move_more : (moves : List Place) (i : ℕ) (d : Place) → i < length moves → take i moves ++ get_or moves i d ∷ [] ≡ take (i + 1) moves
one_move_more moves i d low = sym (ap (λ (n : ℕ). take n moves) (add-one i) ∙ take-suc moves i d low)

pub moves_then : (moves : List Place) (i : ℕ) (d : Place) (full : Bool) (a b c : PassView) → i < length moves → Goes (moves_share (take i moves)) false [] a b → Goes (moves_share (get_or moves i d ∷ [])) full [] b c
    → Goes (moves_share (take (i + 1) moves)) full [] a c
moves_then moves i d full a b c low g h =
    subst (λ (ms : List Place). Goes (moves_share ms) full [] a c) (one_move_more moves i d low) (goes_then (moves_share (take i moves)) (moves_share (get_or moves i d ∷ [])) full [] [] a b c g h)

first_moves : (moves : List Place) (n : ℕ) → IsWithin (moves_share (take n moves)) (moves_share moves)
first_moves moves n = record { moves = record { rest = drop n moves; is = sym (take-append-drop n moves) }; claims = omega arith; begins = omega arith }

pub moves_cut : (moves : List Place) (i : ℕ) (d : Place) (a b c : PassView) → i < length moves → Goes (moves_share (take i moves)) false [] a b → Goes (moves_share (get_or moves i d ∷ [])) true [] b c → Goes (moves_share moves) true [] a c
moves_cut moves i d a b c low g h = goes_within (moves_share (take (i + 1) moves)) (moves_share moves) [] a c (first_moves moves (i + 1)) (moves_then moves i d true a b c low g h)

-- ---- claims
pub claims_then : (i : ℕ) (full : Bool) (a b c : PassView) → Goes (claims_share i) false [] a b → Goes (claims_share 1) full [] b c → Goes (claims_share (i + 1)) full [] a c
claims_then i full a b c g h = goes_then (claims_share i) (claims_share 1) full [] [] a b c g h

few_claims : (i n : ℕ) → i < n → IsWithin (claims_share (i + 1)) (claims_share n)
few_claims i n low = record { moves = record { rest = []; is = refl }; claims = omega arith; begins = omega arith }

pub claims_cut : (i n : ℕ) (a b c : PassView) → i < n → Goes (claims_share i) false [] a b → Goes (claims_share 1) true [] b c → Goes (claims_share n) true [] a c
claims_cut i n a b c low g h = goes_within (claims_share (i + 1)) (claims_share n) [] a c (few_claims i n low) (claims_then i true a b c g h)

-- ---- beginnings
pub begins_then : (i : ℕ) (full : Bool) (a b c : PassView) (xs ys zs : List FrameView) → Renders (begins_share i) false a b xs ys → Renders (begins_share 1) full b c ys zs → Renders (begins_share (i + 1)) full a c xs zs
begins_then i full a b c xs ys zs g h = renders_then (begins_share i) (begins_share 1) full a b c xs ys zs g h

few_begins : (i n : ℕ) → i < n → IsWithin (begins_share (i + 1)) (begins_share n)
few_begins i n low = record { moves = record { rest = []; is = refl }; claims = omega arith; begins = omega arith }

pub begins_cut : (i n : ℕ) (a b c : PassView) (xs ys zs : List FrameView) → i < n → Renders (begins_share i) false a b xs ys → Renders (begins_share 1) true b c ys zs → Renders (begins_share n) true a c xs zs
begins_cut i n a b c xs ys zs low g h = renders_within (begins_share (i + 1)) (begins_share n) a c xs zs (few_begins i n low) (begins_then i true a b c xs ys zs g h)

-- ---- the answers of a claim
pub after_made : HistoriesGoOn → (claimed : Claimed) (answer : Answer) (old new : PassView) → said_of_claim claimed ≡ answer → flag old.numbers old.number ≡ true → part_of old ≡ Free → HasMade Claim (said_of_claim claimed) 2 old new
    → IsAfterClaim old.clip.land.levels (part_of new) answer
after_made go claimed answer old new is mine free made =
    subst (λ (a : Answer). IsAfterClaim old.clip.land.levels (part_of new) a) is (after_claim go (said_of_claim claimed) old new free (made_makes Claim (said_of_claim claimed) 2 old new mine made))

-- a claim that gives neither a job nor a level
abbrev pub IsPlain : Claimed → Type 0
IsPlain (C.Job job) = ⊥
IsPlain (C.Ripe level) = ⊥
IsPlain C.HasWork = ⊥
IsPlain _ = Unit {0}

pub plain_goes : HistoriesGoOn → (claimed other : Claimed) (old new : PassView) → claimed ≡ other → IsPlain other → flag old.numbers old.number ≡ true → part_of old ≡ Free → HasMade Claim (said_of_claim claimed) 2 old new
    → Goes (claims_share 1) false [] old new
plain_goes go claimed other old new is plain mine free made = goes other plain (subst (λ (a : Claimed). HasMade Claim (said_of_claim a) 2 old new) is made)
  where
    goes : (a : Claimed) → IsPlain a → HasMade Claim (said_of_claim a) 2 old new → Goes (claims_share 1) false [] old new
    goes (C.Job job) p m = absurd p
    goes C.Idle p m = plain_claim Idle old new mine free m (after_made go C.Idle Idle old new refl mine free m) tt (λ _ _. tt) (λ level. refl)
    goes (C.Ripe level) p m = absurd p
    goes (C.Busy level tile frame) p m = plain_claim (Busy level tile frame) old new mine free m (after_made go (C.Busy level tile frame) (Busy level tile frame) old new refl mine free m) tt (λ _ _. tt) (λ level. refl)
    goes (C.Held level tile pass) p m = plain_claim (Held level tile pass) old new mine free m (after_made go (C.Held level tile pass) (Held level tile pass) old new refl mine free m) tt (λ _ _. tt) (λ level. refl)
    goes C.HasWork p m = absurd p

-- ---- the answers of a beginning
abbrev pub IsAnswered : PassView → Begun → Type 0
IsAnswered pass (B.Frame number actives) = (frame : OpenFrame) × HasOpen pass frame
IsAnswered pass (B.Held level tile holder) = part_of pass ≡ Free
IsAnswered pass B.HasWork = ⊥

pub answered_begin : (begun : Begun) (old new : PassView) → flag old.numbers old.number ≡ true → old.number < 16 → part_of old ≡ Free → HasMade Begin (said_of_begun begun) 2 old new → IsAnswered new begun
answered_begin (B.Frame number actives) old new mine low free made =
    let m = made_makes Begin (said_of_begun (B.Frame number actives)) 2 old new mine made in (_, after_begin (said_of_begun (B.Frame number actives)) old new low free m)
answered_begin (B.Held level tile holder) old new mine low free made = after_begin (Held level tile holder) old new low free (made_makes Begin (Held level tile holder) 2 old new mine made)
answered_begin B.HasWork old new mine low free made = after_begin HasWork old new low free (made_makes Begin HasWork 2 old new mine made)

-- a beginning that finds a tile held
abbrev pub IsHeld : Begun → Type 0
IsHeld (B.Held level tile holder) = Unit {0}
IsHeld _ = ⊥

pub held_renders : (begun : Begun) (old new : PassView) (frames frames' : List FrameView) → flag old.numbers old.number ≡ true → part_of old ≡ Free → HasMade Begin (said_of_begun begun) 2 old new → IsAnswered new begun → IsHeld begun → frames' ≡ frames
    → Renders (begins_share 1) false old new frames frames'
held_renders begun old new frames frames' mine free made = go begun made
  where
    go : (a : Begun) → HasMade Begin (said_of_begun a) 2 old new → IsAnswered new a → IsHeld a → frames' ≡ frames → Renders (begins_share 1) false old new frames frames'
    go (B.Frame number actives) m answered held same = absurd held
    go (B.Held level tile holder) m answered held same = held_goes level (Held level tile holder) old new frames frames' mine free m answered tt (λ _ _. tt) (begin_all old.number (Held level tile holder) (λ level. refl)) same
    go B.HasWork m answered held same = absurd held
