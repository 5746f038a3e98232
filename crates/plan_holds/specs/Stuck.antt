-- What a claim finds where nothing can be claimed, as statements for laws of this crate.
use Rattle.std.specs.Prelude.{◌≡◌, ℕ, ◌↔◌, false, not, filter, Option, Some, is_some, IsTrue}
use Rattle.plan_model.specs.Strips.{first_of}
use Rattle.plan_model.specs.States.{State, pass_at, used_from_coarsest, is_whole, has_work}
use Rattle.plan_model.specs.Claims.{unfinished_pieces, offers, blocked}
use Rattle.plan_model.specs.Steps.{step}
use Rattle.plan_model.specs.Rounds.{is_settled}
use Rattle.plan_model.specs.declared.tiles.Piece.{Piece}
use Rattle.plan_model.specs.declared.events.Event.TheVariants.{Claim}
use Rattle.plan_model.specs.declared.events.Answer.TheVariants.{Idle}
use Rattle.plan_holds.specs.Kept.{IsKept}

-- the coarsest level in use whose filled region isn't its window
abbrev pub coarsest_lacking : State → Option ℕ
coarsest_lacking st = first_of (filter (λ level. not (is_whole st level)) (used_from_coarsest st))

-- the piece waits on the level: it is the first unfinished piece of that level
pub record IsWaiting (st : State) (level : ℕ) (piece : Piece) : Type 0 where
  pub lacking : coarsest_lacking st ≡ Some level
  pub first : first_of (unfinished_pieces st level) ≡ Some piece

-- no pass has work
abbrev pub IsAtRest : State → Type 0
IsAtRest st = (p : ℕ) → has_work (pass_at st p) ≡ false

-- something can be claimed
abbrev pub IsClaimable : State → Type 0
IsClaimable st = IsTrue (is_some (first_of (offers st)))

-- something blocks the piece of a level
abbrev pub IsBlocked : State → ℕ → Piece → Type 0
IsBlocked st level piece = IsTrue (is_some (blocked st level piece))

-- where nothing can be claimed, something blocks the piece that waits
abbrev pub StuckPiecesAreBlocked : Type 0
StuckPiecesAreBlocked =
    (st : State) (level : ℕ) (piece : Piece) → IsKept st → IsWaiting st level piece → ¬ IsClaimable st
    → IsBlocked st level piece

-- so where no pass has work and a piece waits, something can be claimed
abbrev pub RestedPiecesAreOffered : Type 0
RestedPiecesAreOffered =
    (st : State) (level : ℕ) (piece : Piece) → IsKept st → IsWaiting st level piece → IsAtRest st → IsClaimable st

-- the claim of a pass is answered Idle exactly where every level in use is whole
abbrev pub IsIdleWhereSettled : State → ℕ → Type 0
IsIdleWhereSettled st p = ((step st p Claim).answer ≡ Idle) ↔ IsTrue (is_settled st)

-- that is true of each pass without work
abbrev pub IdleWhereSettled : Type 0
IdleWhereSettled = (st : State) (p : ℕ) → IsKept st → has_work (pass_at st p) ≡ false → IsIdleWhereSettled st p
