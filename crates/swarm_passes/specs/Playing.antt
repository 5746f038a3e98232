-- The passes of a run: how they start, what each has done, and what all have done together.
use Rattle.std.specs.Prelude.{◌≡◌, ℕ, ◌+◌, ◌-◌, ◌<◌, ◌≤◌, Bool, true, false, List, [], ◌∷◌, ◌++◌, map, replicate}
use Rattle.plan_model.specs.declared.events.Work.TheVariants.{Free}
use Rattle.gate_rule.specs.Flags.{flag}
use Rattle.clip_gate.specs.Passes.{ClipView, PassView, part_of}
use Rattle.clip_gate.specs.Calls.{places_of_pass}
use Rattle.swarm_laws.specs.Runs.{Orders, entries_of}
use Rattle.swarm_laws.specs.Shares.{share_of, DoAll, DoLess, IsPart}
use Rattle.swarm_laws.specs.Closings.{closings_in, closings_by}
use Rattle.swarm_passes.specs.Frames.{FrameView, shown}
use Rattle.swarm_passes.specs.Going.{own_of, closed_of}

-- the numbers from n to 15 are left to give
abbrev pub left_from : ℕ → List Bool
left_from n = replicate n false ++ replicate (16 - n) true

-- a pass of a clip that has made no event
pub record IsStarted (shared : ClipView) (n : ℕ) (pass : PassView) : Type 0 where
  pub clip : pass.clip ≡ shared
  pub number : pass.number ≡ n
  pub history : pass.history ≡ []

-- such passes, of the numbers from n on
abbrev pub AreStarted : ClipView → ℕ → List PassView → Type 0
AreStarted clip n [] = Unit {0}
AreStarted clip n (pass ∷ rest) = IsStarted clip n pass × AreStarted clip (n + 1) rest

-- the first of them has these numbers left to give
abbrev pub FirstLeaves : List Bool → List PassView → Type 0
FirstLeaves left [] = ⊥
FirstLeaves left (pass ∷ rest) = pass.left ≡ left

-- what the pass of number n has done of its share, and what is printed of the frames that it closed
pub record PlayedBy (orders : Orders) (shared : ClipView) (n : ℕ) (pass : PassView) (full : Bool)
    (frames : List FrameView) : Type 0 where
  pub clip : pass.clip ≡ shared
  pub number : pass.number ≡ n
  pub free : part_of pass ≡ Free
  pub part : IsPart (share_of orders n) (own_of pass)
  pub all : full ≡ false → DoAll (share_of orders n) (own_of pass)
  pub less : full ≡ true → DoLess (share_of orders n) (own_of pass)
  pub long : full ≡ true → 1048575 ≤ places_of_pass pass pass.history
  pub prints : frames ≡ map (shown shared.land.terrain shared.size) (closed_of pass)

-- what is lacking is of one of the passes below n
pub record LacksOf (orders : Orders) (n : ℕ) (pass : PassView) : Type 0 where
  pub number : ℕ
  pub low : number < n
  pub less : DoLess (share_of orders number) (entries_of number pass.history)

-- what the passes below n have done, as one pass knows that took the others over, which has the numbers from m on left
-- to give
pub record GatheredBy (orders : Orders) (shared : ClipView) (m n : ℕ) (pass : PassView) (full : Bool)
    (frames : List FrameView) : Type 0 where
  pub clip : pass.clip ≡ shared
  pub number : pass.number ≡ 0
  pub free : part_of pass ≡ Free
  pub numbers : (q : ℕ) → q < n → flag pass.numbers q ≡ true
  pub left : (q : ℕ) → m ≤ q → q < 16 → flag pass.left q ≡ true
  pub part : (q : ℕ) → q < n → IsPart (share_of orders q) (entries_of q pass.history)
  pub all : full ≡ false → (q : ℕ) → q < n → DoAll (share_of orders q) (entries_of q pass.history)
  pub less : full ≡ true → LacksOf orders n pass
  pub long : full ≡ true → 1048575 ≤ places_of_pass pass pass.history
  pub prints : frames ≡ map (shown shared.land.terrain shared.size)
      (closings_by n (closings_in shared.size shared.land.levels pass.history))
