-- The half-spaces of a view: at most six, with numbers within limits.
use Rattle.std.specs.Prelude.{◌≡◌, ℕ, ◌-◌, ◌^◌, ◌≤◌, ℤ, pos, neg_ℤ, ◌≤ℤ◌, List, length, take, drop, replicate, All, ◌++◌}
use Rattle.std.proofs.Common.{ap, sym, ◌∙◌, take-append-drop}
use Rattle.mesh_model.specs.declared.shapes.HalfSpace.{HalfSpace}

-- a number is no farther from zero than a limit
pub record IsNearZero (limit : ℕ) (v : ℤ) : Type 0 where
  pub low : neg_ℤ (pos limit) ≤ℤ v
  pub high : v ≤ℤ pos limit

-- the numbers of a half-space are within the limits
pub record IsHalfSpace (space : HalfSpace) : Type 0 where
  pub a : IsNearZero (2 ^ 20) space.a
  pub b : IsNearZero (2 ^ 20) space.b
  pub c : IsNearZero (2 ^ 20) space.c
  pub d : IsNearZero (2 ^ 40) space.d

-- what stands in an unused place
abbrev pub no_space : HalfSpace
no_space = record { a = pos 0; b = pos 0; c = pos 0; d = pos 0 }

-- the first of six places have half-spaces, and the others are unused
pub record IsSix (count : ℕ) (spaces : List HalfSpace) : Type 0 where
  pub few : count ≤ 6
  pub counted : length (take count spaces) ≡ count
  pub unused : drop count spaces ≡ replicate (6 - count) no_space
  pub near : All IsHalfSpace (take count spaces)

-- so the first ones tell all six
pub restored : (count : ℕ) (spaces : List HalfSpace) → IsSix count spaces →
    take count spaces ++ replicate (6 - length (take count spaces)) no_space ≡ spaces
restored count spaces h =
    ap (λ (n : ℕ). take count spaces ++ replicate (6 - n) no_space) h.counted
    ∙ ap (λ (others : List HalfSpace). take count spaces ++ others) (sym h.unused)
    ∙ take-append-drop count spaces
