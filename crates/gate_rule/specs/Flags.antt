-- Numbers of passes xs lists of 16 flags.
use Rattle.std.specs.Prelude.{◌≡◌, ℕ, ◌+◌, Bool, true, false, ◌||◌, List, [], ◌∷◌, replicate, slice_index_or, slice_set, cond}
use Rattle.plan_model.specs.Histories.{HasNoEntryOf}
use Rattle.plan_model.specs.declared.events.Entry.{Entry}

-- the number p is among those that are flagged
abbrev pub flag : List Bool → ℕ → Bool
flag flags p = slice_index_or flags p false

abbrev pub no_flags : List Bool
no_flags = replicate 16 false

-- only the number p is flagged; and all numbers from 1 on
abbrev pub only : ℕ → List Bool
only p = slice_set no_flags p true

abbrev pub all_but_first : List Bool
all_but_first = false ∷ replicate 15 true

-- a number that is flagged no more
abbrev pub without : List Bool → ℕ → List Bool
without flags p = slice_set flags p false

-- the numbers that are flagged in one or the other
abbrev pub either_flags : List Bool → List Bool → List Bool
either_flags [] ys = ys
either_flags (a ∷ xs) [] = a ∷ xs
either_flags (a ∷ xs) (b ∷ ys) = (a || b) ∷ either_flags xs ys

-- the least number that is flagged, and how many there are
abbrev pub least : List Bool → ℕ
least [] = 0
least (true ∷ rest) = 0
least (false ∷ rest) = 1 + least rest

abbrev pub one_if : Bool → ℕ
one_if b = cond b 1 0

abbrev pub how_many : List Bool → ℕ
how_many [] = 0
how_many (b ∷ rest) = one_if b + how_many rest

-- no entry of a history has a number that is flagged
abbrev pub HasNoneOf : List Bool → List Entry → Type 0
HasNoneOf flags entries = (p : ℕ) → flag flags p ≡ true → HasNoEntryOf p entries
