-- What is told of the frame that a pass may have.
use Rattle.std.specs.Prelude.{ℕ, List, [], ◌∷◌, Option, Some, None}
use Rattle.plan_model.specs.States.{OpenFrame}
use Rattle.plan_model.specs.Tiles.{lesser}

-- the number of a frame, where there is one
abbrev pub number_of : Option OpenFrame → Option ℕ
number_of None = None
number_of (Some frame) = Some frame.number

-- a number that may be there, as a list
abbrev pub listed : Option ℕ → List ℕ
listed None = []
listed (Some n) = n ∷ []

-- the lesser of two numbers that may be there
abbrev pub lesser_of : Option ℕ → Option ℕ → Option ℕ
lesser_of least None = least
lesser_of least (Some n) = lesser least n
