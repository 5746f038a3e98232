-- The first of two that may be there.
use Rattle.std.specs.Prelude.{Bool, true, false, Option, Some, None}

-- what was found first: the earlier one, where there is one, and else the later one, where it passes
abbrev pub or_found : {X : Type 0} → Option X → Bool → X → Option X
or_found (Some y) b x = Some y
or_found None true x = Some x
or_found None false x = None
