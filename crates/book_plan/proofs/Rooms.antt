-- Windows have room for what lies in them.
use Rattle.std.proofs.Common.{◌≡◌, ℕ, ◌≤◌, Bool, true, false, ℤ, IsTrue, Option, Some, None, IfSome, length, refl, arith}
use Rattle.clip_regions.specs.declared.region.Region.{Region}
use Rattle.clip_regions.specs.Regions.{holds}
use Rattle.plan_model.specs.Limits.{IsSize, IsViewed}
use Rattle.plan_model.specs.Window.{window}
use Rattle.plan_model.specs.Claims.{strip_pieces}
use Rattle.plan_model.specs.Laws.{IsFilledIn}
use Rattle.plan_laws.specs.Pieces.{WindowsHaveFewPieces}
use Rattle.plan_laws.specs.Hulls.{StripsInWindows}
use Rattle.strip_planner.specs.Planned.{IsPlanned, RegionsInWindowsArePlanned}
use Rattle.book_plan.specs.Moves.{IsRoomy, strip_where}

pub roomy : RegionsInWindowsArePlanned → WindowsHaveFewPieces → StripsInWindows → (k level : ℕ) (x y : ℤ) → IsSize k → IsViewed x → IsViewed y → IsRoomy (window k level x y)
roomy planned few strips k level x y size column row = record {
  planned = λ r h. planned k level x y r size column row h;
  few = λ r h. few k level x y r size.high h;
  strips = λ filled strip inside e. (strips k level x y filled strip inside e).1;
}

-- a strip that may be there is planned where the window is roomy, and has few pieces
some_planned : (window : Region) (strip : Option Region) → IsRoomy window → ((s : Region) → strip ≡ Some s → IsTrue (holds window s)) → IfSome strip IsPlanned
some_planned window None room h = tt
some_planned window (Some s) room h = room.planned s (h s refl)

some_few : (window : Region) (strip : Option Region) → IsRoomy window → ((s : Region) → strip ≡ Some s → IsTrue (holds window s)) → length (strip_pieces strip) ≤ 1089
some_few window None room h = omega arith
some_few window (Some s) room h = room.few s (h s refl)

held : (used : Bool) (filled window : Region) → IsRoomy window → IsFilledIn filled window → (s : Region) → strip_where used filled window ≡ Some s → IsTrue (holds window s)
unfolding strip_where
held true filled window room inside s e = room.strips filled s inside e
held false filled window room inside s e = absurd (cc)

pub strip_planned : (used : Bool) (filled window : Region) → IsRoomy window → IsFilledIn filled window → IfSome (strip_where used filled window) IsPlanned
strip_planned used filled window room inside =
    some_planned window (strip_where used filled window) room (held used filled window room inside)

pub strip_few : (used : Bool) (filled window : Region) → IsRoomy window → IsFilledIn filled window → length (strip_pieces (strip_where used filled window)) ≤ 1089
strip_few used filled window room inside =
    some_few window (strip_where used filled window) room (held used filled window room inside)
