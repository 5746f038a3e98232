-- A reading and then another of what it found, where the files are told.
use Rattle.std.proofs.Common.{◌≡◌, ℕ, ◌+◌, Option, IfSome, Result, Ok, Err, sym, subst, arith}
use Rattle.outer_shelf.specs.Outside.{Files}
use Rattle.run_actions.specs.Runs.{CallsWithin}
use Rattle.run_actions.proofs.Ends.{within_add, within_more}
use Rattle.clipmap_prog.specs.Faults.{Cause}
use Rattle.clipmap_prog.specs.Reading.{Finds, Reading, and_then}
use Rattle.clipmap_prog.specs.declared.reading.Stop.{Stop}
use Rattle.clipmap_prog.proofs.Concluding.{each_some, both_some}
use Rattle.clipmap_prog.proofs.Fetching.{stops}
use Rattle.clipmap_prog.proofs.Readings.{then_found, then_fetches, then_more, then_refused}

module _ {A B : Type 0} (first : Files → Reading A) (next : Files → A → Reading B) (files : Option Files) where
  abbrev whole : Files → Reading B
  whole m = and_then (first m) (next m)

  pub then_finds : {C : Type 0} (view : C → B) (a : A) (result : Result C Stop) → IfSome files (λ m. (first m).found ≡ Ok a) →
      IfSome files (λ m. Finds view result (next m a).found) → IfSome files (λ m. Finds view result (whole m).found)
  then_finds view a result is finds =
      let Meant : Result B Cause → Type 0 = λ meant. Finds view result meant in
      both_some (λ m. (first m).found ≡ Ok a) (λ m. Meant (next m a).found) (λ m. Meant (whole m).found) files
      (λ m here found. subst Meant (sym (then_found (first m).fetches (first m).found (next m) a here)) found)
      is finds

  pub then_stops : {C D : Type 0} (view : C → A) (meant : D → B) (which : Stop) → IfSome files (λ m. Finds {A = C} view (Err which) (first m).found) →
      IfSome files (λ m. Finds {A = D} meant (Err which) (whole m).found)
  then_stops {C} {D} view meant which stopped =
      each_some (λ m. Finds {A = C} view (Err which) (first m).found) (λ m. Finds {A = D} meant (Err which) (whole m).found) files
      (λ m here. stops which (first m).found (whole m).found
      (λ cause is. then_refused (first m).fetches (first m).found (next m) cause is) here)
      stopped

  pub first_calls : (before now : Option ℕ) → IfSome files (λ m. CallsWithin (first m).fetches before now) → IfSome files (λ m. CallsWithin (whole m).fetches before now)
  first_calls before now calls =
      each_some (λ m. CallsWithin (first m).fetches before now) (λ m. CallsWithin (whole m).fetches before now) files
      (λ m few. within_more (first m).fetches (whole m).fetches before now few (then_more (first m).fetches (first m).found (next m)))
      calls

  pub both_calls : (a : A) (before mid now : Option ℕ) → IfSome files (λ m. (first m).found ≡ Ok a) → IfSome files (λ m. CallsWithin (first m).fetches before mid) →
      IfSome files (λ m. CallsWithin (next m a).fetches mid now) → IfSome files (λ m. CallsWithin (whole m).fetches before now)
  both_calls a before mid now is early late =
      both_some (λ m. (first m).found ≡ Ok a) (λ m. CallsWithin (first m).fetches before mid × CallsWithin (next m a).fetches mid now) (λ m. CallsWithin (whole m).fetches before now) files
      (λ m here calls.
      let sum : (whole m).fetches ≡ (first m).fetches + (next m a).fetches = then_fetches (first m).fetches (first m).found (next m) a here in
      within_add (first m).fetches (next m a).fetches (whole m).fetches before mid now calls.0 calls.1 (omega (arith, sum)))
      is
      (both_some (λ m. CallsWithin (first m).fetches before mid) (λ m. CallsWithin (next m a).fetches mid now) (λ m. CallsWithin (first m).fetches before mid × CallsWithin (next m a).fetches mid now) files
      (λ m x y. (x, y)) early late)
