-- The reading of a script and of its inputs from those of each.
use Rattle.std.proofs.Common.{◌≡◌, ℕ, List, Option, IfSome, Result, Ok, Err, option_map, refl, sym, subst}
use Rattle.outer_shelf.specs.Counts.{one_more}
use Rattle.outer_shelf.specs.Outside.{Files}
use Rattle.run_actions.specs.Runs.{CallsWithin}
use Rattle.run_actions.proofs.Ends.{within_one}
use Rattle.terrain_store.specs.Shapes.{Land}
use Rattle.clipmap_prog.specs.Faults.{Cause}
use Rattle.clipmap_prog.specs.Lands.{land_reading}
use Rattle.clipmap_prog.specs.Scripts.{Stage, script_reading, stage_of, stage_reading, staged}
use Rattle.clipmap_prog.specs.Reading.{Finds, unfetched}
use Rattle.clipmap_prog.specs.Stores.{Verdict}
use Rattle.clipmap_prog.specs.declared.reading.Stop.{Stop}
use Rattle.clipmap_prog.proofs.Fetching.{always_some}
use Rattle.clipmap_prog.proofs.Following.{then_finds, then_stops, first_calls, both_calls}

-- what holds of the files once the script was fetched, which are those before
pub there : (before now : Option Files) (P : Files → Type 0) → now ≡ before → IfSome before P → IfSome now P
there before now P same holds = let At : Option Files → Type 0 = λ o. IfSome o P in subst At (sym same) holds

pub back : (before now : Option Files) (P : Files → Type 0) → now ≡ before → IfSome now P → IfSome before P
back before now P same holds = let At : Option Files → Type 0 = λ o. IfSome o P in subst At same holds

module _ {S : Type 0} (reads : List ℕ → Result S Cause) (levels : S → ℕ) (verdict : Verdict) (name : List ℕ) (inputs : List (List ℕ)) (files : Option Files) where
  -- the script is refused
  pub script_stops : {C D : Type 0} (view : C → S) (meant : D → Stage S) (which : Stop) → IfSome files (λ m. Finds {A = C} view (Err which) (script_reading reads name m).found) →
      IfSome files (λ m. Finds {A = D} meant (Err which) (stage_reading reads levels verdict name inputs m).found)
  unfolding stage_reading
  script_stops view meant which stopped =
      then_stops (script_reading reads name) (staged levels verdict inputs) files view meant which stopped

  pub script_calls : (before now : Option ℕ) → now ≡ option_map one_more before → IfSome files (λ m. CallsWithin (stage_reading reads levels verdict name inputs m).fetches before now)
  unfolding stage_reading
  script_calls before now counted =
      first_calls (script_reading reads name) (staged levels verdict inputs) files before now
      (always_some (λ m. CallsWithin 1 before now) files (λ m. within_one before now counted))

  module _ (script : S) (read : IfSome files (λ m. (script_reading reads name m).found ≡ Ok script)) where
    abbrev land_here : Files → Result Land Cause
    land_here m = (land_reading verdict inputs (levels script) m).found

    -- the script and its inputs are read
    pub stage_found : (land : Land) → IfSome files (λ m. land_here m ≡ Ok land) → IfSome files (λ m. (stage_reading reads levels verdict name inputs m).found ≡ Ok (stage_of script land))
    unfolding stage_reading
    stage_found land landed =
        then_finds (script_reading reads name) (staged levels verdict inputs) files (λ (stage : Stage S). stage) script (Ok (stage_of script land)) read
        (then_finds (land_reading verdict inputs (levels script)) (λ m l. unfetched (Ok (stage_of script l))) files (λ (stage : Stage S). stage) land (Ok (stage_of script land)) landed
        (always_some (λ m. Ok (stage_of script land) ≡ Ok (stage_of script land)) files (λ m. refl)))

    -- the inputs are refused
    pub land_stops : {C D : Type 0} (view : C → Land) (meant : D → Stage S) (which : Stop) → IfSome files (λ m. Finds {A = C} view (Err which) (land_here m)) →
        IfSome files (λ m. Finds {A = D} meant (Err which) (stage_reading reads levels verdict name inputs m).found)
    unfolding stage_reading
    land_stops view meant which stopped =
        then_finds (script_reading reads name) (staged levels verdict inputs) files meant script (Err which) read
        (then_stops (land_reading verdict inputs (levels script)) (λ m l. unfetched (Ok (stage_of script l))) files view meant which stopped)

    pub stage_calls : (before mid now : Option ℕ) → mid ≡ option_map one_more before → IfSome files (λ m. CallsWithin (land_reading verdict inputs (levels script) m).fetches mid now) →
        IfSome files (λ m. CallsWithin (stage_reading reads levels verdict name inputs m).fetches before now)
    unfolding stage_reading
    stage_calls before mid now counted calls =
        both_calls (script_reading reads name) (staged levels verdict inputs) files script before mid now read
        (always_some (λ m. CallsWithin 1 before mid) files (λ m. within_one before mid counted))
        (first_calls (land_reading verdict inputs (levels script)) (λ m l. unfetched (Ok (stage_of script l))) files mid now calls)
