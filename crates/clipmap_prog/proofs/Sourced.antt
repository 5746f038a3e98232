-- The reading of a store among inputs.
use Rattle.std.proofs.Common.{◌≡◌, List, ℕ, IfSome, Option, Some, None, Ok, Err, sym, ap, subst}
use Rattle.std.specs.FinMap as map
use Rattle.outer_shelf.specs.Outside.{Files}
use Rattle.clipmap_prog.specs.Reading.{Finds}
use Rattle.clipmap_prog.specs.Sources.{SourceView, Store, as_store, sources_by, sources_reading}
use Rattle.clipmap_prog.specs.Stores.{IsVerdictOn, IsVerdictOnFile, StoreView, Verdict, store_name, store_of_file}
use Rattle.clipmap_prog.specs.Faults.{cause_of}
use Rattle.clipmap_prog.specs.declared.reading.Stop.{Stop}
use Rattle.clipmap_prog.specs.declared.reading.Stop.TheVariants as stop

module _ (names : List (List ℕ)) (name : List ℕ) (is : Some name ≡ store_name names) (verdict : Verdict) where
  here : (m : Files) → IsVerdictOn names m verdict → IsVerdictOnFile (map.get m name) verdict
  here m right = subst (λ o. IfSome o (λ n. IsVerdictOnFile (map.get m n) verdict)) (sym is) right

  pub store_found : {A : Type 0} (view : A → StoreView) (files : Option Files) (file : A) → IfSome files (λ m. IsVerdictOn names m verdict) →
      ((v : Verdict) → IfSome files (λ m. IsVerdictOnFile (map.get m name) v) → IfSome files (λ m. Finds view (Ok file) (store_of_file name v (map.get m name)))) →
      IfSome files (λ m. (sources_reading verdict names m).found ≡ Ok (Store (view file)))
  store_found view None file right found = tt
  store_found view (Some m) file right found =
      subst (λ o. (sources_by verdict names m o).found ≡ Ok (Store (view file))) is (ap as_store (found verdict (here m right)))

  pub store_stopped : {A B : Type 0} (view : A → StoreView) (meant : B → SourceView) (files : Option Files) (which : Stop) → IfSome files (λ m. IsVerdictOn names m verdict) →
      ((v : Verdict) → IfSome files (λ m. IsVerdictOnFile (map.get m name) v) → IfSome files (λ m. Finds view (Err which) (store_of_file name v (map.get m name)))) →
      IfSome files (λ m. Finds meant (Err which) (sources_reading verdict names m).found)
  store_stopped view meant None which right found = tt
  store_stopped view meant (Some m) (stop.Refused fault) right found =
      subst (λ o. (sources_by verdict names m o).found ≡ Err (cause_of fault)) is (ap as_store (found verdict (here m right)))
  store_stopped view meant (Some m) (stop.Halted h) right found = tt
