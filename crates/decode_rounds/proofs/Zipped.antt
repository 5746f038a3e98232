-- Tasks and results of parts, and of all parts one behind the other.
use Rattle.std.proofs.Common.{◌≡◌, ℕ, zero, suc, ◌<◌, List, [], ◌∷◌, ◌++◌, length, slice_index_or, flat_map, All, IfOk, IsOk, Vec, arith, sym, subst, true≢false}
use Rattle.std.specs.Prelude.{Result, Ok, Err}
use Rattle.std.specs.List.{AllZip, AllByRecursion}
use Rattle.std.specs.Global.{Global}
use Rattle.std.proofs.lemmas.List.Elements.{recursion_from_All, All-from_recursion}
use Rattle.obj_frames.specs.declared.memory.NoMemory.{NoMemory}
use Rattle.decode_rounds.specs.declared.tasks.Task.{Task}
use Rattle.decode_rounds.specs.declared.tasks.Done.{Done}
use Rattle.decode_rounds.specs.declared.parts.Part.{Part}
use Rattle.decode_rounds.specs.Parts.{tasks_in, done_in}

module _ {X Y : Type 0} (R : X → Y → Type 0) where
  pub zipped_append : (xs zs : List X) (ys ws : List Y) → AllZip R xs ys → AllZip R zs ws → AllZip R (xs ++ zs) (ys ++ ws)
  zipped_append [] zs [] ws a b = b
  zipped_append [] zs (y ∷ ys) ws a b = absurd a
  zipped_append (x ∷ xs) zs [] ws a b = absurd a
  zipped_append (x ∷ xs) zs (y ∷ ys) ws a b = (a.0, zipped_append xs zs ys ws a.1 b)

  -- place by place
  pub zipped : (xs : List X) (ys : List Y) → length ys ≡ length xs
      → ((i : ℕ) (d : X) (e : Y) → i < length xs → R (slice_index_or xs i d) (slice_index_or ys i e)) → AllZip R xs ys
  zipped [] [] l f = tt
  zipped [] (y ∷ ys) l f = absurd (omega arith)
  zipped (x ∷ xs) [] l f = absurd (omega arith)
  zipped (x ∷ xs) (y ∷ ys) l f =
      (f 0 x y (omega arith), zipped xs ys (omega arith) (λ i d e low. f (suc i) d e (omega arith)))

module _ (P : Task → Type 0) where
  both : (xs ys : List Task) → AllByRecursion P (xs ++ ys) → AllByRecursion P xs × AllByRecursion P ys
  both [] ys h = (tt, h)
  both (x ∷ xs) ys h = let rest = both xs ys h.1 in ((h.0, rest.0), rest.1)

  at_part : (parts : List Part) (i : ℕ) (x : Part) → AllByRecursion P (flat_map tasks_in parts) → i < length parts
      → x ≡ slice_index_or parts i x → AllByRecursion P x.tasks.items
  at_part [] i x h low e = absurd (omega arith)
  at_part (p ∷ ps) zero x h low e = subst (λ q. AllByRecursion P q.tasks.items) (sym e) (both p.tasks.items (flat_map tasks_in ps) h).0
  at_part (p ∷ ps) (suc i) x h low e = at_part ps i x (both p.tasks.items (flat_map tasks_in ps) h).1 (omega arith) e

  -- what is true of all tasks is true of those of each part
  pub in_part : (parts : List Part) (i : ℕ) (x : Part) → All P (flat_map tasks_in parts) → i < length parts
      → x ≡ slice_index_or parts i x → All P x.tasks.items
  in_part parts i x h low e = All-from_recursion P x.tasks.items (at_part parts i x (recursion_from_All P (flat_map tasks_in parts) h) low e)

module _ (R : Task → Done → Type 0) where
  -- a part's results are those of its tasks, where there was memory
  abbrev pub Works : Part → Result (Vec Done Global) NoMemory → Type 0
  Works part result = IfOk result (λ done. AllZip R part.tasks.items done.items)

  -- so the results of all parts are those of all tasks
  pub all_work : (parts : List Part) (rs : List (Result (Vec Done Global) NoMemory)) → AllZip Works parts rs → AllByRecursion IsOk rs
      → AllZip R (flat_map tasks_in parts) (flat_map done_in rs)
  all_work [] [] w o = tt
  all_work [] (r ∷ rs) w o = absurd w
  all_work (p ∷ ps) [] w o = absurd w
  all_work (p ∷ ps) (Ok done ∷ rs) w o = zipped_append R p.tasks.items (flat_map tasks_in ps) done.items (flat_map done_in rs) w.0 (all_work ps rs w.1 o.1)
  all_work (p ∷ ps) (Err e ∷ rs) w o = absurd (true≢false (sym o.0))
