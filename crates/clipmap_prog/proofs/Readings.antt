-- Laws of readings: one after another, and each of a list of items in its turn.
use Rattle.std.proofs.Common.{◌≡◌, ℕ, ◌+◌, ◌<◌, ◌≤◌, List, [], ◌∷◌, ◌++◌, length, map, get_or, take, drop, Result, Ok, Err, refl, sym, ap, ◌∙◌, zero-add, arith}
use Rattle.std.proofs.lemmas.List.{map-append, take_more, take-append-drop, drop_more}
use Rattle.clipmap_prog.specs.Faults.{Cause}
use Rattle.clipmap_prog.specs.Reading.{Reading, unfetched, goes_on, each_of}

err_ok : {A : Type 0} (cause : Cause) (a : A) → Err cause ≡ Ok a → ⊥
err_ok cause a e = cc

-- ---- a reading, and then another of what it found
pub then_found : {A B : Type 0} (n : ℕ) (o : Result A Cause) (next : A → Reading B) (a : A) → o ≡ Ok a → (goes_on n o next).found ≡ (next a).found
then_found n (Ok x) next a e = let same : x ≡ a = cc in ap (λ y. (next y).found) same
then_found n (Err cause) next a e = absurd (err_ok cause a e)

pub then_fetches : {A B : Type 0} (n : ℕ) (o : Result A Cause) (next : A → Reading B) (a : A) → o ≡ Ok a → (goes_on n o next).fetches ≡ n + (next a).fetches
then_fetches n (Ok x) next a e = let same : x ≡ a = cc in ap (λ y. n + (next y).fetches) same
then_fetches n (Err cause) next a e = absurd (err_ok cause a e)

pub then_refused : {A B : Type 0} (n : ℕ) (o : Result A Cause) (next : A → Reading B) (cause : Cause) → o ≡ Err cause → (goes_on n o next).found ≡ Err cause
then_refused n (Ok x) next cause e = absurd (err_ok cause x (sym e))
then_refused n (Err other) next cause e = let same : other ≡ cause = cc in ap (λ c. Err c) same

-- no fetch is taken back
pub then_more : {A B : Type 0} (n : ℕ) (o : Result A Cause) (next : A → Reading B) → n ≤ (goes_on n o next).fetches
then_more n (Ok x) next = omega arith
then_more n (Err cause) next = omega arith

-- ---- each of some items
-- what was found of the first items stands before what is found of the others
abbrev with_front : {B : Type 0} → List B → Result (List B) Cause → Result (List B) Cause
with_front front (Ok found) = Ok (front ++ found)
with_front front (Err cause) = Err cause

abbrev pushed_by : {B : Type 0} → ℕ → Result (List B) Cause → B → Reading (List B)
pushed_by n rest first = goes_on n rest (λ found. unfetched (Ok (first ∷ found)))

abbrev both : {B : Type 0} → ℕ → Result B Cause → ℕ → Result (List B) Cause → Reading (List B)
both n one m rest = goes_on n one (pushed_by m rest)

pushed_fetches : {B : Type 0} (n : ℕ) (rest : Result (List B) Cause) (first : B) → (pushed_by n rest first).fetches ≡ n
pushed_fetches n (Ok found) first = omega arith
pushed_fetches n (Err cause) first = refl

pushed_found : {B : Type 0} (n : ℕ) (front : List B) (rest whole : Result (List B) Cause) (first : B) → whole ≡ with_front front rest → (pushed_by n whole first).found ≡ with_front (first ∷ front) rest
pushed_found n front (Ok found) whole first e = ap (λ o. (pushed_by n o first).found) e
pushed_found n front (Err cause) whole first e = ap (λ o. (pushed_by n o first).found) e

record Fronted {B : Type 0} (front : List B) (before rest whole : Reading (List B)) : Type 0 where
  fetches : whole.fetches ≡ before.fetches + rest.fetches
  found : whole.found ≡ with_front front rest.found

fronted_more : {B : Type 0} (n m : ℕ) (one : Result B Cause) (before : Result (List B) Cause) (rest whole : Reading (List B)) (front : List B) → (both n one m before).found ≡ Ok front →
    ((found : List B) → before ≡ Ok found → Fronted found (record { fetches = m; found = before }) rest whole) → Fronted front (both n one m before) rest (both n one whole.fetches whole.found)
fronted_more n m (Err cause) before rest whole front e later = absurd (err_ok cause front e)
fronted_more n m (Ok first) (Err cause) rest whole front e later = absurd (err_ok cause front e)
fronted_more n m (Ok first) (Ok found) rest whole front e later =
    let same : first ∷ found ≡ front = cc in
    let h = later found refl in
    record {
      fetches = omega (arith, pushed_fetches whole.fetches whole.found first, h.fetches);
      found = pushed_found whole.fetches found rest.found whole.found first h.found ∙ ap (λ f. with_front f rest.found) same;
    }

nothing_before : {B : Type 0} (rest : Result (List B) Cause) (front : List B) → [] ≡ front → rest ≡ with_front front rest
nothing_before (Ok found) front e = ap (λ f. Ok (f ++ found)) e
nothing_before (Err cause) front e = refl

module _ {A B : Type 0} (read : A → Reading B) where
  fronted : (xs ys : List A) (front : List B) → (each_of read xs).found ≡ Ok front → Fronted front (each_of read xs) (each_of read ys) (each_of read (xs ++ ys))
  fronted [] ys front e = let same : [] ≡ front = cc in record { fetches = sym (zero-add (each_of read ys).fetches); found = nothing_before (each_of read ys).found front same }
  fronted (x ∷ xs) ys front e =
      fronted_more (read x).fetches (each_of read xs).fetches (read x).found (each_of read xs).found (each_of read ys) (each_of read (xs ++ ys)) front e (λ found is. fronted xs ys found is)

  -- one more item
  pub last_found : (xs : List A) (x : A) (front : List B) (last : B) → (each_of read xs).found ≡ Ok front → (read x).found ≡ Ok last → (each_of read (xs ++ x ∷ [])).found ≡ Ok (front ++ last ∷ [])
  last_found xs x front last before now =
      (fronted xs (x ∷ []) front before).found ∙ ap (with_front front) (then_found (read x).fetches (read x).found (pushed_by 0 (Ok [])) last now)

  single_fetches : (n : ℕ) (o : Result B Cause) → (goes_on n o (pushed_by 0 (Ok []))).fetches ≡ n
  single_fetches n (Ok x) = omega arith
  single_fetches n (Err cause) = refl

  pub last_fetches : (xs : List A) (x : A) (front : List B) → (each_of read xs).found ≡ Ok front → (each_of read (xs ++ x ∷ [])).fetches ≡ (each_of read xs).fetches + (read x).fetches
  last_fetches xs x front before =
      (fronted xs (x ∷ []) front before).fetches ∙ ap (λ n. (each_of read xs).fetches + n) (single_fetches (read x).fetches (read x).found)

  -- an item that is refused after some that weren't refuses the whole list
  pub refused_at : (xs ys : List A) (x : A) (front : List B) (cause : Cause) → (each_of read xs).found ≡ Ok front → (read x).found ≡ Err cause → (each_of read (xs ++ x ∷ ys)).found ≡ Err cause
  refused_at xs ys x front cause before now =
      (fronted xs (x ∷ ys) front before).found ∙ ap (with_front front) (then_refused (read x).fetches (read x).found (pushed_by (each_of read ys).fetches (each_of read ys).found) cause now)

  -- what was fetched up to an item is no more than is fetched for the whole list
  pub fetched_so_far : (xs ys : List A) (x : A) (front : List B) → (each_of read xs).found ≡ Ok front → (each_of read xs).fetches + (read x).fetches ≤ (each_of read (xs ++ x ∷ ys)).fetches
  fetched_so_far xs ys x front before =
      omega (arith, (fronted xs (x ∷ ys) front before).fetches, then_more (read x).fetches (read x).found (pushed_by (each_of read ys).fetches (each_of read ys).found))

-- ---- the same of a list that is walked by an index, each of whose items stands for one
module _ {C A B : Type 0} (view : C → A) (read : A → Reading B) (items : List C) (i : ℕ) (d item : C) (inside : i < length items) (is : item ≡ get_or items i d) where
  one_more : map view (take (i + 1) items) ≡ map view (take i items) ++ view item ∷ []
  one_more = ap (map view) (take_more items i d inside) ∙ map-append view (take i items) (get_or items i d ∷ []) ∙ ap (λ c. map view (take i items) ++ view c ∷ []) (sym is)

  whole : map view items ≡ map view (take i items) ++ view item ∷ map view (drop (i + 1) items)
  whole =
      ap (map view) (sym (take-append-drop i items) ∙ ap (λ rest. take i items ++ rest) (drop_more items i d inside))
      ∙ map-append view (take i items) (get_or items i d ∷ drop (i + 1) items)
      ∙ ap (λ c. map view (take i items) ++ view c ∷ map view (drop (i + 1) items)) (sym is)

  pub turn_found : (front : List B) (last : B) → (each_of read (map view (take i items))).found ≡ Ok front → (read (view item)).found ≡ Ok last →
      (each_of read (map view (take (i + 1) items))).found ≡ Ok (front ++ last ∷ [])
  turn_found front last before now = ap (λ xs. (each_of read xs).found) one_more ∙ last_found read (map view (take i items)) (view item) front last before now

  pub turn_fetches : (front : List B) → (each_of read (map view (take i items))).found ≡ Ok front →
      (each_of read (map view (take (i + 1) items))).fetches ≡ (each_of read (map view (take i items))).fetches + (read (view item)).fetches
  turn_fetches front before = ap (λ xs. (each_of read xs).fetches) one_more ∙ last_fetches read (map view (take i items)) (view item) front before

  pub turn_refused : (front : List B) (cause : Cause) → (each_of read (map view (take i items))).found ≡ Ok front → (read (view item)).found ≡ Err cause →
      (each_of read (map view items)).found ≡ Err cause
  turn_refused front cause before now =
      ap (λ xs. (each_of read xs).found) whole ∙ refused_at read (map view (take i items)) (map view (drop (i + 1) items)) (view item) front cause before now

  pub turn_so_far : (front : List B) → (each_of read (map view (take i items))).found ≡ Ok front →
      (each_of read (map view (take i items))).fetches + (read (view item)).fetches ≤ (each_of read (map view items)).fetches
  turn_so_far front before =
      omega (arith, ap (λ xs. (each_of read xs).fetches) whole, fetched_so_far read (map view (take i items)) (map view (drop (i + 1) items)) (view item) front before)
