-- What the relation of a run says on a small list of actions: ends that it has, and ends that it rules out.
use Rattle.std.proofs.Common.{◌≡◌, ℕ, Bool, true, false, cond, List, [], ◌∷◌, Option, Some, None, Ok, Err, inl, inr, refl, sym, ap, ◌∙◌}
use Rattle.std.specs.Ordering.{nat_cmp, eq_by_cmp}
use Rattle.std.specs.Cmp.Lexicographic.{slice_cmp, nat_list_cmp_total}
use Rattle.std.specs.Prelude.{⊤, option_and_then}
use Rattle.std.specs.FinMap as map
use Rattle.outer_shelf.specs.Outside.{Files, files_with}
use Rattle.run_actions.specs.Actions.{Action, Put, Write, Content}
use Rattle.run_actions.specs.Runs.{Leaving, Did}
use Rattle.run_actions.specs.declared.halt.Halt.TheVariants as halt

-- a file is put under the name `a`, and then two bytes are written
abbrev both : List Action
both = Put (97 ∷ []) (1 ∷ []) ∷ Write (2 ∷ 3 ∷ []) ∷ []

abbrev anything : Leaving
anything name bytes before now = ⊤

-- an outside with these bytes under one name, or with no file, and these bytes written
abbrev no_file : List ℕ → Content
no_file written = record { files = Some map.empty; written = Some written }

abbrev one_file : List ℕ → List ℕ → List ℕ → Content
one_file name bytes written = record { files = Some (files_with name bytes map.empty); written = Some written }

all_done : Did {A = Unit {0}} anything both (Ok tt) (no_file []) (one_file (97 ∷ []) (1 ∷ []) (2 ∷ 3 ∷ []))
all_done = record { files = refl; written = refl }

nothing_done : Did {A = Unit {0}} anything both (Err halt.ShelfFailed) (no_file []) (no_file [])
nothing_done = inl (record { files = refl; written = refl })

cond_twice : {A : Type 0} (b : Bool) (x y z : A) → cond b x (cond b y z) ≡ cond b x z
cond_twice true x y z = refl
cond_twice false x y z = refl

-- without that name a file under it isn't seen
removed : (name bytes : List ℕ) → map.remove (files_with name bytes map.empty) name ≡ map.remove map.empty name
removed name bytes =
    map.same_map nat_list_cmp_total (map.slice_cmp-IsAntisymmetric map.nat_cmp-IsAntisymmetric) (map.remove (files_with name bytes map.empty) name) (map.remove map.empty name) (λ q.
    map.get-remove nat_list_cmp_total (files_with name bytes map.empty) name q
    ∙ ap (cond (eq_by_cmp (slice_cmp nat_cmp) q name) None) (map.get-insert nat_list_cmp_total map.empty name bytes q)
    ∙ cond_twice (eq_by_cmp (slice_cmp nat_cmp) q name) None (Some bytes) (map.get map.empty q)
    ∙ sym (map.get-remove nat_list_cmp_total map.empty name q))

stopped_at_the_put : Did {A = Unit {0}} anything both (Err halt.ShelfFailed) (no_file []) (one_file (97 ∷ []) (9 ∷ []) [])
stopped_at_the_put = inr (inl (record { left = tt; elsewhere = ap Some (removed (97 ∷ []) (9 ∷ [])); written = refl }))

stopped_between : Did {A = Unit {0}} anything both (Err halt.NoMemory) (no_file []) (one_file (97 ∷ []) (1 ∷ []) [])
stopped_between = inr (inr (inl (record { files = refl; written = refl })))

stopped_in_the_write : Did {A = Unit {0}} anything both (Err halt.SinkFailed) (no_file []) (one_file (97 ∷ []) (1 ∷ []) (2 ∷ []))
stopped_in_the_write = inr (inr (inr (inl (record { files = refl; front = record { count = 1; bytes = refl } }))))

-- the file of a name, of files that are told
abbrev file_at : List ℕ → Option Files → Option (List ℕ)
file_at name files = option_and_then (λ m. map.get m name) files

none_there : (name : List ℕ) → map.get (map.empty {X = List ℕ} {R = slice_cmp nat_cmp}) name ≡ None
none_there name = map.get-empty (slice_cmp nat_cmp) name

one_there : map.get (files_with (98 ∷ []) [] map.empty) (98 ∷ []) ≡ Some []
one_there = map.get-insert nat_list_cmp_total map.empty (98 ∷ []) [] (98 ∷ [])

not_there : (bytes : List ℕ) → map.get (files_with (97 ∷ []) bytes map.empty) (98 ∷ []) ≡ None
not_there bytes = map.get-insert nat_list_cmp_total map.empty (97 ∷ []) bytes (98 ∷ []) ∙ none_there (98 ∷ [])

still_there : map.get (map.remove (files_with (98 ∷ []) [] map.empty) (97 ∷ [])) (98 ∷ []) ≡ Some []
still_there = map.get-remove nat_list_cmp_total (files_with (98 ∷ []) [] map.empty) (97 ∷ []) (98 ∷ []) ∙ one_there

put_of_another_name : Did {A = Unit {0}} anything both (Err halt.ShelfFailed) (no_file []) (one_file (98 ∷ []) [] []) → ⊥
put_of_another_name (inl same) =
    let e : Some [] ≡ None = sym one_there ∙ ap (file_at (98 ∷ [])) same.files ∙ none_there (98 ∷ []) in cc
put_of_another_name (inr (inl put)) =
    let gone : map.get (map.remove (map.empty {X = List ℕ} {R = slice_cmp nat_cmp}) (97 ∷ [])) (98 ∷ []) ≡ None = map.get-remove nat_list_cmp_total map.empty (97 ∷ []) (98 ∷ []) ∙ none_there (98 ∷ []) in
    let e : Some [] ≡ None = sym still_there ∙ ap (file_at (98 ∷ [])) put.elsewhere ∙ gone in cc
put_of_another_name (inr (inr (inl same))) =
    let e : Some [] ≡ None = sym one_there ∙ ap (file_at (98 ∷ [])) same.files ∙ not_there (1 ∷ []) in cc
put_of_another_name (inr (inr (inr (inl write)))) = write
put_of_another_name (inr (inr (inr (inr same)))) =
    let e : Some [] ≡ None = sym one_there ∙ ap (file_at (98 ∷ [])) same.files ∙ not_there (1 ∷ []) in cc

put_there : map.get (files_with (97 ∷ []) (1 ∷ []) map.empty) (97 ∷ []) ≡ Some (1 ∷ [])
put_there = map.get-insert nat_list_cmp_total map.empty (97 ∷ []) (1 ∷ []) (97 ∷ [])

none_or_some : (bytes : List ℕ) (file : Option (List ℕ)) → file ≡ Some bytes → file ≡ None → ⊥
none_or_some bytes file some none = cc

line_before_its_put : Did {A = Unit {0}} anything both (Err halt.ShelfFailed) (no_file []) (no_file (2 ∷ 3 ∷ [])) → ⊥
line_before_its_put (inl same) = let e = same.written in cc
line_before_its_put (inr (inl put)) = let e = put.written in cc
line_before_its_put (inr (inr (inl same))) = let e = same.written in cc
line_before_its_put (inr (inr (inr (inl write)))) = write
line_before_its_put (inr (inr (inr (inr same)))) =
    none_or_some (1 ∷ []) (map.get map.empty (97 ∷ [])) (ap (file_at (97 ∷ [])) same.files ∙ put_there) (none_there (97 ∷ []))
