-- The map that the entries of a `BTreeMap` of files make, as `files_of` reads it.
use Rattle.std.proofs.Common.{◌≡◌, ℕ, Bool, true, false, cond, List, [], ◌∷◌, ◌++◌, Option, Some, String, Vec, BTreeMap, refl, sym, ap, ◌∙◌, string_bytes, option_map}
use Rattle.std.specs.Prelude.{map, bytes_eq}
use Rattle.std.specs.Ordering.{nat_cmp, eq_by_cmp}
use Rattle.std.specs.Cmp.Lexicographic.{slice_cmp, nat_list_cmp_total}
use Rattle.std.specs.Cmp.{eq_by_cmp_equiv}
use Rattle.std.specs.BTreeMap as tree
use Rattle.std.specs.Map.{lookup}
use Rattle.std.specs.String.{string_cmp}
use Rattle.std.specs.declared.alloc.Global.{Global}
use Rattle.std.specs.FinMap as finite
use Rattle.std.proofs.lemmas.Map.Text.{is_eq-slice_cmp, btree_map_updates_text}
use Rattle.outer_shelf.specs.Outside.{Files, files_with}
use Rattle.outer_shelf.specs.Memory.{files_of}

-- a choice may be made before or after the bytes of a file are read
chosen : (b : Bool) (v : Vec ℕ Global) (o : Option (Vec ℕ Global)) →
    cond b (Some v.items) (option_map (λ w. w.items) o) ≡ option_map (λ w. w.items) (cond b (Some v) o)
chosen true v o = refl
chosen false v o = refl

-- the first entry of a name is the same in the list of files and in the list of their bytes
find-lookup : (q : List ℕ) (es : List (String Global × Vec ℕ Global)) →
    finite.find (slice_cmp nat_cmp) q (map (λ e. (string_bytes e.0, e.1.items)) es)
    ≡ option_map (λ v. v.items) (lookup (tree.is_at (λ k. slice_cmp nat_cmp q (string_bytes k))) es)
find-lookup q [] = refl
find-lookup q (e ∷ es) =
    ap (cond (eq_by_cmp (slice_cmp nat_cmp) q (string_bytes e.0)) (Some e.1.items)) (find-lookup q es)
    ∙ chosen (eq_by_cmp (slice_cmp nat_cmp) q (string_bytes e.0)) e.1 _

-- the file of a name is what the entries have at the bytes of the name
pub get-files_of : (m : BTreeMap (String Global) (Vec ℕ Global)) (q : List ℕ) →
    finite.get (files_of m.entries) q ≡ option_map (λ v. v.items) (tree.get_by_text m q)
get-files_of m q = finite.get-from_entries nat_list_cmp_total _ q ∙ find-lookup q m.entries

-- names are compared alike from both sides
turned : (name q : List ℕ) → bytes_eq name q ≡ eq_by_cmp (slice_cmp nat_cmp) q name
turned name q = sym (is_eq-slice_cmp name q) ∙ (eq_by_cmp_equiv nat_list_cmp_total).symm name q

-- to put an entry is to put its file
pub files_of-insert : (m n : BTreeMap (String Global) (Vec ℕ Global)) (name : String Global) (bytes : Vec ℕ Global) →
    tree.Updates string_cmp m n name (Some bytes) →
    files_of n.entries ≡ files_with (string_bytes name) bytes.items (files_of m.entries)
files_of-insert m n name bytes updates =
    finite.same_map nat_list_cmp_total (finite.slice_cmp-IsAntisymmetric finite.nat_cmp-IsAntisymmetric) _ _ (λ q.
    get-files_of n q
    ∙ ap (option_map (λ v. v.items)) (btree_map_updates_text (string_bytes name) m n (Some bytes) updates q)
    ∙ sym (chosen (bytes_eq (string_bytes name) q) bytes (tree.get_by_text m q))
    ∙ ap (λ b. cond b (Some bytes.items) (option_map (λ v. v.items) (tree.get_by_text m q))) (turned (string_bytes name) q)
    ∙ ap (cond (eq_by_cmp (slice_cmp nat_cmp) q (string_bytes name)) (Some bytes.items)) (sym (get-files_of m q))
    ∙ sym (finite.get-insert nat_list_cmp_total (files_of m.entries) (string_bytes name) bytes.items q))

-- the files of a list over those of a map, the first of the list in the end
abbrev pub files_over : List (String Global × Vec ℕ Global) → Files → Files
files_over [] m = m
files_over (e ∷ es) m = files_with (string_bytes e.0) e.1.items (files_over es m)

-- the last of a list may be put first
pub files_over-last : (es : List (String Global × Vec ℕ Global)) (name : String Global) (bytes : Vec ℕ Global) (m : Files) →
    files_over (es ++ (name, bytes) ∷ []) m ≡ files_over es (files_with (string_bytes name) bytes.items m)
files_over-last [] name bytes m = refl
files_over-last (e ∷ es) name bytes m = ap (files_with (string_bytes e.0) e.1.items) (files_over-last es name bytes m)

-- the files of a list are those over none
pub files_over-empty : (es : List (String Global × Vec ℕ Global)) → files_over es finite.empty ≡ files_of es
files_over-empty [] = refl
files_over-empty (e ∷ es) = ap (files_with (string_bytes e.0) e.1.items) (files_over-empty es)
