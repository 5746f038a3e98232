-- The text of a history, one line more.
use Rattle.std.proofs.Common.{◌≡◌, ℕ, ◌+◌, ◌<◌, List, [], ◌∷◌, ◌++◌, length, take, flat_map, get_or, Some, sym, ap, ◌∙◌, append_assoc, append-nil}
use Rattle.std.specs.List.{slice_get}
use Rattle.std.proofs.lemmas.List.{take_more}
use Rattle.std.proofs.lemmas.List.Concat.{flat_map-append}
use Rattle.std.proofs.lemmas.Option.{get_or_from_slice_get, slice_get_within}
use Rattle.plan_model.specs.declared.events.Entry.{Entry}
use Rattle.swarm_plays.specs.Journals.{entry_line}

-- the lines of the entries below i, and of the entry there
pub text_more : (head : List ℕ) (log : List Entry) (i : ℕ) (e : Entry) (text new : List ℕ) → slice_get log i ≡ Some e → text ≡ head ++ flat_map entry_line (take i log) → new ≡ text ++ entry_line e →
    new ≡ head ++ flat_map entry_line (take (i + 1) log)
text_more head log i e text new there is more =
    let low : i < length log = slice_get_within log i e there in
    let here : get_or log i e ≡ e = get_or_from_slice_get log i e e there in
    let next : take (i + 1) log ≡ take i log ++ e ∷ [] = take_more log i e low ∙ ap (λ (x : Entry). take i log ++ x ∷ []) here in
    let one : flat_map entry_line (e ∷ []) ≡ entry_line e = append-nil (entry_line e) in
    more ∙ ap (λ (t : List ℕ). t ++ entry_line e) is ∙ append_assoc head (flat_map entry_line (take i log)) (entry_line e)
    ∙ ap (λ (t : List ℕ). head ++ t) (
    sym (ap (flat_map entry_line) next ∙ flat_map-append entry_line (take i log) (e ∷ []) ∙ ap (λ (t : List ℕ). flat_map entry_line (take i log) ++ t) one))
