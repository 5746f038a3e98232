-- Lists from a place on.
use Rattle.std.proofs.Common.{◌≡◌, ℕ, ◌+◌, ◌<◌, List, ◌∷◌, length, drop, get_or, ap, sym, ◌∙◌}
use Rattle.std.proofs.lemmas.List.{at_drop_more}

-- the element there and the others
pub next_of : {A : Type 0} (xs : List A) (i : ℕ) (it : A) → i < length xs → it ≡ get_or xs i it → drop i xs ≡ it ∷ drop (i + 1) xs
next_of xs i it there is = at_drop_more (λ l. l) xs i it there ∙ ap (λ x. x ∷ drop (i + 1) xs) (sym is)
