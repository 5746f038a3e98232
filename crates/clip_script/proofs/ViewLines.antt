-- How the search for the first line that asks for a view goes on by one line.
use Rattle.std.proofs.Common.{◌≡◌, ℕ, ◌+◌, Bool, true, false, not, cond, List, ◌∷◌, sym, subst, arith}
use Rattle.std.proofs.lemmas.Bool.{true≢false}
use Rattle.std.specs.List.{position_or_len}
use Rattle.clip_script.specs.Views.{asks_view}

here_by : (asks : Bool) (number more whole : ℕ) → number + cond (not asks) (1 + more) 0 ≡ whole + 1 → asks ≡ true → number ≡ whole + 1
here_by true number more whole so_far is = omega (arith, so_far)
here_by false number more whole so_far is = absurd (true≢false (sym is))

next_by : (asks : Bool) (number more whole : ℕ) → number + cond (not asks) (1 + more) 0 ≡ whole + 1 → asks ≡ false → number + 1 + more ≡ whole + 1
next_by true number more whole so_far is = absurd (true≢false is)
next_by false number more whole so_far is = omega (arith, so_far)

-- the next line asks for a view
pub view_here : (number whole : ℕ) (all : List (List ℕ)) (line : List ℕ) (rest : List (List ℕ)) →
    number + position_or_len asks_view all ≡ whole + 1 → all ≡ line ∷ rest → asks_view line ≡ true → number ≡ whole + 1
view_here number whole all line rest so_far is asks =
    let P : List (List ℕ) → Type 0 = λ all. number + position_or_len asks_view all ≡ whole + 1 in
    here_by (asks_view line) number (position_or_len asks_view rest) whole (subst P is so_far) asks

-- it doesn't
pub view_behind : (number whole : ℕ) (all : List (List ℕ)) (line : List ℕ) (rest : List (List ℕ)) →
    number + position_or_len asks_view all ≡ whole + 1 → all ≡ line ∷ rest → asks_view line ≡ false →
    number + 1 + position_or_len asks_view rest ≡ whole + 1
view_behind number whole all line rest so_far is none =
    let P : List (List ℕ) → Type 0 = λ all. number + position_or_len asks_view all ≡ whole + 1 in
    next_by (asks_view line) number (position_or_len asks_view rest) whole (subst P is so_far) none
