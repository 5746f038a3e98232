use Rattle.std.proofs.Common.{◌≡◌, ◌∷◌, List, ℕ, take, sym, subst}
use Rattle.clip_script.specs.Lines.{words, words_after}
use Rattle.clip_script.proofs.Cuts.{words_cut, to_end}
use Rattle.clip_script.proofs.cut.first_word.Goals as goal

pub returns-clause-value : goal.returns-clause-value
returns-clause-value c =
    let line = c.args.line.now in
    let n = c.place_of-at.result in
    let P : List ℕ → Type 0 = λ rest. words line ≡ take n line ∷ words_after rest in
    subst P (sym (to_end line n)) (words_cut line n c.place_of-at.ensures.value)
