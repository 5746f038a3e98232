use Rattle.std.proofs.Common.{◌≡◌, ◌∷◌, List, ℕ, take, sym, subst}
use Rattle.clip_script.specs.Lines.{lines}
use Rattle.clip_script.proofs.Cuts.{lines_cut}
use Rattle.clip_script.proofs.cut.next_line.Goals as goal

pub returns-clause-value : goal.returns-clause-value
returns-clause-value c =
    let text = c.args.text.now in
    let n = c.place_of-at.result in
    let P : List ℕ → Type 0 = λ rest. lines text ≡ take n text ∷ lines rest in
    subst P (sym c.text_behind.ensures) (lines_cut text n c.place_of-at.ensures.value c.requires)
