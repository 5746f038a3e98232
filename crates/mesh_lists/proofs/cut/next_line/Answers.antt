use Rattle.std.proofs.Common.{◌≡◌, ◌+◌, ◌∷◌, List, ℕ, take, length, sym, subst, arith, refl}
use Rattle.std.proofs.lemmas.Slice.{between_to_end}
use Rattle.mesh_lists.specs.Lines.{cut_line, whole_lines}
use Rattle.mesh_lists.proofs.Cuts.{lines_cut, end_cut, no_lines, only_end, found_byte, no_byte}
use Rattle.mesh_lists.proofs.cut.next_line.Goals as goal

pub returns-in-None-clause-lines : goal.returns-in-None-clause-lines
returns-in-None-clause-lines c = let text = c.args.text.now in no_lines text (length text) (no_byte text 10 c.in-None.ensures) refl

pub returns-in-None-clause-end : goal.returns-in-None-clause-end
returns-in-None-clause-end c = let text = c.args.text.now in only_end text (length text) (no_byte text 10 c.in-None.ensures) refl

pub returns-in-Some-clause-lines : goal.returns-in-Some-clause-lines
returns-in-Some-clause-lines c =
    let text = c.args.text.now in
    let n = c.in-Some.at in
    let P : List ℕ → Type 0 = λ rest. whole_lines text ≡ take n text ∷ whole_lines rest in
    let high = c.in-Some.ensures.0.high in
    subst P (sym (between_to_end text (n + 1) (length text) (omega arith))) (lines_cut text n (found_byte text 10 n c.in-Some.ensures) high)

pub returns-in-Some-clause-end : goal.returns-in-Some-clause-end
returns-in-Some-clause-end c =
    let text = c.args.text.now in
    let n = c.in-Some.at in
    let P : List ℕ → Type 0 = λ rest. cut_line text ≡ cut_line rest in
    let high = c.in-Some.ensures.0.high in
    subst P (sym (between_to_end text (n + 1) (length text) (omega arith))) (end_cut text n (found_byte text 10 n c.in-Some.ensures) high)
