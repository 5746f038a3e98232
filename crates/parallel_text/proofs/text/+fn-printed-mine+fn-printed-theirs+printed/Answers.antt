-- Both halves, one behind the other.
use Rattle.std.proofs.Common.{◌≡◌, ℕ, List, ◌++◌, ◌∙◌, ap, sym, append_assoc}
use Rattle.std.specs.List.{flat_map}
use Rattle.std.proofs.lemmas.Result.{IfOk-at_ok}
use mathlib.Core.Path.{ap₂}
use Rattle.parallel_text.specs.declared.texts.Texts.{Texts}
use Rattle.parallel_text.specs.Lines.{lines_text}
use Rattle.parallel_text.proofs.text.+fn-printed-mine+fn-printed-theirs+printed.Goals as goal

-- the parts of a text, one after another
whole : Texts → List ℕ
whole texts = texts.first.items ++ flat_map (λ other. other.items) texts.others.items

pub returns : goal.returns
unfolding whole
returns g n c =
    let front = c.halves.result.0 in
    let back = c.halves.result.1 in
    let first = lines_text front.vertices.now front.triangles.now in
    let second = lines_text back.vertices.now back.triangles.now in
    let behind = IfOk-at_ok (λ (new : Texts). whole new ≡ second) c.in_ok-behind.was c.join-behind.ensures.first in
    let before = IfOk-at_ok (λ (new : Texts). whole new ≡ c.args.text.items ++ first) c.in_ok-before.was c.join-behind.ensures.second in
    c.in_ok-texts.ensures
    ∙ ap₂ (λ xs ys. xs ++ ys) before behind
    ∙ append_assoc c.args.text.items first second
    ∙ ap (λ xs. c.args.text.items ++ xs) (sym c.halves.ensures)
