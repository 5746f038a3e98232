-- The rest of the walk gives the rest of the stitches.
use Rattle.std.proofs.Common.{◌≡◌, ℕ, ◌-◌, List, [], ◌∷◌, ◌++◌, length, get_or, take, drop, ap, sym, ◌∙◌, append_assoc, append-nil, arith}
use Rattle.std.proofs.lemmas.Slice.{between_to_end}
use Rattle.mesh_model.specs.Parts.{stitches_along}
use Rattle.mesh_plain.proofs.Walks.{next_steps, no_steps}
use Rattle.mesh_plain.proofs.stitches.two_steps.Goals as goal

pub loop-rest-preserved : goal.loop-rest-preserved
loop-rest-preserved c =
    let rest : List ℕ = c.loop-rest.rest.now in
    let after : List ℕ = take (length rest - 2) (drop 2 rest) in
    let triangle : List ℕ = get_or rest 0 0 ∷ get_or rest 1 0 ∷ get_or rest 2 0 ∷ [] in
    let two_on : after ≡ drop 2 rest = between_to_end rest 2 (length rest) (omega arith) in
    let steps : triangle ∷ stitches_along after ≡ stitches_along rest =
    ap (λ walk. triangle ∷ stitches_along walk) two_on ∙ sym (next_steps rest c.loop-rest-test.true) in
    ap (λ stitches. stitches ++ stitches_along after) c.in_ok-push.ensures.items
    ∙ append_assoc c.loop-rest.stitches.items (triangle ∷ []) (stitches_along after)
    ∙ ap (λ later. c.loop-rest.stitches.items ++ later) steps
    ∙ c.loop-rest.invariant

pub returns : goal.returns
returns c =
    sym (append-nil c.loop-rest.stitches.items)
    ∙ ap (λ later. c.loop-rest.stitches.items ++ later) (sym (no_steps c.loop-rest.rest.now c.loop-rest-test.false))
    ∙ c.loop-rest.invariant
