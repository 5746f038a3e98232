use Rattle.std.proofs.Common.{◌≡◌, ◌∷◌, List, ℕ, take, sym, subst}
use Rattle.mesh_lists.specs.Lines.{parts_at, parts_after}
use Rattle.mesh_lists.proofs.Cuts.{parts_cut_at, to_end}
use Rattle.mesh_lists.proofs.cut.first_part.Goals as goal

pub returns : goal.returns
returns c =
    let text = c.args.text.now in
    let byte = c.args.byte in
    let n = c.place_of-at.result in
    let P : List ℕ → Type 0 = λ rest. parts_at byte text ≡ take n text ∷ parts_after byte rest in
    record { value = subst P (sym (to_end text n)) (parts_cut_at byte text n c.place_of-at.ensures.value) }
