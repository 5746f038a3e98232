use Rattle.std.proofs.Common.{◌^◌, List, subst, sym}
use Rattle.std.specs.List.{All}
use Rattle.std.proofs.lemmas.List.Elements.{All-filter}
use Rattle.std.proofs.lemmas.Result.{IfOk-weaker}
use Rattle.clip_regions.specs.Regions.{IsWithin}
use Rattle.plan_model.specs.declared.tiles.Piece.{Piece}
use Rattle.plan_plain_steps.proofs.state.PlainState.unfinished_pieces.Goals as goal

abbrev near : Piece → Type 0
near piece = IsWithin (2 ^ 24) piece.cells

pub returns-clause-within : goal.returns-clause-within
returns-clause-within c =
    let all : All near c.as_slice-2.result.now = subst (λ (xs : List Piece). All near xs) (sym c.as_slice-2.ensures.value) c.in_ok-all.ensures.within in
    IfOk-weaker c.unfinished_in.result _ (λ v. All near v.items) (λ v e. subst (λ (xs : List Piece). All near xs) (sym e) (All-filter _ near c.as_slice-2.result.now all)) c.unfinished_in.ensures.value
