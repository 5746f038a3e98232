use Rattle.std.proofs.Common.{◌≤◌, not, length, vec_len, subst, sym, arith}
use Rattle.std.proofs.lemmas.Result.{IfOk-weaker}
use Rattle.plan_model.specs.Claims.{is_finished}
use Rattle.plan_model.specs.declared.tiles.Piece.{Piece}
use Rattle.plan_plain_steps.proofs.Kept.{kept_few}
use Rattle.plan_plain_steps.proofs.finished.unfinished_in.Goals as goal

pub returns-clause-few : goal.returns-clause-few
returns-clause-few c =
    IfOk-weaker c.unfinished_of.result _ (λ v. vec_len v ≤ length c.args.some.now)
    (λ v e.
    let few : length v.items ≤ length c.args.some.now = subst (λ xs. length xs ≤ length c.args.some.now) (sym e) (kept_few (λ (piece : Piece). not (is_finished c.finished.result.now piece)) c.args.some.now) in
    omega (arith, few, v.ok.0))
    c.unfinished_of.ensures.value
