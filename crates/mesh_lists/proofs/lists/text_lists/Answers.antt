use Rattle.std.proofs.Common.{◌≡◌, ℕ, sym, subst, Result, Ok}
use Rattle.std.proofs.lemmas.Result.{err_from_is_err_and}
use Rattle.std.specs.Result.{MatchResult}
use Rattle.mesh_lists.specs.Lists.{Lists, IsStop}
use Rattle.mesh_lists.proofs.Bodies.{stop_ended, text_behind}
use Rattle.mesh_lists.proofs.lists.text_lists.Goals as goal

pub returns-in_err-head : goal.returns-in_err-head
returns-in_err-head c =
    let p = err_from_is_err_and c.from_residual.result c.from_residual.ensures.1 in
    record { lists = rw (p.1, p.2) (stop_ended c.args.bytes.now _ c.in_err-head.ensures.lists) }

pub returns : goal.returns
returns c =
    let head = c.in_ok-head.head in
    let is = text_behind c.args.bytes.now head.text.now head.lines head.border c.in_ok-head.ensures.lists c.in_ok-head.ensures.left in
    let P : Result Lists ℕ → Type 0 = λ whole. MatchResult c.read_body.result (λ lists. whole ≡ Ok lists) (IsStop whole) in
    record { lists = subst P (sym is) c.read_body.ensures.lists }
