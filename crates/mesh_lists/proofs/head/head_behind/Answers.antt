use Rattle.std.proofs.Common.{◌≡◌, ◌+◌, ℕ, arith, subst}
use Rattle.mesh_lists.specs.Lines.{LeavesBehind}
use Rattle.mesh_lists.proofs.Heads.{leaves_more}
use Rattle.mesh_lists.proofs.head.head_behind.Goals as goal

pub returns-in-Some-clause-left : goal.returns-in-Some-clause-left
returns-in-Some-clause-left c =
    λ before h.
    let one : 2 + c.args.count + 1 ≡ 3 + c.args.count = omega arith in
    let P : ℕ → Type 0 = λ n. LeavesBehind n before c.in-Some.text.now in
    subst P one (leaves_more (2 + c.args.count) 1 before c.args.text.now c.in-Some.text.now h c.in-Some.ensures.lines.1)
