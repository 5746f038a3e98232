use Rattle.std.proofs.Common.{◌≡◌, ℕ, ◌+◌, List, [], ◌∷◌, length, sym, ap, ◌∙◌, subst, arith, length-append}
use Rattle.clip_gate.specs.Passes.{PassView}
use Rattle.swarm_passes.specs.Playing.{left_from, IsStarted, AreStarted}
use Rattle.swarm_passes.proofs.Started.{started_more}
use Rattle.clip_swarm.proofs.passes.others_of.Goals as goal

pub loop-made-preserved : goal.loop-made-preserved
loop-made-preserved c =
    let all = c.loop-made.all.items in
    let other = c.split_off-other.result in
    let many = c.loop-made.invariant.many in
    let next : (c.loop-made.made + 1) + 1 ≡ 1 + (c.loop-made.made + 1) = omega arith in
    let place : c.loop-made.made + 1 ≡ 1 + length c.loop-made.all.items = omega arith in
    record {
      first = c.split_off-other.ensures.first;
      left = c.split_off-other.ensures.left ∙ ap left_from next;
      many = ap (λ (l : List PassView). length l) c.in_ok-put.ensures ∙ length-append all (other ∷ []) ∙ ap (λ (n : ℕ). n + 1) many;
      others = subst (λ (l : List PassView). AreStarted c.args.clip.now 1 l) (sym c.in_ok-put.ensures)
          (started_more c.args.clip.now 1 all other c.loop-made.invariant.others (subst (λ (n : ℕ). IsStarted c.args.clip.now n other) place c.split_off-other.ensures.other));
    }
