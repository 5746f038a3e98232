use Rattle.std.proofs.Common.{◌≡◌, ◌∙◌, ◌++◌, ◌+◌, ◌-◌, ◌<◌, ℕ, List, suc, ap, sym, subst, arith}
use mathlib.Core.Path.{ap₂}
use Rattle.store_model.specs.Restored.{canonical_level}
use Rattle.store_writer.specs.declared.coarser.Coarser.{Coarser}
use Rattle.store_writer.specs.Coarser.{coarser_height, AreRestored}
use Rattle.store_writer.proofs.Steps.{front, front_none, front_more, front_all, coarsest_level, finer_level}
use Rattle.store_writer.proofs.store.store_of.Goals as goal
use Rattle.store_writer.proofs.store.store_of.Goals.{then-level-gt0+in_ok-coarser, else-level-gt0}

pub loop-n-init : goal.loop-n-init
loop-n-init c =
    let t = c.args.grid.now in
    let levels = c.args.levels in
    let step = c.args.step in
    record {
      bytes =
          c.in_ok-append_heights.ensures
          ∙ ap₂ (λ (xs ys : List ℕ). xs ++ ys) (c.in_ok-out.ensures ∙ sym (front_none c.args.version t levels step)) (coarsest_level t levels step c.requires.some)
          ∙ sym (front_more c.args.version t levels step 0);
      coarser = λ h. c.coarsest-coarser.ensures;
    }

pub loop-n-preserved : goal.loop-n-preserved
loop-n-preserved c =
    let t = c.args.grid.now in
    let levels = c.args.levels in
    let step = c.args.step in
    let n = c.loop-n.n in
    let level = levels - 1 - n in
    let below : n < levels = omega arith in
    let above : levels - n ≡ level + 1 = omega arith in
    let here : levels - suc n ≡ level = omega arith in
    let C = coarser_height c.loop-n.coarser in
    let known : AreRestored C t levels step (level + 1) = subst (λ (l : ℕ). AreRestored C t levels step l) above (c.loop-n.invariant.coarser below) in
    record {
      bytes =
          c.in_ok-append_words.ensures
          ∙ ap₂ (λ (xs ys : List ℕ). xs ++ ys) c.loop-n.invariant.bytes
          (finer_level C t levels step level (omega arith) known ∙ ap (canonical_level t levels step) (sym here))
          ∙ sym (front_more c.args.version t levels step n);
      coarser = λ (more : n + 1 < levels).
          let next : levels - (n + 1) ≡ level = omega arith in
          elim c.if-level-gt0.branch [
            | then-level-gt0+in_ok-coarser w ↦
                subst (λ (l : ℕ). AreRestored (coarser_height c.if-level-gt0.coarser) t levels step l) (sym next)
                (subst (λ (x : Coarser). AreRestored (coarser_height x) t levels step level) (sym w.coarser-is) w.in_ok-coarser.ensures)
            | else-level-gt0 w ↦ absurd (omega (arith, w.if-level-gt0.false))
          ];
    }

pub returns : goal.returns
returns c =
    let whole : c.loop-n.n ≡ c.args.levels = omega arith in
    c.loop-n.invariant.bytes
    ∙ ap (front c.args.version c.args.grid.now c.args.levels c.args.step) whole
    ∙ front_all c.args.version c.args.grid.now c.args.levels c.args.step
