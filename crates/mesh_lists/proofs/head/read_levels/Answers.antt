use Rattle.std.proofs.Common.{◌≡◌, ◌-◌, ◌+◌, ◌∷◌, ◌++◌, [], ◌^◌, suc, List, sym, ap, subst, ◌∙◌, arith, length, length-append, append_assoc, append-nil, All, refl}
use Rattle.clip_regions.specs.declared.region.Region.{Region}
use Rattle.clip_regions.specs.Regions.{IsWithin}
use Rattle.mesh_lists.specs.Lines.{whole_lines}
use Rattle.mesh_lists.specs.Lists.{level_regions}
use Rattle.mesh_lists.proofs.Heads.{level_none, level_next, leaves_none, leaves_more, all_more, all_none}
use Rattle.mesh_lists.proofs.head.read_levels.Goals as goal

pub loop-level-init : goal.loop-level-init
loop-level-init c =
    let lines = whole_lines c.args.text.now in
    let none : c.new-regions.result.items ≡ [] = c.new-regions.ensures.items in
    let P : List Region → Type 0 = λ items. level_regions 12 0 lines ≡ items ++ level_regions 12 0 lines in
    let Q : List Region → Type 0 = λ items. All (IsWithin (2 ^ 24)) items in
    record { same = subst P (sym none) refl; counted = ap length none; left = leaves_none c.args.text.now; within = subst Q (sym none) (all_none (IsWithin (2 ^ 24))) }

pub returns-in-None-clause-regions : goal.returns-in-None-clause-regions
returns-in-None-clause-regions c =
    let level = c.loop-level.level in
    let lines = whole_lines c.loop-level.text.now in
    let most : 12 - level ≡ suc (12 - (level + 1)) = omega arith in
    let none : level_regions (12 - level) level lines ≡ [] = rw most (level_none (12 - (level + 1)) level lines c.in-None.ensures.value) in
    sym (c.loop-level.invariant.same ∙ ap (λ (more : List Region). c.loop-level.regions.items ++ more) none ∙ append-nil c.loop-level.regions.items)

pub returns-in-None-clause-left : goal.returns-in-None-clause-left
returns-in-None-clause-left c = rw c.loop-level.invariant.counted c.loop-level.invariant.left

pub returns-in-None-clause-few : goal.returns-in-None-clause-few
returns-in-None-clause-few c = omega (arith, c.loop-level.invariant.counted)

pub returns-in-None-clause-within : goal.returns-in-None-clause-within
returns-in-None-clause-within c = c.loop-level.invariant.within

pub loop-level-preserved : goal.loop-level-preserved
loop-level-preserved c =
    let level = c.loop-level.level in
    let items = c.loop-level.regions.items in
    let lines = whole_lines c.loop-level.text.now in
    let said = c.in-Some.line.said in
    let rest = whole_lines c.in-Some.line.text.now in
    let most : 12 - level ≡ suc (12 - (level + 1)) = omega arith in
    let next : level_regions (12 - level) level lines ≡ said ∷ level_regions (12 - (level + 1)) (level + 1) rest =
    rw most (level_next (12 - (level + 1)) level lines rest said _ c.in-Some.ensures.value c.in-Some.ensures.left.lines) in
    let more = level_regions (12 - (level + 1)) (level + 1) rest in
    let all : level_regions 12 0 (whole_lines c.args.text.now) ≡ (items ++ said ∷ []) ++ more =
    c.loop-level.invariant.same ∙ ap (λ (more : List Region). items ++ more) next ∙ sym (append_assoc items (said ∷ []) more) in
    let grown = c.in_ok-append-in-Some.ensures.ok in
    let P : List Region → Type 0 = λ items. level_regions 12 0 (whole_lines c.args.text.now) ≡ items ++ more in
    let Q : List Region → Type 0 = λ items. All (IsWithin (2 ^ 24)) items in
    record {
      same = subst P (sym grown) all;
      counted = omega (arith, ap length grown, length-append items (said ∷ []), c.loop-level.invariant.counted);
      left = leaves_more level 1 c.args.text.now c.loop-level.text.now c.in-Some.line.text.now c.loop-level.invariant.left c.in-Some.ensures.left;
      within = subst Q (sym grown) (all_more (IsWithin (2 ^ 24)) items said c.loop-level.invariant.within c.in-Some.ensures.fits);
    }

pub returns-clause-regions : goal.returns-clause-regions
returns-clause-regions c =
    let level = c.loop-level.level in
    let lines = whole_lines c.loop-level.text.now in
    let most : 12 - level ≡ 0 = omega arith in
    let none : level_regions (12 - level) level lines ≡ [] = rw most refl in
    sym (c.loop-level.invariant.same ∙ ap (λ (more : List Region). c.loop-level.regions.items ++ more) none ∙ append-nil c.loop-level.regions.items)

pub returns-clause-left : goal.returns-clause-left
returns-clause-left c = rw c.loop-level.invariant.counted c.loop-level.invariant.left

pub returns-clause-few : goal.returns-clause-few
returns-clause-few c = omega (arith, c.loop-level.invariant.counted)

pub returns-clause-within : goal.returns-clause-within
returns-clause-within c = c.loop-level.invariant.within
