-- One more active region at each turn, of the next finer level.
use Rattle.std.proofs.Common.{◌≡◌, ℕ, ◌+◌, ◌-◌, ◌^◌, ◌<◌, ◌≤◌, List, length, take, drop, replicate, get_or, ap, sym, ◌∙◌, subst, arith}
use Rattle.std.proofs.lemmas.List.Elements.{All-same, All-drop}
use Rattle.std.proofs.Math.ListN.{set}
use Rattle.clip_regions.specs.declared.region.Region.{Region}
use Rattle.clip_regions.specs.Regions.{IsWithin}
use Rattle.plan_model.specs.Actives.{actives_by, active_of}
use Rattle.plan_model.specs.Window.{margin}
use Rattle.active_region.specs.Active.{IsNearOrEmpty}
use Rattle.active_region.proofs.Drawn.{IsMadeFrom, none_made, made_above, one_more, all_made, actives_within}
use Rattle.active_region.proofs.drawing.twelve.Goals as goal

pub loop-level-init : goal.loop-level-init
loop-level-init c = record {
  above = omega arith;
  made = subst (λ (r : Region). IsMadeFrom (margin c.args.k) (length c.args.filled.now) c.args.filled.now (replicate 12 r)) (sym c.empty-regions.ensures.value) (none_made (margin c.args.k) c.args.filled.now c.requires.many);
}

-- the level of this turn has one above it from which all is made
above : (e level : ℕ) (filled regions : List Region) → 0 < level → IsMadeFrom e level filled regions → IsMadeFrom e (level - 1 + 1) filled regions
above e level filled regions some made =
    let same : level ≡ level - 1 + 1 = omega arith in
    subst (λ (l : ℕ). IsMadeFrom e l filled regions) same made

coarser : (e level : ℕ) (filled regions : List Region) → 0 < level → level ≤ length filled → IsMadeFrom e level filled regions → take (length filled - (level - 1 + 1)) (drop (level - 1 + 1) regions) ≡ actives_by e (drop (level - 1 + 1) filled)
coarser e level filled regions some few made =
    made_above e (level - 1 + 1) filled regions (omega arith) (above e level filled regions some made)

pub active_of-active-requires-clause-coarser : goal.active_of-active-requires-clause-coarser
active_of-active-requires-clause-coarser c =
    All-same (IsWithin (2 ^ 24)) _ (actives_by (margin c.args.k) (drop (c.loop-level.level - 1 + 1) c.args.filled.now)) (coarser (margin c.args.k) c.loop-level.level c.args.filled.now c.loop-level.regions (omega arith) (omega arith) c.loop-level.invariant.made)
    (actives_within (margin c.args.k) (drop (c.loop-level.level - 1 + 1) c.args.filled.now) (All-drop IsNearOrEmpty (c.loop-level.level - 1 + 1) c.args.filled.now c.requires.filled))

pub loop-level-preserved : goal.loop-level-preserved
loop-level-preserved c =
    let others = coarser (margin c.args.k) c.loop-level.level c.args.filled.now c.loop-level.regions (omega arith) (omega arith) c.loop-level.invariant.made in
    record {
      above = omega arith;
      made = subst (λ (r : Region). IsMadeFrom (margin c.args.k) (c.loop-level.level - 1) c.args.filled.now (set c.loop-level.regions (c.loop-level.level - 1) r)) (sym (c.active_of-active.ensures.value ∙ ap (active_of (margin c.args.k) (get_or c.args.filled.now (c.loop-level.level - 1) _)) others)) (one_more (margin c.args.k) (c.loop-level.level - 1) c.args.filled.now c.loop-level.regions _ (omega arith) c.requires.many (above (margin c.args.k) c.loop-level.level c.args.filled.now c.loop-level.regions (omega arith) c.loop-level.invariant.made));
    }

pub returns : goal.returns
returns c =
    let done : c.loop-level.level ≡ c.args.finest = omega (arith, c.from-level-start.ensures) in
    record {
      value = all_made c.args.k c.args.finest c.args.filled.now c.loop-level.regions (omega arith) (subst (λ (level : ℕ). IsMadeFrom (margin c.args.k) level c.args.filled.now c.loop-level.regions) done c.loop-level.invariant.made);
    }
