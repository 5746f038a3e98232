-- Before the first level nothing is made, and each level adds its parts.
use Rattle.std.proofs.Common.{ℕ, ◌+◌, ◌++◌, ap, refl, sym, subst}
use Rattle.clip_regions.specs.declared.region.Region.{Region}
use Rattle.clip_regions.specs.Regions.{empty_region}
use Rattle.mesh_model.specs.Parts.{square_parts_from}
use Rattle.mesh_plain.proofs.Halves.{empty_active, no_gap, gap_placed}
use Rattle.mesh_plain.proofs.Levels.{drawn_next, squares_more}
use Rattle.mesh_plain.proofs.region_parts.add_squares.Invariants.{HasMade}
use Rattle.mesh_plain.proofs.region_parts.add_squares.Goals as goal

pub loop-active-init : goal.loop-active-init
loop-active-init c =
    subst
    (λ (finer : Region). HasMade 0 0 finer c.args.actives.now (c.args.parts.now.items ++ square_parts_from c.args.vertices.now 0 empty_region c.args.actives.now) c.args.parts.now.items (square_parts_from c.args.vertices.now 0 finer c.args.actives.now))
    (sym c.empty-finer.ensures.value)
    (record { counted = refl; active = empty_active; gap = no_gap; drawn = c.requires.drawn; made = refl })

pub loop-active-preserved : goal.loop-active-preserved
loop-active-preserved c =
    let next = drawn_next c.args.actives.now c.loop-active.active-index c.loop-active.level _ c.loop-active-test.true c.loop-active.invariant.drawn in
    record {
      counted = ap (λ (n : ℕ). n + 1) c.loop-active.invariant.counted;
      active = next.0.active;
      gap = gap_placed c.loop-active.level _ next.0;
      drawn = next.1;
      made = squares_more c.args.vertices.now c.args.actives.now c.loop-active.active-index c.loop-active.level c.loop-active.finer _ c.loop-active.parts.items c.add_square_parts.new.parts.items (c.args.parts.now.items ++ square_parts_from c.args.vertices.now 0 empty_region c.args.actives.now) c.loop-active-test.true c.in_ok-add_square_parts.ensures c.loop-active.invariant.made;
    }
