-- One level more is listed.
use Rattle.std.proofs.Common.{ap, ◌+◌, ℕ}
use Rattle.std.proofs.lemmas.List.Elements.{All-get_or}
use Rattle.mesh_model.specs.Vertices.{listed_vertices}
use Rattle.mesh_plain.specs.Rings.{IsActive}
use Rattle.mesh_plain.proofs.Listed.{level_listed}
use Rattle.mesh_plain.proofs.rings.listed_vertices.Goals as goal

pub loop-active-preserved : goal.loop-active-preserved
loop-active-preserved c = record {
  counted = ap (λ (n : ℕ). n + 1) c.loop-active.invariant.counted;
  active = All-get_or IsActive c.args.actives.now c.loop-active.active-index _ c.loop-active-test.true c.requires.actives;
  listed = level_listed c.args.actives.now c.loop-active.active-index c.loop-active.level c.loop-active.finer _ c.loop-active.listed.items c.add_level.new.listed.items (listed_vertices c.args.actives.now) c.loop-active-test.true c.in_ok-add_level.ensures c.loop-active.invariant.listed;
}
