use Rattle.std.proofs.Common.{ap, ◌∙◌}
use Rattle.terrain_store.specs.Stores.{Stored, land_of}
use Rattle.clip_script.specs.Scripts.{fly_view as script_view}
use Rattle.clipmap_prog.proofs.Demos.{seed_in_range}
use Rattle.clipmap_prog.proofs.demo.stage.Goals as goal

pub returns-in-Ok-pack-clause-flight : goal.returns-in-Ok-pack-clause-flight
returns-in-Ok-pack-clause-flight c = record {
  size = c.in-Ok.ensures.sizes.0;
  levels = c.in-Ok.ensures.sizes.1;
  lines = c.in-Ok.ensures.lines;
  terrain = ap (λ (s : Stored). s.terrain) c.in-Ok-pack.ensures ∙ c.in-Ok.ensures.terrain;
  many = ap (λ (s : Stored). s.head.levels) c.in-Ok-pack.ensures;
}

pub returns-in-Ok-pack-clause-in_range : goal.returns-in-Ok-pack-clause-in_range
returns-in-Ok-pack-clause-in_range c =
    seed_in_range c.args.seed (script_view c.in-Ok.demo.script) (land_of c.in-Ok-pack.store) (returns-in-Ok-pack-clause-flight c) c.in-Ok.ensures.flown
