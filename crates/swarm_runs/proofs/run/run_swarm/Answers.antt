use Rattle.std.proofs.Common.{inr}
use Rattle.clip_script.specs.Scripts.{swarm_view}
use Rattle.swarm_runs.specs.Products.{orders_of}
use Rattle.swarm_runs.specs.Shown.{product_of}
use Rattle.swarm_runs.proofs.Coming.{may_come}
use Rattle.swarm_runs.proofs.run.run_swarm.Goals as goal

pub returns-in-Ok-clause-ends : goal.returns-in-Ok-clause-ends
returns-in-Ok-clause-ends g c =
    let script = c.args.script.now in
    let name = c.args.name.now in
    let run = c.in-Ok.run' in
    let told = c.in-Ok.ensures in
    let shown = c.show.ensures.shown in
    inr (record {
      product = product_of script.k script.levels name run;
      one =
          may_come c.journals_are_play_scripts.ensures c.plays_put_what_histories_close.ensures (orders_of (swarm_view script) c.args.workers c.args.renderers)
          (g.F.Filler.land c.args.filler.now).terrain script.k script.levels name run c.requires.sizes told.legal told.short told.whole told.cut told.long told.frames;
      did = shown.did;
      shelf_calls = shown.shelf_calls;
      sink_calls = shown.sink_calls;
    })
