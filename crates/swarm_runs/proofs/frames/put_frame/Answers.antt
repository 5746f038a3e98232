use Rattle.std.proofs.Common.{◌≡◌, [], ◌∷◌, ap, ◌∙◌}
use Rattle.clip_desk.specs.Frames.{frame_name}
use Rattle.swarm_runs.specs.Products.{frame_put}
use Rattle.swarm_runs.proofs.Putting.{put_none, put_one}
use Rattle.swarm_runs.proofs.frames.put_frame.Goals as goal

pub returns-in-Ok : goal.returns-in-Ok
returns-in-Ok g c =
    let name = c.args.name.now in
    let named : c.as_str.result.now ≡ frame_name name c.args.frame.now.number = c.as_str.ensures.value ∙ c.in-Ok.ensures.name ∙ ap (frame_name name) c.number.ensures in
    put_one g.S.Shelf.leaves name c.as_str.result.now c.bytes.result.now c.args.frame.now c.put.result
    (g.S.Shelf.told c.args.shelf.now) (g.S.Shelf.told c.put.new.shelf) named c.bytes.ensures c.put.ensures.ends c.put.ensures.calls c.put.ensures.reason c.put.ensures.faults_stay

pub returns-in-Err : goal.returns-in-Err
returns-in-Err g c = put_none g.S.Shelf.leaves (frame_put c.args.name.now c.args.frame.now ∷ []) (g.S.Shelf.told c.args.shelf.now)
