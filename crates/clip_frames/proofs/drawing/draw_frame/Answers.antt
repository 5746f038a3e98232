use Rattle.clip_frames.proofs.ReadLevels.{copies_are}
use Rattle.clip_frames.proofs.drawing.draw_frame.Goals as goal

pub draw_copies-requires : goal.draw_copies-requires
draw_copies-requires g c = record {
  copies = copies_are c.args.clip.now.land.terrain c.in_ok-copies.copies c.in_ok-copies.ensures.heights;
}
