-- A frame has the active regions of a plan, so its mesh is watertight.
use Rattle.active_region.proofs.Kept.{actives_are_drawn}
use Rattle.run_laws.proofs.Drawn.{EventLaws}
use Rattle.course_laws.proofs.Whole.{courses_put}
use Rattle.course_laws.proofs.laws.puts_are_watertight.Goals as goal

pub returns : goal.returns
returns c =
    let laws : EventLaws = record {
      drawn = actives_are_drawn c.windows_are_near.ensures c.actives_are_as_many.ensures c.actives_lie_in_windows.ensures c.actives_are_nested.ensures;
      steps = c.steps_keep_soundness.ensures;
      sizes = c.sizes_are_kept.ensures;
      wider = c.sound_bounds_widen.ensures;
      keep = c.kept_by_each_step.ensures;
      begin = c.steps_begin_frames.ensures;
    } in
    record { courses = courses_put c.meshes_are_watertight.ensures.frames c.frame_texts_are_judged_watertight.ensures.frames laws c.windows_have_even_corners.ensures c.starts_are_sound.ensures c.kept_at_the_start.ensures c.flights_are_legal.ensures }
