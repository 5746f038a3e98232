use Rattle.plan_flights.proofs.below.laws_below.Goals as goal

pub returns : goal.returns
returns c = record {
  some_piece = c.regions_have_pieces.ensures;
  few_pieces = c.pieces_are_no_more_than_cells.ensures;
  held_cells = c.held_regions_have_no_more_cells.ensures;
  hull_cells = c.hulls_add_strips.ensures;
  unfilled = c.unfilled_cells_are_the_rest.ensures;
  together = c.finished_and_unfinished_are_all.ensures;
  held = c.inside_is_held.ensures;
  filled_in = c.parts_are_filled_in.ensures;
  hulls = c.hulls_are_even_inside.ensures;
  strips = c.strips_lie_in_windows.ensures;
  unless_whole = c.strips_are_there_unless_whole.ensures;
  need_cells = c.needs_have_cells.ensures;
  needs = c.needs_lie_in_coarser_windows.ensures;
  windows = c.windows_have_cells.ensures;
  legal_more = c.legal_with_one_more.ensures;
  after_more = c.states_after_one_more.ensures;
  moves_leave = c.moves_leave_parts.ensures;
  publications_leave = c.publications_leave_parts.ensures;
  others_keep = c.others_keep_parts.ensures;
  sound_starts = c.starts_are_sound.ensures;
  sound_steps = c.steps_keep_soundness.ensures;
}
