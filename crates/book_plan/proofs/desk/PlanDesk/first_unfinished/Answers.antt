use Rattle.std.proofs.Common.{List, get_or, ap, sym, ◌∙◌}
use Rattle.plan_model.specs.Strips.{first_of}
use Rattle.book_plan.specs.Slots.{Shelf, empty_shelf, open_pieces}
use Rattle.book_plan.specs.Desks.{Desk, shelf_at}
use Rattle.book_plan.proofs.Finished.{unfinished_are}
use Rattle.book_plan.proofs.desk.PlanDesk.first_unfinished.Goals as goal

pub returns : goal.returns
returns c =
    c.first_open_of.ensures ∙ ap (λ (levels : List Shelf). first_of (open_pieces (get_or levels c.args.level empty_shelf).slots)) c.as_slice.ensures.value ∙ ap (λ (d : Desk). first_of (open_pieces (shelf_at d c.args.level).slots)) c.self.view_is ∙ ap first_of (sym (unfinished_are c.pieces_have_different_blocks.ensures c.args.self.now c.args.level c.requires.standing.slots c.requires.level))
