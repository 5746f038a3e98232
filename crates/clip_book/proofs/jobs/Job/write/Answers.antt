use Rattle.std.proofs.Common.{◌≡◌, length, ap, sym, ◌∙◌, subst}
use Rattle.clip_regions.specs.Regions.{area}
use Rattle.book_cells.specs.Cells.{IsPainted}
use Rattle.clip_book.specs.Jobs.{JobView, heights_of}
use Rattle.clip_book.proofs.Paints.{as_many, painted}
use Rattle.clip_book.proofs.jobs.Job.write.Goals as goal

pub write-requires-clause-many : goal.write-requires-clause-many
write-requires-clause-many c =
    subst (λ (v : JobView). length c.args.heights.now ≡ area v.note.piece.cells) (sym c.self.view_is) (as_many c.args.self.land.terrain c.args.self.note c.args.heights.now c.requires)

pub returns-clause-painted : goal.returns-clause-painted
returns-clause-painted c =
    subst (λ (v : JobView). IsPainted v.land.terrain v.note.level v.note.piece.cells v.tile c.write.new.self) c.self.view_is (painted c.cells_stand_in_rows.ensures c.self.inside.land.value.terrain c.self.inside.note c.args.heights.now c.self.inside.tile.value c.deref_mut.result.now c.write.new.self (c.requires ∙ ap (λ (v : JobView). heights_of v.land.terrain v.note) (sym c.self.view_is)) c.deref_mut.ensures.value c.write.ensures)
