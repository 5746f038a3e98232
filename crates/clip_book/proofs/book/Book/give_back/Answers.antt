use Rattle.std.specs.Int.{w32}
use mir.Val.{SFits}
use Rattle.std.proofs.Common.{rules, subst, ◌∙◌}
use Rattle.clip_book.specs.Answers.{IsGivenAnswer}
use Rattle.clip_book.proofs.Standing.{job_level, job_tile_there, given_stands, filled_inside, tile_read}
use Rattle.clip_book.proofs.AnswersOf.{finish_answers}
use Rattle.clip_book.proofs.book.Book.give_back.Goals as goal

pub bring_home-requires-clause-level : goal.bring_home-requires-clause-level
bring_home-requires-clause-level c =
    let fx : SFits w32 c.job.inside.note.piece.bx = search rules in
    let fy : SFits w32 c.job.inside.note.piece.by = search rules in
    let its = filled_inside c.args.pass (record { plan = c.self.inside.plan; land = c.self.inside.shape; handed = c.self.inside.tiles.handed }) c.args.self.now (record { land = c.job.inside.land.value; note = c.job.inside.note; tile = c.job.inside.tile.value }) c.args.job c.self.view_is c.job.view_is c.requires.job in
    job_level c.self.inside.plan c.self.inside.shape c.self.inside.tiles c.args.pass c.job.inside.note c.self.invariant its.note

pub bring_home-requires-clause-there : goal.bring_home-requires-clause-there
bring_home-requires-clause-there c =
    let fx : SFits w32 c.job.inside.note.piece.bx = search rules in
    let fy : SFits w32 c.job.inside.note.piece.by = search rules in
    let its = filled_inside c.args.pass (record { plan = c.self.inside.plan; land = c.self.inside.shape; handed = c.self.inside.tiles.handed }) c.args.self.now (record { land = c.job.inside.land.value; note = c.job.inside.note; tile = c.job.inside.tile.value }) c.args.job c.self.view_is c.job.view_is c.requires.job in
    job_tile_there c.self.inside.plan c.self.inside.shape c.self.inside.tiles c.args.pass c.job.inside.note c.tile_of-id.result c.self.invariant its.note (c.tile_of-id.ensures.value ∙ tile_read c.k.result c.self.inside.plan.state.k c.job.inside.note.piece.bx c.job.inside.note.piece.by c.k.ensures fx fy)

pub given_answer-requires : goal.given_answer-requires
given_answer-requires c =
    let fx : SFits w32 c.job.inside.note.piece.bx = search rules in
    let fy : SFits w32 c.job.inside.note.piece.by = search rules in
    let its = filled_inside c.args.pass (record { plan = c.self.inside.plan; land = c.self.inside.shape; handed = c.self.inside.tiles.handed }) c.args.self.now (record { land = c.job.inside.land.value; note = c.job.inside.note; tile = c.job.inside.tile.value }) c.args.job c.self.view_is c.job.view_is c.requires.job in
    subst IsGivenAnswer c.finish.ensures.answered (finish_answers c.self.inside.plan.state c.args.pass c.job.inside.note its.note)

pub invariant_of-self : goal.invariant_of-self
invariant_of-self c =
    let fx : SFits w32 c.job.inside.note.piece.bx = search rules in
    let fy : SFits w32 c.job.inside.note.piece.by = search rules in
    let its = filled_inside c.args.pass (record { plan = c.self.inside.plan; land = c.self.inside.shape; handed = c.self.inside.tiles.handed }) c.args.self.now (record { land = c.job.inside.land.value; note = c.job.inside.note; tile = c.job.inside.tile.value }) c.args.job c.self.view_is c.job.view_is c.requires.job in
    given_stands c.kept_by_each_step.ensures c.steps_go_on.ensures c.cells_come_home.ensures c.args.pass _ c.self.inside.plan c.finish.new.self c.self.inside.shape c.self.inside.tiles c.bring_home.new.self c.job.inside.note c.tile_of-id.result c.job.inside.tile.value its.note (c.tile_of-id.ensures.value ∙ tile_read c.k.result c.self.inside.plan.state.k c.job.inside.note.piece.bx c.job.inside.note.piece.by c.k.ensures fx fy) its.painted c.bring_home.ensures.home (c.bring_home.ensures.others c.args.pass) c.bring_home.ensures.sizes c.finish.ensures c.self.invariant
