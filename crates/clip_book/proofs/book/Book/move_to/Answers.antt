use Rattle.std.proofs.Common.{refl, subst}
use Rattle.plan_model.specs.declared.events.Event.TheVariants.{Move}
use Rattle.plan_model.specs.declared.events.Answer.TheVariants.{Moved}
use Rattle.clip_book.specs.Books.{Does, BookView}
use Rattle.clip_book.proofs.Standing.{quiet_stands, plain_move, moved}
use Rattle.clip_book.proofs.book.Book.move_to.Goals as goal

pub invariant_of-self : goal.invariant_of-self
invariant_of-self c =
    quiet_stands c.kept_by_each_step.ensures c.steps_go_on.ensures c.cells_stay.ensures 0 (Move c.args.x c.args.y c.args.a) _ c.self.inside.plan c.move_to.new.self c.self.inside.shape c.self.inside.tiles tt (plain_move c.args.x c.args.y c.args.a _ _ _ c.ranges.x c.ranges.y c.move_to.ensures) c.self.invariant

pub returns-clause-does : goal.returns-clause-does
returns-clause-does c =
    subst (λ (v : BookView). Does 0 (Move c.args.x c.args.y c.args.a) Moved v (record { plan = c.move_to.new.self; land = c.self.inside.shape; handed = c.self.inside.tiles.handed })) c.self.view_is (record { plan = moved c.args.x c.args.y c.args.a _ _ _ (plain_move c.args.x c.args.y c.args.a _ _ _ c.ranges.x c.ranges.y c.move_to.ensures); land = refl; others = λ q other. refl })
