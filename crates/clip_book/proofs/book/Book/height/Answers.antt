use Rattle.std.proofs.Common.{sym, subst, ◌∙◌, ap}
use Rattle.std.specs.Int.{w16}
use Rattle.std.proofs.lemmas.Int.{to_z-of_z}
use mir.Val.{SFits}
use Rattle.terrain_model.specs.Terrain.{level_height}
use Rattle.clip_book.specs.Books.{BookView, Shows}
use Rattle.clip_book.proofs.Standing.{shown_level_there, shown_home, shown_height}
use Rattle.clip_book.proofs.book.Book.height.Goals as goal

pub height-requires-clause-level : goal.height-requires-clause-level
height-requires-clause-level c =
    let it : Shows c.self.inside.plan.state c.args.pass c.args.level c.args.i c.args.j = subst (λ (v : BookView). Shows v.plan.state c.args.pass c.args.level c.args.i c.args.j) (sym c.self.view_is) c.requires in
    shown_level_there c.self.inside.plan c.self.inside.shape c.self.inside.tiles _ c.args.pass c.args.level c.args.i c.args.j c.drawn_cells_have_heights.ensures c.is_sound.ensures c.self.invariant it

pub height-requires-clause-home : goal.height-requires-clause-home
height-requires-clause-home c =
    let it : Shows c.self.inside.plan.state c.args.pass c.args.level c.args.i c.args.j = subst (λ (v : BookView). Shows v.plan.state c.args.pass c.args.level c.args.i c.args.j) (sym c.self.view_is) c.requires in
    shown_home c.self.inside.plan c.self.inside.shape c.self.inside.tiles _ c.args.pass c.args.level c.args.i c.args.j c.ranges.i c.ranges.j c.drawn_cells_have_heights.ensures c.is_sound.ensures c.self.invariant it

pub returns : goal.returns
returns c =
    let it : Shows c.self.inside.plan.state c.args.pass c.args.level c.args.i c.args.j = subst (λ (v : BookView). Shows v.plan.state c.args.pass c.args.level c.args.i c.args.j) (sym c.self.view_is) c.requires in
    let fits : SFits w16 c.height.result = record { sfits = c.height.type_inv } in
    to_z-of_z w16 c.height.result fits ∙ shown_height c.self.inside.plan c.self.inside.shape c.self.inside.tiles _ c.args.pass c.args.level c.args.i c.args.j c.height.result c.ranges.i c.ranges.j c.drawn_cells_have_heights.ensures c.is_sound.ensures c.self.invariant it c.height.ensures ∙ ap (λ (v : BookView). level_height v.land.terrain c.args.level c.args.i c.args.j) c.self.view_is
