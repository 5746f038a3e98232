-- The part or the whole window lies in the window.
use Rattle.std.proofs.Common.{inr, sym, subst, ◌∙◌, w32, rules}
use Rattle.std.proofs.lemmas.Int.{to_z-of_z}
use Rattle.clip_regions.specs.declared.region.Region.{Region}
use Rattle.plan_model.specs.Window.{window}
use Rattle.plan_model.specs.Sound.{IsInside, IsEvenInside}
use Rattle.grid_frames.proofs.Filled.{itself}
use Rattle.grid_frames.proofs.tests.filled_part.Goals as goal
use mir.Val.{SFits}

pub returns-then-lies_inside : goal.returns-then-lies_inside
returns-then-lies_inside c =
    let x = c.args.viewer.now.x in
    let y = c.args.viewer.now.y in
    let fits_x : SFits w32 x = search rules in
    let fits_y : SFits w32 y = search rules in
    let is = c.window-whole.ensures.value ∙ (λ t. window c.args.k c.args.level (to_z-of_z w32 x fits_x t) (to_z-of_z w32 y fits_y t)) in
    record {
      x = x;
      y = y;
      column = c.requires.x;
      row = c.requires.y;
      part = inr (subst (λ (w : Region). IsEvenInside w c.args.part.now) is (c.lies_inside.ensures c.if-lies_inside.true));
    }

pub returns-else-lies_inside : goal.returns-else-lies_inside
returns-else-lies_inside c =
    let x = c.args.viewer.now.x in
    let y = c.args.viewer.now.y in
    let fits_x : SFits w32 x = search rules in
    let fits_y : SFits w32 y = search rules in
    let is = c.window-whole.ensures.value ∙ (λ t. window c.args.k c.args.level (to_z-of_z w32 x fits_x t) (to_z-of_z w32 y fits_y t)) in
    record {
      x = x;
      y = y;
      column = c.requires.x;
      row = c.requires.y;
      part = inr (record { inside = subst (IsInside (window c.args.k c.args.level x y)) (sym is) (itself c.args.k c.args.level x y); even = c.window-whole.ensures.even });
    }
