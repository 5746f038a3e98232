-- All tests passed.
use Rattle.std.proofs.Common.{◌≡◌, ℤ, pos, nat_abs, ap, sym, ◌∙◌, w32, arith, rules}
use Rattle.std.proofs.lemmas.Int.{ints, to_z-of_z}
use Rattle.clip_regions.specs.FloorDivision.{floor_rem}
use Rattle.grid_frames.proofs.tests.lies_inside.Goals as goal
use mir.Val.{SFits, to_z, of_z}

even_of : (x r : ℤ) → SFits w32 x → r ≡ pos (floor_rem (to_z w32 (of_z w32 x)) 2) → r ≡ pos 0 → floor_rem x 2 ≡ 0
even_of x r fits e z = ap nat_abs ((λ t. pos (floor_rem (sym (to_z-of_z w32 x fits) t) 2)) ∙ sym e ∙ z)

pub returns : goal.returns
returns c = λ yes.
    let part = c.args.part.now in
    let fits_x0 : SFits w32 part.x0 = search rules in
    let fits_y0 : SFits w32 part.y0 = search rules in
    let fits_x1 : SFits w32 part.x1 = search rules in
    let fits_y1 : SFits w32 part.y1 = search rules in
    let x0 : c.wrap.result ≡ pos 0 = search rules in
    let x1 : c.wrap-else-wrap-ne0.result ≡ pos 0 = search rules in
    let y0 : c.wrap-2.result ≡ pos 0 = search rules in
    let y1 : c.wrap-else-wrap-ne0-3.result ≡ pos 0 = search rules in
    record {
      inside = record {
        west = omega (arith, ints);
        columns = omega (arith, ints);
        east = omega (arith, ints);
        north = omega (arith, ints);
        rows = omega (arith, ints);
        south = omega (arith, ints);
      };
      even = record {
        x0 = even_of part.x0 c.wrap.result fits_x0 c.wrap.ensures.value x0;
        y0 = even_of part.y0 c.wrap-2.result fits_y0 c.wrap-2.ensures.value y0;
        x1 = even_of part.x1 c.wrap-else-wrap-ne0.result fits_x1 c.wrap-else-wrap-ne0.ensures.value x1;
        y1 = even_of part.y1 c.wrap-else-wrap-ne0-3.result fits_y1 c.wrap-else-wrap-ne0-3.ensures.value y1;
      };
    }
