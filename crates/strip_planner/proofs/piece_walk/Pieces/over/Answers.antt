use Rattle.std.proofs.Common.{◌≡◌, ℕ, ◌-◌, ◌^◌, ℤ, ◌≤ℤ◌, ap, sym, ◌∙◌, rules, arith}
use Rattle.std.proofs.lemmas.Int.{ints}
use mathlib.Core.Path.{ap₂}
use mir.Syntax.{w32}
use mir.Val.{SFits, of_z, to_z}
use Rattle.clip_regions.specs.FloorDivision.{floor_div}
use Rattle.clip_regions.specs.Regions.{IsWithin}
use Rattle.plan_laws.specs.Pieces.{blocks_between}
use Rattle.strip_planner.specs.Left.{AreNear, rows_from}
use Rattle.strip_planner.proofs.Rows.{pieces_none, pieces_are}
use Rattle.strip_planner.proofs.Walks.{left, left_first}
use Rattle.strip_planner.proofs.piece_walk.Pieces.over.Goals as goal
use Rattle.clip_regions.proofs.Numbers.{read_back}
use Rattle.plan_sound.proofs.Parts.{ordered}

pub returns-then-is_empty : goal.returns-then-is_empty
returns-then-is_empty c =
    c.none.ensures ∙ sym (pieces_none c.args.strip (sym c.is_empty.ensures.value ∙ c.if-is_empty.true))

pub block_count-columns-requires : goal.block_count-columns-requires
block_count-columns-requires c =
    let order : c.args.strip.x0 ≤ℤ c.args.strip.x1 = (ordered c.args.strip (sym c.is_empty.ensures.value ∙ c.if-is_empty.false)).x in
    omega (arith, ints)

pub block_count-requires : goal.block_count-requires
block_count-requires c =
    let order : c.args.strip.y0 ≤ℤ c.args.strip.y1 = (ordered c.args.strip (sym c.is_empty.ensures.value ∙ c.if-is_empty.false)).y in
    omega (arith, ints)

pub invariant_of-result : goal.invariant_of-result
invariant_of-result c =
    let near : IsWithin (2 ^ 24) c.args.strip = c.requires.near (sym c.is_empty.ensures.value ∙ c.if-is_empty.false) in
    let x0 : SFits w32 c.args.strip.x0 = search rules in
    let y0 : SFits w32 c.args.strip.y0 = search rules in
    let first : c.eighth-first.result ≡ floor_div c.args.strip.x0 8 = c.eighth-first.ensures.value ∙ ap (λ (v : ℤ). floor_div v 8) (read_back c.args.strip.x0 x0) in
    let first' : floor_div (to_z w32 (of_z w32 c.args.strip.x0)) 8 ≡ floor_div c.args.strip.x0 8 = ap (λ (v : ℤ). floor_div v 8) (read_back c.args.strip.x0 x0) in
    let by : c.eighth.result ≡ floor_div c.args.strip.y0 8 = c.eighth.ensures.value ∙ ap (λ (v : ℤ). floor_div v 8) (read_back c.args.strip.y0 y0) in
    let by' : floor_div (to_z w32 (of_z w32 c.args.strip.y0)) 8 ≡ floor_div c.args.strip.y0 8 = ap (λ (v : ℤ). floor_div v 8) (read_back c.args.strip.y0 y0) in
    let across : AreNear (to_z w32 (of_z w32 c.eighth-first.result)) c.block_count-columns.result = record { low = omega (arith, ints); high = omega (arith, ints) } in
    record {
      region = near;
      columns_near = across;
      row_near = across;
      rows_near = record { low = omega (arith, ints); high = omega (arith, ints) };
      some = omega (arith, c.block_count-columns.ensures.some);
      ended = λ e. absurd (omega (arith, c.block_count-columns.ensures.some));
    }

pub returns : goal.returns
unfolding left
returns c =
    let x0 : SFits w32 c.args.strip.x0 = search rules in
    let x1 : SFits w32 c.args.strip.x1 = search rules in
    let y0 : SFits w32 c.args.strip.y0 = search rules in
    let y1 : SFits w32 c.args.strip.y1 = search rules in
    let first : to_z w32 (of_z w32 c.eighth-first.result) ≡ floor_div c.args.strip.x0 8 = read_back c.eighth-first.result (record { sfits = c.eighth-first.type_inv }) ∙ c.eighth-first.ensures.value ∙ ap (λ (v : ℤ). floor_div v 8) (read_back c.args.strip.x0 x0) in
    let by : to_z w32 (of_z w32 c.eighth.result) ≡ floor_div c.args.strip.y0 8 = read_back c.eighth.result (record { sfits = c.eighth.type_inv }) ∙ c.eighth.ensures.value ∙ ap (λ (v : ℤ). floor_div v 8) (read_back c.args.strip.y0 y0) in
    let columns : c.block_count-columns.result ≡ blocks_between c.args.strip.x0 c.args.strip.x1 = c.block_count-columns.ensures.value ∙ ap₂ blocks_between (read_back c.args.strip.x0 x0) (read_back c.args.strip.x1 x1) in
    let rows : c.block_count.result ≡ blocks_between c.args.strip.y0 c.args.strip.y1 = c.block_count.ensures.value ∙ ap₂ blocks_between (read_back c.args.strip.y0 y0) (read_back c.args.strip.y1 y1) in
    ap₂ (λ (f b : ℤ). left c.args.strip f c.block_count-columns.result f b c.block_count-columns.result (c.block_count.result - 1)) first by ∙ left_first c.args.strip (floor_div c.args.strip.x0 8) c.block_count-columns.result (floor_div c.args.strip.y0 8) c.block_count.result (c.block_count.result - 1) (omega (arith, c.block_count.ensures.some)) ∙ ap₂ (λ (n m : ℕ). rows_from c.args.strip (floor_div c.args.strip.x0 8) n (floor_div c.args.strip.y0 8) m) columns rows ∙ sym (pieces_are c.args.strip (sym c.is_empty.ensures.value ∙ c.if-is_empty.false))
