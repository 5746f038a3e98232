use Rattle.std.proofs.Common.{◌≡◌, ℕ, ◌*◌, ◌≤◌, pos, ◌-ℤ◌, ◌≤ℤ◌, length, ap, sym, ◌∙◌, rules, arith}
use Rattle.std.proofs.lemmas.Int.{ints}
use Rattle.std.proofs.Math.Nat.{mul-le-mul}
use mathlib.Core.Path.{ap₂}
use mir.Syntax.{w32}
use mir.Val.{SFits}
use Rattle.plan_laws.specs.Pieces.{blocks_between}
use Rattle.strip_planner.proofs.Rows.{pieces_none}
use Rattle.strip_planner.proofs.Counted.{counted}
use Rattle.strip_planner.proofs.strip_pieces.piece_count.Goals as goal
use Rattle.clip_regions.proofs.Numbers.{read_back}
use Rattle.plan_sound.proofs.Parts.{ordered}

pub returns-then-is_empty-clause-value : goal.returns-then-is_empty-clause-value
returns-then-is_empty-clause-value c =
    sym (ap length (pieces_none c.args.strip (sym c.is_empty.ensures.value ∙ c.if-is_empty.true)))

pub block_count-requires : goal.block_count-requires
block_count-requires c =
    let order : c.args.strip.x0 ≤ℤ c.args.strip.x1 = (ordered c.args.strip (sym c.is_empty.ensures.value ∙ c.if-is_empty.false)).x in
    omega (arith, ints)

pub block_count-requires-2 : goal.block_count-requires-2
block_count-requires-2 c =
    let order : c.args.strip.y0 ≤ℤ c.args.strip.y1 = (ordered c.args.strip (sym c.is_empty.ensures.value ∙ c.if-is_empty.false)).y in
    omega (arith, ints)

pub overflow_mul-result : goal.overflow_mul-result
overflow_mul-result c =
    let columns : (c.args.strip.x1 -ℤ c.args.strip.x0) ≤ℤ pos 254 = c.requires.columns (sym c.is_empty.ensures.value ∙ c.if-is_empty.false) in
    let rows : (c.args.strip.y1 -ℤ c.args.strip.y0) ≤ℤ pos 254 = c.requires.rows (sym c.is_empty.ensures.value ∙ c.if-is_empty.false) in
    let few : c.block_count.result ≤ 33 = c.block_count.ensures.few (omega (arith, ints)) in
    let low : c.block_count-2.result ≤ 33 = c.block_count-2.ensures.few (omega (arith, ints)) in
    let most : c.block_count.result * c.block_count-2.result ≤ 33 * 33 = mul-le-mul few low in
    omega (arith, most)

pub returns-clause-value : goal.returns-clause-value
returns-clause-value c =
    let x0 : SFits w32 c.args.strip.x0 = search rules in
    let x1 : SFits w32 c.args.strip.x1 = search rules in
    let y0 : SFits w32 c.args.strip.y0 = search rules in
    let y1 : SFits w32 c.args.strip.y1 = search rules in
    let columns : c.block_count.result ≡ blocks_between c.args.strip.x0 c.args.strip.x1 = c.block_count.ensures.value ∙ ap₂ blocks_between (read_back c.args.strip.x0 x0) (read_back c.args.strip.x1 x1) in
    let rows : c.block_count-2.result ≡ blocks_between c.args.strip.y0 c.args.strip.y1 = c.block_count-2.ensures.value ∙ ap₂ blocks_between (read_back c.args.strip.y0 y0) (read_back c.args.strip.y1 y1) in
    ap₂ (λ (n m : ℕ). n * m) columns rows ∙ sym (c.pieces_are_counted.ensures c.args.strip ∙ counted c.args.strip (sym c.is_empty.ensures.value ∙ c.if-is_empty.false))

pub returns-clause-most : goal.returns-clause-most
returns-clause-most c =
    let columns : (c.args.strip.x1 -ℤ c.args.strip.x0) ≤ℤ pos 254 = c.requires.columns (sym c.is_empty.ensures.value ∙ c.if-is_empty.false) in
    let rows : (c.args.strip.y1 -ℤ c.args.strip.y0) ≤ℤ pos 254 = c.requires.rows (sym c.is_empty.ensures.value ∙ c.if-is_empty.false) in
    let few : c.block_count.result ≤ 33 = c.block_count.ensures.few (omega (arith, ints)) in
    let low : c.block_count-2.result ≤ 33 = c.block_count-2.ensures.few (omega (arith, ints)) in
    let most : c.block_count.result * c.block_count-2.result ≤ 33 * 33 = mul-le-mul few low in
    omega (arith, most)
