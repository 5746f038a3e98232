-- The products are small, and so are the sums.
use Rattle.std.proofs.Common.{◌≡◌, ℤ, pos, ◌+ℤ◌, ◌*ℤ◌, ◌^◌, ◌∙◌, w32, w64, arith, rules}
use Rattle.std.proofs.lemmas.Int.{ints, to_z-of_z}
use Rattle.mesh_model.specs.Seen.{corner_value}
use Rattle.region_cull.specs.Views.{IsNearZero}
use Rattle.region_cull.proofs.Products.{sum_read, first_sum_fits, sum_fits}
use Rattle.region_cull.proofs.half_spaces.corner_value.Goals as goal
use mir.Val.{to_z, of_z, SFits}

pub overflow_mul-result : goal.overflow_mul-result
overflow_mul-result c = omega (arith, ints, c.product-across.ensures.small.low, c.product-across.ensures.small.high)

pub overflow_add-result : goal.overflow_add-result
overflow_add-result c = omega (arith, ints, c.product-across.ensures.small.low, c.product-across.ensures.small.high, c.product-up.ensures.small.low, c.product-up.ensures.small.high)

pub overflow_mul-result-2 : goal.overflow_mul-result-2
overflow_mul-result-2 c = omega (arith, ints, c.product-down.ensures.small.low, c.product-down.ensures.small.high)

pub overflow_add-result-2 : goal.overflow_add-result-2
overflow_add-result-2 c =
    first_sum_fits c.product-across.result c.product-up.result c.product-down.result c.product-across.ensures.small c.product-up.ensures.small c.product-down.ensures.small

alone : (r d : ℤ) → SFits w64 d → r ≡ to_z w64 (of_z w64 d) → IsNearZero (2 ^ 63) r
alone r d fits e =
    let same : r ≡ d = e ∙ to_z-of_z w64 d fits in
    record { low = omega (arith, ints, fits); high = omega (arith, ints, fits) }

pub overflow_mul-result-3 : goal.overflow_mul-result-3
overflow_mul-result-3 c = omega (arith, ints)

pub overflow_add-result-3 : goal.overflow_add-result-3
overflow_add-result-3 c =
    let d_fits : SFits w64 c.args.space.now.d = search rules in
    sum_fits c.product-across.result c.product-up.result c.product-down.result c.from.result c.product-across.ensures.small c.product-up.ensures.small c.product-down.ensures.small (alone c.from.result c.args.space.now.d d_fits c.from.ensures)

pub returns : goal.returns
unfolding corner_value
returns c =
    let a_fits : SFits w32 c.args.space.now.a = search rules in
    let b_fits : SFits w32 c.args.space.now.b = search rules in
    let c_fits : SFits w32 c.args.space.now.c = search rules in
    let d_fits : SFits w64 c.args.space.now.d = search rules in
    let a = to_z-of_z w32 c.args.space.now.a a_fits in
    let b = to_z-of_z w32 c.args.space.now.b b_fits in
    let f = to_z-of_z w32 c.args.space.now.c c_fits in
    let d : c.from.result ≡ c.args.space.now.d = c.from.ensures ∙ to_z-of_z w64 c.args.space.now.d d_fits in
    let x = to_z-of_z w32 c.args.x c.ranges.x in
    let height = to_z-of_z w32 c.args.height c.ranges.height in
    let z = to_z-of_z w32 c.args.z c.ranges.z in
    let across : c.product-across.result ≡ c.args.space.now.a *ℤ c.args.x = c.product-across.ensures.value ∙ (λ t. a t *ℤ x t) in
    let up : c.product-up.result ≡ c.args.space.now.b *ℤ c.args.height = c.product-up.ensures.value ∙ (λ t. b t *ℤ height t) in
    let down' : c.product-down.result ≡ c.args.space.now.c *ℤ c.args.z = c.product-down.ensures.value ∙ (λ t. f t *ℤ z t) in
    sum_read c.product-across.result c.product-up.result c.product-down.result c.from.result c.product-across.ensures.small c.product-up.ensures.small c.product-down.ensures.small (alone c.from.result c.args.space.now.d d_fits c.from.ensures)
    ∙ (λ t. pos 32 *ℤ across t +ℤ up t +ℤ pos 32 *ℤ down' t +ℤ pos 32 *ℤ d t)
