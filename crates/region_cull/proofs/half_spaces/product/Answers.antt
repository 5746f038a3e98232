-- Two numbers of 32 bits have a product of 62.
use Rattle.std.proofs.Common.{ℤ, ◌^◌, subst, sym, rules}
use Rattle.region_cull.specs.Views.{IsNearZero}
use Rattle.region_cull.proofs.Products.{product_within, of_32_bits}
use Rattle.region_cull.proofs.half_spaces.product.Goals as goal

pub returns-clause-value : goal.returns-clause-value
returns-clause-value c = search rules

pub returns-clause-small : goal.returns-clause-small
returns-clause-small c =
    subst (λ (z : ℤ). IsNearZero (2 ^ 62) z) (sym (returns-clause-value c))
    (product_within (2 ^ 31) (2 ^ 31) c.args.a c.args.b (of_32_bits c.args.a c.ranges.a) (of_32_bits c.args.b c.ranges.b))
