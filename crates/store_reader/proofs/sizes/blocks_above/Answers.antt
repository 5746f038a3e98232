use Rattle.std.proofs.Common.{◌∙◌, ◌*◌, ℕ, Fits, w32, ap, sym, subst, arith}
use Rattle.store_model.specs.Sizes.{blocks_on}
use Rattle.store_reader.proofs.PlaceLemmas.{blocks_few}
use Rattle.store_reader.proofs.sizes.blocks_above.Goals as goal

pub overflow_mul-result : goal.overflow_mul-result
overflow_mul-result c =
    let h = c.args.header in
    let sound = c.requires.header.sound in
    let few = blocks_few h.width h.height c.args.level c.args.row sound.some_columns sound.some_rows sound.few_samples c.requires.row in
    subst (λ (n : ℕ). Fits w32 (n * c.args.row)) (sym (c.blocks_on.ensures.value ∙ ap blocks_on c.cells_on.ensures.value)) (omega arith)
