-- The first strip is the definition's, which lies in the window.
use Rattle.std.specs.Option.{IfSome}
use Rattle.std.proofs.Common.{◌≡◌, Option, ap, sym, ◌∙◌, subst}
use Rattle.clip_regions.specs.declared.region.Region.{Region}
use Rattle.plan_model.specs.Strips.{first_of, strips, current_strip}
use Rattle.plan_model.specs.Sound.{IsInside}
use Rattle.plan_plain_pieces.proofs.Insides.{strip_inside}
use Rattle.plan_plain_pieces.proofs.window_strips.current_strip.Goals as goal

pub returns-clause-inside : goal.returns-clause-inside
unfolding current_strip
returns-clause-inside c = λ part whole.
    let strip : c.first_of.result ≡ first_of (strips c.args.filled c.args.window) = c.first_of.ensures ∙ ap first_of (c.as_slice.ensures.value ∙ c.in_ok-all.ensures.value) in
    subst (λ (o : Option Region). IfSome o (IsInside c.args.window)) (sym strip) (strip_inside c.args.filled c.args.window part whole)
