use Rattle.std.proofs.Common.{ap, sym, ◌∙◌, arith, length, Some, None}
use Rattle.clip_script.specs.Lines.{lines}
use Rattle.clip_script.proofs.Cuts.{lines_none}
use Rattle.clip_script.proofs.Readings.{open_skipped, open_here, open_none}
use Rattle.clip_script.proofs.lines.read_opening.Goals as goal

pub returns-in-Some-clause-said : goal.returns-in-Some-clause-said
returns-in-Some-clause-said g c =
    open_here (g.G.Grammar.says c.args.grammar.now) _ c.loop-text.before (lines c.loop-text.text.now) c.next_line-line.result.front.now
    (lines c.next_line-line.result.rest.now) (Some c.in-Some.said) c.loop-text.invariant.same c.next_line-line.ensures.value (sym c.is_skipped.ensures.value ∙ c.if-not-is_skipped.true)
    (sym c.in-Some.ensures.value)

pub returns-in-None-clause-stop : goal.returns-in-None-clause-stop
returns-in-None-clause-stop g c =
    open_here (g.G.Grammar.says c.args.grammar.now) _ c.loop-text.before (lines c.loop-text.text.now) c.next_line-line.result.front.now
    (lines c.next_line-line.result.rest.now) None c.loop-text.invariant.same c.next_line-line.ensures.value (sym c.is_skipped.ensures.value ∙ c.if-not-is_skipped.true)
    (sym c.in-None.ensures.value)

pub loop-text-preserved : goal.loop-text-preserved
loop-text-preserved g c = record {
  few = omega (arith, ap length c.next_line-line.ensures.value);
  same = open_skipped (g.G.Grammar.says c.args.grammar.now) _ c.loop-text.before (lines c.loop-text.text.now) c.next_line-line.result.front.now
      (lines c.next_line-line.result.rest.now) c.loop-text.invariant.same c.next_line-line.ensures.value (sym c.is_skipped.ensures.value ∙ c.if-not-is_skipped.false);
}

pub returns-clause-stop : goal.returns-clause-stop
returns-clause-stop g c =
    open_none (g.G.Grammar.says c.args.grammar.now) _ c.loop-text.before (lines c.loop-text.text.now) c.loop-text.invariant.same
    (lines_none c.loop-text.text.now c.loop-text-test.ensures)
