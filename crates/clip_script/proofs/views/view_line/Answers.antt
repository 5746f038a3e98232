use Rattle.std.proofs.Common.{ap, sym, ◌∙◌, arith}
use Rattle.std.specs.List.{position_or_len}
use Rattle.clip_script.specs.Lines.{lines}
use Rattle.clip_script.specs.Views.{asks_view, view_line}
use Rattle.clip_script.proofs.Cuts.{lines_none}
use Rattle.clip_script.proofs.ViewLines.{view_here, view_behind}
use Rattle.clip_script.proofs.views.view_line.Goals as goal

pub loop-text-preserved : goal.loop-text-preserved
loop-text-preserved c = record {
  place = view_behind c.loop-text.number (position_or_len asks_view (lines c.args.bytes.now)) (lines c.loop-text.text.now) c.next_line-line.result.front.now
      (lines c.next_line-line.result.rest.now) c.loop-text.invariant.place c.next_line-line.ensures.value (sym c.asks_view.ensures.value ∙ c.if-asks_view.false);
  few = omega (arith, c.loop-text.invariant.few, c.next_line-line.ensures.shorter);
}

pub returns-then-asks_view : goal.returns-then-asks_view
unfolding view_line
returns-then-asks_view c = record {
  value = view_here c.loop-text.number (position_or_len asks_view (lines c.args.bytes.now)) (lines c.loop-text.text.now) c.next_line-line.result.front.now
      (lines c.next_line-line.result.rest.now) c.loop-text.invariant.place c.next_line-line.ensures.value (sym c.asks_view.ensures.value ∙ c.if-asks_view.true);
}

pub returns : goal.returns
unfolding view_line
returns c = record {
  value = omega (arith, c.loop-text.invariant.place, ap (position_or_len asks_view) (lines_none c.loop-text.text.now c.loop-text-test.ensures));
}
