use Rattle.std.proofs.Common.{◌≡◌, ◌+◌, ◌≤◌, length}
use Rattle.clip_script.specs.Lines.{lines}
use Rattle.clip_script.specs.Reading.{opened}
use Rattle.clip_script.proofs.lines.read_opening.Given as goal

abbrev pub invariant-loop-text : goal.invariant-loop-text
invariant-loop-text g l = record {
  few : l.before + length (lines l.text) ≤ 1048577;
  same : opened (g.G.Grammar.says l.fn.grammar) l.fn.left.before (lines l.fn.left.text.now) ≡ opened (g.G.Grammar.says l.fn.grammar) l.before (lines l.text);
}

abbrev pub decreases-loop-text : goal.decreases-loop-text
decreases-loop-text g l = length l.text
