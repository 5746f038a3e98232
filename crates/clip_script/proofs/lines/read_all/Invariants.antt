use Rattle.std.proofs.Common.{◌≡◌, ◌+◌, ◌≤◌, All, length}
use Rattle.clip_script.specs.Lines.{lines}
use Rattle.clip_script.specs.Reading.{all_said}
use Rattle.clip_script.proofs.Readings.{said_before}
use Rattle.clip_script.proofs.lines.read_all.Given as goal

abbrev pub invariant-loop-text : goal.invariant-loop-text
invariant-loop-text g l = record {
  few : l.before + length (lines l.text) ≤ 1048577;
  same : all_said (g.G.Grammar.says l.fn.grammar) l.fn.left.before (lines l.fn.left.text.now) ≡ said_before l.all.items (all_said (g.G.Grammar.says l.fn.grammar) l.before (lines l.text));
  less : l.fn.left.before + length l.all.items ≤ l.before;
  fit : All (g.G.Grammar.fits l.fn.grammar) l.all.items;
}

abbrev pub decreases-loop-text : goal.decreases-loop-text
decreases-loop-text g l = length l.text
