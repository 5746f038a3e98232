use Rattle.std.proofs.Common.{◌≡◌, ◌+◌, ◌≤◌, length}
use Rattle.clip_script.specs.Lines.{lines}
use Rattle.clip_script.proofs.lines.line_count.Given as goal

abbrev pub invariant-loop-text : goal.invariant-loop-text
invariant-loop-text l = record {
  counted : l.count + length (lines l.text) ≡ length (lines l.fn.text);
  few : l.count + length l.text ≤ length l.fn.text;
}

abbrev pub decreases-loop-text : goal.decreases-loop-text
decreases-loop-text l = length l.text
