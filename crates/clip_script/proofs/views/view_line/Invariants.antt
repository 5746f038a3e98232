use Rattle.std.proofs.Common.{◌≡◌, ◌+◌, ◌≤◌, length}
use Rattle.std.specs.List.{position_or_len}
use Rattle.clip_script.specs.Lines.{lines}
use Rattle.clip_script.specs.Views.{asks_view}
use Rattle.clip_script.proofs.views.view_line.Given as goal

abbrev pub invariant-loop-text : goal.invariant-loop-text
invariant-loop-text l = record {
  place : l.number + position_or_len asks_view (lines l.text) ≡ position_or_len asks_view (lines l.fn.bytes) + 1;
  few : l.number + length l.text ≤ length l.fn.bytes + 1;
}

abbrev pub decreases-loop-text : goal.decreases-loop-text
decreases-loop-text l = length l.text
