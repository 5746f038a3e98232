use Rattle.std.proofs.Common.{◌≡◌, ◌++◌, length, All}
use Rattle.mesh_lists.specs.Lines.{LeavesBehind, leading, whole_lines}
use Rattle.mesh_lists.proofs.leading.read_leading.Given as goal

abbrev pub invariant-loop-all : goal.invariant-loop-all
invariant-loop-all g l = record {
  same : leading (g.G.Grammar.says l.fn.grammar) (whole_lines l.fn.text) ≡ l.all.items ++ leading (g.G.Grammar.says l.fn.grammar) (whole_lines l.text);
  left : LeavesBehind (length l.all.items) l.fn.text l.text;
  fit : All (g.G.Grammar.fits l.fn.grammar) l.all.items;
}

abbrev pub decreases-loop-all : goal.decreases-loop-all
decreases-loop-all g l = length l.text
