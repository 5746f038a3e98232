use Rattle.std.proofs.Common.{ap, arith, length}
use Rattle.clip_script.proofs.Cuts.{lines_none}
use Rattle.clip_script.proofs.lines.line_count.Goals as goal

pub returns : goal.returns
returns c = record { value = omega (arith, c.loop-text.invariant.counted, ap length (lines_none c.loop-text.text.now c.loop-text-test.ensures)) }
