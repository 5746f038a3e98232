use Rattle.swarm_plays.specs.Journals.{size_line}
use Rattle.swarm_runs.proofs.Texts.{text_more}
use Rattle.swarm_runs.proofs.journal.journal_text.Goals as goal

pub loop-place-preserved : goal.loop-place-preserved
loop-place-preserved c =
    text_more (size_line c.args.k c.args.levels) c.args.journal.now c.loop-place.place c.at.result c.loop-place.text.items c.append.new.text.items
    c.at.ensures c.loop-place.invariant c.in_ok-append.ensures.line
