use Rattle.clipmap_prog.proofs.info.tell.Goals as goal

pub returns-in-Ok-clause-ran : goal.returns-in-Ok-clause-ran
returns-in-Ok-clause-ran g c = λ shelf.
    rw (c.in-Ok.ensures.terrain, c.in-Ok.ensures.heights, c.in-Ok.ensures.source) at c.write_lines.ensures.ran shelf
