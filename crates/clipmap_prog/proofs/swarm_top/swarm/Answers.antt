use Rattle.clipmap_prog.proofs.swarm_top.swarm.Goals as goal

pub returns-clause-stands_where_told : goal.returns-clause-stands_where_told
returns-clause-stands_where_told g c = λ verdict right.
    record { ended = c.swarm_words.result; same = c.status.ensures.value; so = c.swarm_words.ensures.ends verdict right }
