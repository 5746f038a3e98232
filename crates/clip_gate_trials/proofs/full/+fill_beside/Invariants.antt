use Rattle.clip_gate_trials.proofs.full.+fill_beside.Given as goal

abbrev pub decreases-fill_beside : goal.decreases-fill_beside
decreases-fill_beside g l = l.most
