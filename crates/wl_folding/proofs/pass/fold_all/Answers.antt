use Rattle.wl_folding.proofs.pass.fold_all.Goals as goal

pub returns-clause-outcome : goal.returns-clause-outcome
returns-clause-outcome c well args caps full = (c.in_ok-core.ensures.folded.kept well).outcome args caps full
