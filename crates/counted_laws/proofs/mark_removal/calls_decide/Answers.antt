use Rattle.counted_laws.proofs.mark_removal.Agreeing.{block_agrees, gens_agree, parts_agree}
use Rattle.counted_laws.proofs.mark_removal.calls_decide.Goals as goal

pub returns-clause-blocks : goal.returns-clause-blocks
returns-clause-blocks c calls others turns t same = block_agrees calls others turns t same

pub returns-clause-generators : goal.returns-clause-generators
returns-clause-generators c calls others turns gens same = gens_agree calls others turns gens same

pub returns-clause-parts : goal.returns-clause-parts
returns-clause-parts c calls others turns parts same = parts_agree calls others turns parts same
