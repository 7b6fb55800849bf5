use Rattle.core_loops.proofs.index_facts.Indices.{index_sound}
use Rattle.core_loops.proofs.index_facts.index_facts_are_sound.Goals as goal

pub returns : goal.returns
returns c = index_sound
