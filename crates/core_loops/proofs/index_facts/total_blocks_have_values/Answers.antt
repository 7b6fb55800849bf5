use Rattle.core_loops.proofs.index_facts.Blocks.{block_total}
use Rattle.core_loops.proofs.index_facts.total_blocks_have_values.Goals as goal

pub returns : goal.returns
returns c = λ core calls turns called grid own b g ts k m e typed fit inside long h ba d w ty s says. block_total core calls turns typed called fit grid own inside long b g ts k m e h ba d w ty s says
