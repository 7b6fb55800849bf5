use Rattle.sac_grammar.proofs.Verdicts.{stuck_refusal, deep_refusal, tall_refusal, behind_refusal}
use Rattle.sac_grammar.proofs.Ends.{ended}
use Rattle.sac_grammar.proofs.refusals.Goals as goal

pub returns : goal.returns
returns c = record { stuck = stuck_refusal; deep = deep_refusal; tall = tall_refusal; behind = behind_refusal; ended = ended }
