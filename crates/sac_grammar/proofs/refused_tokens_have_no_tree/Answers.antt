use Rattle.sac_grammar.proofs.Verdicts.{stuck_has_no_tree, deep_has_no_tree}
use Rattle.sac_grammar.proofs.refused_tokens_have_no_tree.Goals as goal

pub returns : goal.returns
returns c = record { stuck = stuck_has_no_tree; deep = deep_has_no_tree }
