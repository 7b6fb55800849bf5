use Rattle.sac_phrases.specs.Contract.{lexeme}
use Rattle.sac_phrases.proofs.LeafSteps.{update_tree, update_tall}
use Rattle.sac_phrases.proofs.leaf.update.Goals as goal

pub returns-clause-tree : goal.returns-clause-tree
returns-clause-tree c = update_tree (lexeme c.args.token) c.args.op c.args.site _ _ _ _ _ c.in_ok-variable.ensures.variable c.in_ok-value.ensures.tree c.in_ok-variable.ensures.targets c.assign.ensures.tree

pub returns-clause-height : goal.returns-clause-height
returns-clause-height c = λ h. update_tall _ _ _ _ c.in_ok-variable.ensures.height c.in_ok-value.ensures.height c.assign.ensures.height h
