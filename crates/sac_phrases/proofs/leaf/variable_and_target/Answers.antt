use Rattle.std.proofs.Common.{ap, ◌∙◌}
use Rattle.sac_ast.specs.Tree as tree
use Rattle.sac_ast.specs.declared.Target.{Target}
use Rattle.sac_phrases.proofs.leaf.variable_and_target.Goals as goal

pub returns-clause-variable : goal.returns-clause-variable
returns-clause-variable c = c.in_ok-variable.ensures.tree ∙ ap (λ (z : Target). tree.variable z.name z.site) c.in_ok-target-2.ensures.target
