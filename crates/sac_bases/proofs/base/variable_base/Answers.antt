use Rattle.std.proofs.Common.{ap, ◌∙◌}
use Rattle.sac_ast.specs.Bases.{base_of_name}
use Rattle.sac_bases.proofs.base.variable_base.Goals as goal

pub returns : goal.returns
returns c = c.base_of.ensures ∙ ap (base_of_name c.args.known.now.all.items) c.as_str.ensures.bytes
