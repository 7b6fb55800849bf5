use Rattle.std.proofs.Common.{subst, ◌∙◌}
use Rattle.data_text.specs.Found.{Tells}
use Rattle.data_text.specs.Texts.{text_value}
use Rattle.sac_top.proofs.GivenArrays as arguments
use Rattle.sac_top.proofs.arguments.read_arguments.Goals as goal

pub returns-clause-exact : goal.returns-clause-exact
returns-clause-exact c =
    subst (λ bases. Tells c.read_arrays.result (text_value c.args.text.now bases)) (c.main_bases.ensures ∙ c.requires) c.read_arrays.ensures.exact

pub returns-clause-arrays : goal.returns-clause-arrays
returns-clause-arrays c = arguments.read_arrays c.read_arrays.result c.args.text.now c.main_bases.result.now c.read_arrays.ensures.exact
