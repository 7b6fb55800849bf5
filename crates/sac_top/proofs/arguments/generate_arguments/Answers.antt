use Rattle.std.proofs.Common.{rules}
use Rattle.sac_ast.specs.View.{program as tree}
use Rattle.sac_due.specs.Input.{main_types}
use Rattle.sac_top.proofs.GivenArrays as arguments
use Rattle.sac_top.proofs.arguments.generate_arguments.Goals as goal

pub returns-clause-arrays : goal.returns-clause-arrays
returns-clause-arrays c = arguments.made_arrays c.generate.result (main_types (tree c.args.program.now)) c.args.n (search rules)
