use Rattle.data_text.proofs.TypedFacts.{read_typed}
use Rattle.data_text.proofs.text.read_arrays.Goals as goal

pub returns-clause-arguments : goal.returns-clause-arguments
returns-clause-arguments c = read_typed c.args.text.now c.args.bases.now c.read_all.result c.read_all.ensures
