use Rattle.core_ir.proofs.Trees.{block_roll}
use Rattle.core_scopes.proofs.builder.Builder.finish.Goals as goal

pub returns : goal.returns
returns c = block_roll (record { lets = c.args.self.lets; results = c.args.results })
