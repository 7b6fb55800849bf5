use Rattle.source_meaning.proofs.Environments.{assigned, on_ok_then}
use Rattle.source_meaning.proofs.environment.assign.Goals as goal

pub returns : goal.returns
returns c = on_ok_then c.assign_in.result (assigned c.args.env.now c.assign_in.new.bindings c.args.name.now c.args.value) c.assign_in.ensures
