use Rattle.core_scopes.proofs.Scopes.{scope_bound, on_ok_then}
use Rattle.core_scopes.proofs.scope.Scope.bind.Goals as goal

pub returns : goal.returns
returns c = on_ok_then c.bind_in.result (scope_bound c.args.self.now c.bind_in.new.vars c.args.name.now c.args.var) c.bind_in.ensures
