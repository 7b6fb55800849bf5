use Rattle.core_ir.specs.declared.tree.Var.{Var}
use Rattle.core_ir.specs.Meaning.{Env}
use Rattle.kernel_code.specs.Relations.{IsScope}
use Rattle.run_kernels.specs.Scopes.{IsShown}
use Rattle.run_values.specs.Scopes.{current}
use Rattle.run_kernels.proofs.scope.scope_of.Given as goal

abbrev pub invariant-loop-x : goal.invariant-loop-x
invariant-loop-x g l = (e : Env) → ((x : Var) → IsShown (g.H.ReadsBuffers.has l.heap) (current l.frames x) (e x)) → IsScope l.buffers.items e l.known.items
