-- Environments in which variables are beside the index as their facts say.
use Rattle.std.specs.Prelude.{List, ℤ}
use Rattle.core_ir.specs.declared.tree.Var.{Var}
use Rattle.core_ir.specs.Meaning.{Env}
use Rattle.core_loops.specs.Indices.{IndexFacts, Says}

abbrev pub SaysAll : List ℤ → IndexFacts → Env → Type 0
SaysAll own m e = (x : Var) → Says own (m x) (e x)
