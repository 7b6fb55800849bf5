-- What a contract sees of a table.
use Rattle.core_ir.specs.declared.tree.Var.{Var}
use Rattle.core_loops.specs.Indices.{IndexFact}

-- a variable, and what is known of it from there on
pub record Note : Type 0 where
  pub variable : Var
  pub fact : IndexFact
