-- What a contract sees of a table of sources.
use Rattle.core_ir.specs.declared.tree.Var.{Var}

-- a variable, and what stands for it from there on
pub record Note : Type 0 where
  pub variable : Var
  pub source : Var
