-- The lists that operands stand for.
use Rattle.std.specs.Prelude.{List, []}
use Rattle.core_ir.specs.declared.tree.Var.{Var}
use Rattle.core_ir.specs.declared.operands.Operands.{Operands}
use Rattle.core_ir.specs.declared.operands.Operands.TheVariants.{Nothing, One, Two, Three, List as Listed}

abbrev pub operand_list : Operands → List Var
operand_list Nothing = []
operand_list (One vars) = vars
operand_list (Two vars) = vars
operand_list (Three vars) = vars
operand_list (Listed vars) = vars.now
