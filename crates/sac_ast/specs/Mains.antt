-- The function that a program begins with.
use Rattle.std.specs.Prelude.{Bool, bytes_eq, codes}
use Rattle.sac_base.specs.declared.name.Name.{Name}
use Rattle.sac_ast.specs.Tree.{FunctionTree}

abbrev pub MAIN : Name
MAIN = codes "main"

abbrev pub is_main : FunctionTree → Bool
is_main f = bytes_eq f.name MAIN
