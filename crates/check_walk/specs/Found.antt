-- The base of a phrase by what is found in it.
use Rattle.std.specs.Prelude.{Option}
use Rattle.sac_base.specs.declared.base.Base.{Base}
use Rattle.sac_ast.specs.Bases.{where_holds}
use Rattle.check_rules.specs.declared.violation.Violation.{Violation}
use Rattle.check_rules.specs.First.{earlier, is_clean}

-- a phrase has a base where it violates no rule of its own, and nothing in it violates one
abbrev pub found_base : Option Violation → Option Violation → Option Base → Option Base
found_base own inside base = where_holds (is_clean (earlier own inside)) base
