-- What a refusal tells.
use Rattle.sac_ast.specs.Tree.{ProgramTree}
use Rattle.check_rules.specs.Accepted.{IsFirstViolation}
use Rattle.type_check.specs.declared.program.CheckError.{CheckError}
use Rattle.type_check.specs.declared.program.CheckError.TheVariants.{Refused, Memory}

-- a refusal is the first violation; nothing is said where no memory was found
abbrev pub IsRefusal : ProgramTree → CheckError → Type 0
IsRefusal p (Refused code site) = IsFirstViolation p code site
IsRefusal p Memory = Unit {0}
