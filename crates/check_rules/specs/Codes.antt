-- Rules of acceptance as they are written.
use Rattle.std.specs.Prelude.{ℕ, List, codes}
use Rattle.check_rules.specs.declared.code.CheckCode.{CheckCode}
use Rattle.check_rules.specs.declared.code.CheckCode.TheVariants.{C1, C2, C3, C4, C5, C6, C7, C8, C9, C10}

-- the code that stands for a rule in the output
abbrev pub check_code : CheckCode → List ℕ
check_code C1 = codes "C1"
check_code C2 = codes "C2"
check_code C3 = codes "C3"
check_code C4 = codes "C4"
check_code C5 = codes "C5"
check_code C6 = codes "C6"
check_code C7 = codes "C7"
check_code C8 = codes "C8"
check_code C9 = codes "C9"
check_code C10 = codes "C10"
