-- Faults as they are written.
use Rattle.std.specs.Prelude.{ℕ, List, codes}
use Rattle.sac_base.specs.declared.faults.FaultKind.{FaultKind}
use Rattle.sac_base.specs.declared.faults.FaultKind.TheVariants.{F1, F2, F3, F4, F5, F6, F7, F8, F9, F10}

-- the code that stands for a kind of fault in the output
abbrev pub fault_code : FaultKind → List ℕ
fault_code F1 = codes "F1"
fault_code F2 = codes "F2"
fault_code F3 = codes "F3"
fault_code F4 = codes "F4"
fault_code F5 = codes "F5"
fault_code F6 = codes "F6"
fault_code F7 = codes "F7"
fault_code F8 = codes "F8"
fault_code F9 = codes "F9"
fault_code F10 = codes "F10"
