use Rattle.std.specs.Prelude.{ℕ}
use Rattle.sac_base.specs.declared.faults.FaultKind.{FaultKind}
use Rattle.sac_base.specs.declared.faults.FaultKind.TheVariants.{F9, F10}
use Rattle.sac_due.specs.declared.status.Status.{Status}
use Rattle.sac_due.specs.declared.status.Status.TheVariants.{Done, Faulted, Source, Input, Limit, ReadFault, WriteFault, Usage, Memory}

-- the exit status
abbrev pub code_of : Status → ℕ
code_of Done = 0
code_of Faulted = 1
code_of Source = 2
code_of Input = 3
code_of Limit = 4
code_of ReadFault = 5
code_of WriteFault = 6
code_of Usage = 7
code_of Memory = 8

-- the status of a run that ends with a fault of this kind
abbrev pub fault_status : FaultKind → Status
fault_status F9 = Limit
fault_status F10 = Limit
fault_status kind = Faulted
