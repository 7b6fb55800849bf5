-- What the answer of an operation tells of its meaning.
use Rattle.std.specs.Prelude.{◌≡◌, Result, Ok, Err, ⊤}
use Rattle.sac_base.specs.Arrays.{ArrayValue}
use Rattle.sac_base.specs.declared.faults.FaultKind.{FaultKind}
use Rattle.array_ops.specs.declared.error.ArrayError.{ArrayError}
use Rattle.array_ops.specs.declared.error.ArrayError.TheVariants.{Faulted, Memory}

-- the error is the fault that is meant, or want of memory, of which nothing is said
abbrev pub ErrorGives : {A : Type 0} → ArrayError → Result A FaultKind → Type 0
ErrorGives (Faulted kind) meant = meant ≡ Err kind
ErrorGives Memory meant = ⊤

-- the answer is what is meant, an array or a fault
abbrev pub Gives : Result ArrayValue ArrayError → Result ArrayValue FaultKind → Type 0
Gives (Ok array) meant = meant ≡ Ok array
Gives (Err error) meant = ErrorGives error meant
