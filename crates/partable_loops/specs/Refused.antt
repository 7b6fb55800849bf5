-- What an answer says where it has something, and where it refuses.
use Rattle.std.specs.Prelude.{Result, Ok, Err, ⊤}
use Rattle.sac_base.specs.declared.stop.Stop.{Stop}
use Rattle.sac_base.specs.declared.stop.Stop.TheVariants.{Faulted, Memory as NoMemory}
use Rattle.partable_loops.specs.declared.refusal.Unplanned.{Unplanned}
use Rattle.partable_loops.specs.declared.refusal.Unplanned.TheVariants.{NotPartable, Memory}

-- a refusal shows that this is false; want of memory says nothing
abbrev pub Refutes : Unplanned → Type 0 → Type 0
Refutes NotPartable Q = Q → ⊥
Refutes Memory Q = ⊤

-- an answer has this, and a refusal shows that nothing is so
abbrev pub Decides : {A : Type 0} → Result A Unplanned → (A → Type 0) → Type 0 → Type 0
Decides (Ok a) P Q = P a
Decides (Err e) P Q = Refutes e Q

-- a fault before the first cell is a refusal
abbrev pub refusal_of : Stop → Unplanned
refusal_of (Faulted fault) = NotPartable
refusal_of NoMemory = Memory
