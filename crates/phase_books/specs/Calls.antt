-- What is told of a loop outside of cells.
use Rattle.std.specs.Prelude.{◌≡◌, None, Result, OnOk}
use Rattle.counted_code.specs.Loops.{Job, job_does}
use Rattle.counted_code.specs.Machine.{Values}
use Rattle.counted_code.specs.Values.{Heap}
use Rattle.run_loops.specs.declared.cell_loop.CellLoop.{CellLoop}
use Rattle.run_loops.specs.declared.state.Context.{Context}
use Rattle.run_loops.specs.declared.state.State.{State}
use Rattle.run_loops.specs.Jobs.{over_does, IsOver}
use Rattle.run_loops.specs.Running.{IsAt, IsValue, SameScopes, Told}
use Rattle.run_store.specs.Stands.{lender_of}
use Rattle.run_values.specs.declared.value.RunValue.{RunValue}
use Rattle.run_values.specs.Scopes.{current}
use Rattle.run_values.specs.Shown.{value_of}
use Rattle.sac_base.specs.declared.stop.Stop.{Stop}

-- it does what the machine does with it in order, and leaves the scopes and the lender as they were
abbrev pub IsRun : (Values → Heap → Job) → State → Result RunValue Stop → State → Type 0
IsRun job s r t =
    ((m : Heap) → IsAt s m → Told IsValue r t (job_does None (job (current s.frames) m) m))
    × OnOk r (SameScopes s.frames t.frames)
    × (lender_of t.heap ≡ lender_of s.heap)

-- the same of an array of the cells alone, over that of a value which is the only reference to its buffer
abbrev pub IsRunOver : Context → CellLoop → RunValue → State → Result RunValue Stop → State → Type 0
IsRunOver context work array s r t =
    ((m : Heap) → IsAt s m → IsOver work (value_of array) m → Told IsValue r t (over_does context (current s.frames) work (value_of array) m))
    × OnOk r (SameScopes s.frames t.frames)
    × (lender_of t.heap ≡ lender_of s.heap)
