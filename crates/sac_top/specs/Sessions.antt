-- What a session has before a program is run, and what it leaves.
use Rattle.std.specs.Prelude.{◌≡◌, Result, IfOk}
use Rattle.sac_base.specs.declared.memory.Memory.{Memory}
use Rattle.sac_ast.specs.Tree.{ProgramTree}
use Rattle.buffer_heap.specs.Heaps.{HeapValue}
use Rattle.count_table.specs.Tallied.{PhaseTotals}
use Rattle.run_eval.specs.declared.trace.Trace.{Trace}
use Rattle.run_eval.specs.Outcomes.{IsCleared}
use Rattle.sac_words.specs.Meaning.{Meant, meant, IsSized}
use Rattle.sac_due.specs.Due.{Ending}
use Rattle.sac_top.specs.declared.line.Answer.{Answer}
use Rattle.sac_top.specs.declared.session.Job.{Job}
use Rattle.sac_top.specs.declared.session.Session.{Session}
use Rattle.sac_top.specs.Traced.{IsRunStatus}
use Rattle.sac_top.specs.Steps.{ending, tree, HasWorkers, IsRead, HasBases}

-- what the words of a job ask for, and its program
abbrev pub asked_of : Job → Meant
asked_of job = meant job.options.now

abbrev pub program_of : Job → ProgramTree
program_of job = tree job.checked.now

-- a job that can be run: 1 to 64 workers, an input within its limits, and an accepted program with the bases of its parameters
pub record IsReady (job : Job) : Type 0 where
  pub workers : HasWorkers job.options.now.workers
  pub sized : IsSized job.options.now.input
  pub read : IsRead (program_of job)
  pub bases : HasBases job.checked.now

-- the session still refers to its heap and its trace, no buffer is live, and as many were given back as were taken
pub record IsLeft {G R : Type 0} (old new : Session G R) : Type 0 where
  pub heap : new.heap.ghost_name ≡ old.heap.ghost_name
  pub trace : new.trace.ghost_name ≡ old.trace.ghost_name
  pub cleared : IsCleared new.heap.now

-- an answer, where memory was found, is such an ending
abbrev pub EndsSo : Result Answer Memory → (Ending → Type 0) → Type 0
EndsSo result such = IfOk result (λ answer. such (ending answer))

abbrev pub EndsWith : Result Answer Memory → Ending → Type 0
EndsWith result end = EndsSo result (λ given. given ≡ end)

-- after the results, the fault or the limit of a run the session has a trace and a heap that tell it
abbrev pub TellsRun : {G R : Type 0} → Session G R → Session G R → Result Answer Memory → (Ending → PhaseTotals → Trace → HeapValue → Type 0) → Type 0
TellsRun old new result told = IfOk result (λ answer. IsRunStatus answer.status → told (ending answer) old.trace.now.tally new.trace.now new.heap.now)
