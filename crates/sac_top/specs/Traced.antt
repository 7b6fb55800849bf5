-- What a run leaves in the trace and in the heap.
use Rattle.std.specs.Prelude.{◌≡◌, ◌+◌, ◌%◌, ◌^◌, ℕ, ⊤, List, map, Option, Some, None, Result, Ok, IfOk}
use Rattle.sac_base.specs.Arrays.{ArrayValue, form_of}
use Rattle.sac_base.specs.declared.form.Form.{Form}
use Rattle.sac_base.specs.declared.faults.Caps.{Caps}
use Rattle.sac_io.specs.Files.{Contents}
use Rattle.sac_io.specs.Sink.{with_more}
use Rattle.sac_ast.specs.Tree.{ProgramTree}
use Rattle.source_meaning.specs.Calls.{outcome}
use Rattle.data_text.specs.Texts.{Refusal}
use Rattle.buffer_heap.specs.Heaps.{HeapValue}
use Rattle.count_table.specs.Tallied.{PhaseTotals}
use Rattle.counted_code.specs.declared.tree.Code.{Code}
use Rattle.counted_code.specs.declared.tree.Cost.{Cost}
use Rattle.counted_code.specs.Terms.{CodeProgram}
use Rattle.counted_code.specs.View.{code_program}
use Rattle.counted_code.specs.Counts.{IsWellCounted}
use Rattle.counted_code.specs.Prompt.{IsPrompt}
use Rattle.counted_code.specs.Outcome.{whole_run, outcome_of, cost_of, phases_of}
use Rattle.counted_marks.specs.Marks.{IsWellMarked}
use Rattle.phase_count.specs.Tallies.{draws_of}
use Rattle.run_eval.specs.declared.trace.Trace.{Trace}
use Rattle.run_eval.specs.Outcomes.{HasCounters}
use Rattle.sac_words.specs.Meaning.{Meant, file}
use Rattle.sac_build.specs.Arguments.{AreArrays}
use Rattle.sac_build.specs.Loops.{HasNormalLoops, HasNoFoldablePair, HasNoMergeableNest, HasNoReuseCandidate, CameFrom}
use Rattle.sac_build.specs.Mains.{MainTakesForms}
use Rattle.sac_due.specs.Report.{Numbers}
use Rattle.sac_due.specs.Source.{IsProgramOf}
use Rattle.sac_due.specs.Input.{IsText, arguments}
use Rattle.sac_due.specs.Due.{Ending, ended}
use Rattle.sac_due.specs.Answer.{Finds}
use Rattle.sac_due.specs.declared.status.Status.{Status}
use Rattle.sac_due.specs.declared.status.Status.TheVariants.{Done, Faulted, Limit}

abbrev pub new_trace : Trace
new_trace = record { code = None; folded = 0; scalarised = 0; taken = 0; given = 0; reused = 0; phases = 0; tally = record { phases = 0; draws = 0 } }

-- the numbers that the report tells
abbrev pub numbers_of : Trace → Numbers
numbers_of t = record { folded = t.folded; scalarised = t.scalarised; taken = t.taken; given = t.given; reused = t.reused; phases = t.phases }

-- the statuses with which the run of a program ends: its results, its fault or its limit
abbrev pub IsRunStatus : Status → Type 0
IsRunStatus Done = ⊤
IsRunStatus Faulted = ⊤
IsRunStatus Limit = ⊤
IsRunStatus _ = ⊥

-- Code for a program and arguments of these forms: it is well counted, prompt and well marked, and on all arguments that are arrays of these forms and
-- under all limits its outcome on the machine is that of the program. Where the types of the program's main contain the forms, its main takes arrays of
-- these forms alone. In a function in which no right side always faults, no with-loop is left that can become a parted loop, and in none a pair of parted
-- loops that can be folded, or a loop that can be merged with the ones in its cells, but for the few that HasNoFoldablePair and HasNoMergeableNest name.
-- No loop without a mark has an array that it may take over for its result.
pub record IsCodeFor (p : ProgramTree) (forms : List Form) (code : CodeProgram) : Type 0 where
  pub counted : IsWellCounted code
  pub prompt : IsPrompt code
  pub marked : IsWellMarked code
  pub outcome : (args : List ArrayValue) (caps : Caps) → AreArrays args → map form_of args ≡ forms → outcome_of (whole_run code args caps) ≡ outcome p args caps
  pub main : MainTakesForms p forms code
  pub normal : HasNormalLoops code
  pub pairs : HasNoFoldablePair code
  pub nests : HasNoMergeableNest code
  pub candidates : HasNoReuseCandidate code

-- the trace's four numbers of a run are the cost
abbrev pub HasCost : Trace → Cost → Type 0
HasCost t cost = (t.taken ≡ cost.taken) × (t.given ≡ cost.given) × (t.reused ≡ cost.reused) × (t.phases ≡ cost.phases)

-- a tally has risen by so many phases and draws, both modulo 2 ^ 64
abbrev pub HasRisen : PhaseTotals → PhaseTotals → ℕ → ℕ → Type 0
HasRisen before after phases draws = (after.phases ≡ (before.phases + phases) % 2 ^ 64) × (after.draws ≡ (before.draws + draws) % 2 ^ 64)

-- the draws that the words ask for: the chunks of all phases of the run, cut for their workers and their size of chunks
abbrev pub draws_asked : Meant → CodeProgram → List ArrayValue → ℕ
draws_asked asked code args = draws_of asked.workers asked.chunk (phases_of (whole_run code args asked.caps))

-- The trace has code for the program, and what the run of that code on these arguments costs on the machine: after results all of it, after a fault
-- the phases. By as many phases its tally has risen from what it was before, and by the draws that the words ask for. The heap's counters are the trace's.
pub record IsRunTraced (asked : Meant) (p : ProgramTree) (args : List ArrayValue) (before : PhaseTotals) (trace : Trace) (heap : HeapValue) : Type 0 where
  pub code : Code
  pub kept : trace.code ≡ Some code
  pub sound : IsCodeFor p (map form_of args) (code_program code)
  pub turns : CameFrom p (map form_of args) trace.folded trace.scalarised (code_program code)
  pub cost : IfOk (outcome p args asked.caps) (λ results. HasCost trace (cost_of (whole_run (code_program code) args asked.caps)))
  pub phases : trace.phases ≡ (cost_of (whole_run (code_program code) args asked.caps)).phases
  pub tally : HasRisen before trace.tally (cost_of (whole_run (code_program code) args asked.caps)).phases (draws_asked asked (code_program code) args)
  pub counters : HasCounters trace heap

-- the input gave arguments, what is written is the outcome on them, with the numbers of the trace, and the trace tells that run
pub record IsGivenTraced (asked : Meant) (p : ProgramTree) (given : Result (List ArrayValue) Refusal) (end : Ending)
    (before : PhaseTotals) (trace : Trace) (heap : HeapValue) : Type 0 where
  pub args : List ArrayValue
  pub are : given ≡ Ok args
  pub ends : end ≡ ended asked (numbers_of trace) (outcome p args asked.caps)
  pub run : IsRunTraced asked p args before trace heap

-- the same for what stands under the input's name
pub record IsProgramTraced (asked : Meant) (p : ProgramTree) (files : Option Contents) (end : Ending)
    (before : PhaseTotals) (trace : Trace) (heap : HeapValue) : Type 0 where
  pub input : Option (List ℕ)
  pub text : List ℕ
  pub found : (name : List ℕ) → asked.input ≡ file name → Finds files name input
  pub read : IsText asked.input input text
  pub given : IsGivenTraced asked p (arguments p asked.input text) end before trace heap

-- the same for what stands under the source's name too
pub record IsTraced (asked : Meant) (files : Option Contents) (end : Ending) (before : PhaseTotals) (trace : Trace) (heap : HeapValue) : Type 0 where
  pub source : List ℕ
  pub program : ProgramTree
  pub found : Finds files asked.source (Some source)
  pub read : IsProgramOf source program
  pub run : IsProgramTraced asked program files end before trace heap

-- the text of the run that the trace tells was written
pub record EndsTraced (asked : Meant) (files : Option Contents) (old new : Option (List ℕ)) (status : Status)
    (before : PhaseTotals) (trace : Trace) (heap : HeapValue) : Type 0 where
  pub text : List ℕ
  pub written : new ≡ with_more old text
  pub traced : IsTraced asked files (record { status = status; text = text }) before trace heap
