-- What a run of a whole program tells.
use Rattle.std.specs.Prelude.{◌≡◌, ℕ, ◌+◌, ◌%◌, ◌^◌, List, [], None, Result, Ok, Err, Vec, map, slice_get, ⊤}
use Rattle.std.specs.declared.alloc.Global.{Global}
use Rattle.sac_base.specs.Arrays.{ArrayValue}
use Rattle.buffer_heap.specs.Heaps.{HeapValue, at}
use Rattle.count_table.specs.Tallied.{PhaseTotals}
use Rattle.counted_code.specs.declared.tree.Cost.{Cost}
use Rattle.counted_code.specs.Outcome.{main_does, phases_of}
use Rattle.counted_code.specs.Values.{Value, Ended, Done, Failed, Doing}
use Rattle.counted_code.specs.View.{code_program}
use Rattle.phase_count.specs.Tallies.{draws_of}
use Rattle.run_store.specs.Stands.{Stands}
use Rattle.run_store.specs.declared.store.Store.{Store}
use Rattle.run_values.specs.declared.value.RunValue.{RunValue}
use Rattle.run_values.specs.Shown.{value_of}
use Rattle.sac_base.specs.declared.stop.Stop.{Stop}
use Rattle.sac_base.specs.declared.stop.Stop.TheVariants.{Faulted, Memory}
use Rattle.run_loops.specs.Running.{calls_in}
use Rattle.run_eval.specs.declared.program.Plan.{Plan}
use Rattle.run_loops.specs.declared.state.Context.{Context}
use Rattle.run_eval.specs.declared.trace.Trace.{Trace}

-- a heap with no buffer, all its counters 0
abbrev pub new_heap : HeapValue
new_heap = record { places = []; births = 0; taken = 0; given = 0; reused = 0 }

-- no buffer is live, and as many were given back as were taken
abbrev pub IsCleared : HeapValue → Type 0
IsCleared h = ((b : ℕ) → at h b ≡ None) × (h.given ≡ h.taken)

-- the counters are those of the heap
abbrev pub HasCounters : Trace → HeapValue → Type 0
HasCounters t h = (t.taken ≡ h.taken) × (t.given ≡ h.given) × (t.reused ≡ h.reused)

-- what passes changed is as before
abbrev pub KeepsChanges : Trace → Trace → Type 0
KeepsChanges old new = (new.code ≡ old.code) × (new.folded ≡ old.folded) × (new.scalarised ≡ old.scalarised)

-- with results all four numbers are those of the cost, with a fault the phases; want of memory says nothing
abbrev pub TellsCost : {A : Type 0} → Result A Stop → Trace → Cost → Type 0
TellsCost (Ok _) t cost = (t.taken ≡ cost.taken) × (t.given ≡ cost.given) × (t.reused ≡ cost.reused) × (t.phases ≡ cost.phases)
TellsCost (Err (Faulted f)) t cost = t.phases ≡ cost.phases
TellsCost (Err Memory) t cost = ⊤

-- with results and with a fault so many phases more were counted, and so many draws, both modulo 2^64; want of memory says nothing
abbrev pub TellsTally : {A : Type 0} → Result A Stop → PhaseTotals → PhaseTotals → Cost → ℕ → Type 0
TellsTally (Ok _) old new cost draws = (new.phases ≡ (old.phases + cost.phases) % 2 ^ 64) × (new.draws ≡ (old.draws + draws) % 2 ^ 64)
TellsTally (Err (Faulted f)) old new cost draws = (new.phases ≡ (old.phases + cost.phases) % 2 ^ 64) × (new.draws ≡ (old.draws + draws) % 2 ^ 64)
TellsTally (Err Memory) old new cost draws = ⊤

-- the draws of a run under a plan: the chunks of all its phases
abbrev pub draws_under : Plan → Ended (List ArrayValue) → ℕ
draws_under plan end = draws_of plan.workers plan.chunk (phases_of end)

-- the same answer, and this holds, or there is no memory
abbrev pub OrMemory : {A : Type 0} → Result A Stop → Result A Stop → Type 0 → Type 0
OrMemory answer (Ok a) holds = (answer ≡ Ok a) × holds
OrMemory answer (Err (Faulted f)) holds = (answer ≡ Err (Faulted f)) × holds
OrMemory answer (Err Memory) holds = Unit {0}

-- ---- the parts of a run

-- what the main function does with arguments
abbrev pub main_in : Context → List ArrayValue → Doing (List ArrayValue)
main_in context args =
    let code = code_program context.code.now in
    main_does context.turns (calls_in context) (slice_get code.functions code.main) args

-- the arrays are the machine's
abbrev pub AreArrays : Vec ArrayValue Global → List ArrayValue → Type 0
AreArrays v ws = v.items ≡ ws

-- the machine has these values, and the store stands for its heap
abbrev pub ArePlaced : List RunValue → Store → Ended (List Value) → Type 0
ArePlaced vs h (Done ws k) = (map value_of vs ≡ ws) × Stands h k
ArePlaced vs h (Failed f phases) = ⊥
