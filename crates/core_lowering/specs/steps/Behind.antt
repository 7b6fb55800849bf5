-- A state with what the lowering makes behind its bindings.
use Rattle.std.specs.Prelude.{ℕ, List, [], ◌++◌}
use Rattle.core_ir.specs.Terms.{LetTerm}
use Rattle.core_lowering.specs.Lowering.{Lowered, LoweredList, LoweredOption, LoweredBlock, LoweredGen, LoweredGens, LoweredOperation, var_in}
use Rattle.core_lowering.specs.steps.Building.{Built, Made, MadeList, MadeOption, MadeScope, MadeGen, MadeGens, MadeOperation}

abbrev pub behind : Built → List LetTerm → ℕ → Built
behind s lets next = record { lets = s.lets ++ lets; next = next }

-- no bindings yet
abbrev pub anew : ℕ → Built
anew n = record { lets = []; next = n }

abbrev pub made_of : Built → Lowered → Made
made_of s a = record { state = behind s a.lets a.next; result = a.result }

abbrev pub list_of : Built → LoweredList → MadeList
list_of s a = record { state = behind s a.lets a.next; results = a.results }

abbrev pub option_of : Built → LoweredOption → MadeOption
option_of s a = record { state = behind s a.lets a.next; result = a.result }

abbrev pub scope_of : Built → LoweredBlock → MadeScope
scope_of s a = record { state = behind s a.lets a.next; scope = var_in a.scope }

abbrev pub gen_of : Built → LoweredGen → MadeGen
gen_of s a = record { state = behind s a.lets a.next; gen = record { head = a.head; body = a.body } }

abbrev pub gens_of : Built → LoweredGens → MadeGens
gens_of s a = record { state = behind s a.lets a.next; gens = a.gens }

abbrev pub operation_of : Built → LoweredOperation → MadeOperation
operation_of s a = record { state = behind s a.lets a.next; op = a.op; site = a.site }
